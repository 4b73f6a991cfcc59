use Rattle.std.proofs.Common.{codes, inl, inr, map, option_map, subst, sym}
use Rattle.std.specs.Prelude.{unwrap_or}
use Rattle.evl_plans.specs.Told.{handler_of as told_by}
use Rattle.lab_lines.specs.Kinds.{IsOfCallers}
use Rattle.lab_streams.specs.Lines.{place_text}
use Rattle.lab_asks.specs.Orders.{TellsEither, TellsGiven}
use Rattle.lab_streams.proofs.OutputLemmas.{told_of, unread_said, written_as}
use Rattle.lab_asks.proofs.orders.tell_given.Goals as goal

pub returns-in-Ok-clause-writes : goal.returns-in-Ok-clause-writes
returns-in-Ok-clause-writes g c =
    let name = unwrap_or (option_map (λ file. file.now) c.args.asked.now.file) (codes "-") in
    let bank = map told_by c.args.plans.now in
    let most = c.args.asked.now.most in
    let one = c.args.asked.now.shown in
    let is : IsOfCallers c.args.text.items c.as_slice.result.now = subst (IsOfCallers c.args.text.items) (sym c.as_slice.ensures.value) c.in-Ok.ensures.plain in
    written_as _ (TellsGiven bank most one name c.args.text.items) _ _ _ _ (TellsEither bank most one name c.as_slice.result.now) c.tell_either.result
    (λ output h. inl (c.as_slice.result.now, is, h)) c.tell_either.ensures.writes

pub returns-in-Err-clause-writes : goal.returns-in-Err-clause-writes
returns-in-Err-clause-writes g c =
    let name = unwrap_or (option_map (λ file. file.now) c.args.asked.now.file) (codes "-") in
    let text = c.args.text.items in
    let fault = c.in-Err.fault in
    told_of _ (TellsGiven (map told_by c.args.plans.now) c.args.asked.now.most c.args.asked.now.shown name text) _ _ _ (λ l. l) (place_text name fault) c.tell_place.result c.refused.result
    (λ output h. inr (unread_said name text fault output c.in-Err.ensures.unread h)) (rw c.name.ensures at c.tell_place.ensures.line) c.refused.ensures.status
