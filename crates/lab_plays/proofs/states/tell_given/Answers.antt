use Rattle.std.proofs.Common.{inl, inr, map, subst, sym, refl}
use Rattle.evl_plans.specs.Told.{handler_of}
use Rattle.lab_lines.specs.Kinds.{IsPlain}
use Rattle.lab_streams.specs.Lines.{place_text}
use Rattle.lab_plays.proofs.PlayLemmas.{told_as, told_of_line}
use Rattle.lab_plays.specs.States.{TellsGiven}
use Rattle.lab_plays.proofs.states.tell_given.Goals as goal

pub returns-in-Ok-clause-told : goal.returns-in-Ok-clause-told
returns-in-Ok-clause-told g c =
    let is : IsPlain c.args.text.items c.as_slice.result.now = subst (IsPlain c.args.text.items) (sym c.as_slice.ensures.value) c.in-Ok.ensures.plain in
    told_as _ (TellsGiven (map handler_of c.args.plans.now) c.args.limit c.args.name.now c.args.text.items) _ _ _ _ _ c.tell_text.result
    (λ told h. inl (c.as_slice.result.now, is, h)) c.tell_text.ensures.told

pub returns-in_ok-tell_place-in-Err-clause-told : goal.returns-in_ok-tell_place-in-Err-clause-told
returns-in_ok-tell_place-in-Err-clause-told g c =
    let name = c.args.name.now in
    let fault = c.in-Err.fault in
    told_of_line (TellsGiven (map handler_of c.args.plans.now) c.args.limit name c.args.text.items) (place_text name fault) _ _ _
    (λ said is. inr (said, (fault, c.in-Err.ensures.unread, is), refl)) c.in_ok-tell_place-in-Err.ensures.line
