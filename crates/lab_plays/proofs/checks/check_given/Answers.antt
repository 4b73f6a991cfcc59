use Rattle.std.proofs.Common.{[], map, inl, inr, subst, sym}
use Rattle.evl_plans.specs.Told.{handler_of}
use Rattle.lab_kinds.specs.Kinds.{checked_kind}
use Rattle.lab_lines.specs.Kinds.{IsPlain}
use Rattle.lab_plays.specs.Checks.{ChecksText, TellsText}
use Rattle.lab_streams.specs.Lines.{place_text}
use Rattle.lab_plays.proofs.CheckLemmas.{printed_as, printed_of}
use Rattle.lab_plays.proofs.checks.check_given.Goals as goal

pub returns-in-Ok-clause-prints : goal.returns-in-Ok-clause-prints
returns-in-Ok-clause-prints g c =
    let bank = map handler_of c.args.plans.now in
    let name = c.args.name.now in
    let plain = c.as_slice.result.now in
    let is : IsPlain c.args.text.items plain = subst (IsPlain c.args.text.items) (sym c.as_slice.ensures.value) c.in-Ok.ensures.plain in
    printed_as (ChecksText bank name c.args.text.items) (TellsText bank (checked_kind plain) name plain []) _ _ c.check_text.result (λ printed b h. inl (plain, is, h)) c.check_text.ensures.prints

pub returns-in-Err-clause-prints : goal.returns-in-Err-clause-prints
returns-in-Err-clause-prints g c =
    let name = c.args.name.now in
    let fault = c.in-Err.fault in
    printed_of (ChecksText (map handler_of c.args.plans.now) name c.args.text.items) (place_text name fault) _ _ c.tell_place.result
    (λ printed is b h. inr ((fault, c.in-Err.ensures.unread, is), h)) c.tell_place.ensures.answer c.tell_place.ensures.line
