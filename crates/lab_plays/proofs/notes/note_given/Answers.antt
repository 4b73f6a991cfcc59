use Rattle.std.proofs.Common.{◌≡◌, inl, inr, map, subst, sym, string_bytes, true}
use Rattle.evl_plans.specs.Told.{handler_of}
use Rattle.lab_kinds.specs.Kinds.{checked_kind}
use Rattle.lab_lines.specs.Kinds.{IsPlain}
use Rattle.lab_plays.specs.Notes.{NotesKind, NotesText}
use Rattle.lab_plays.proofs.NoteLemmas.{noted_as, noted_of}
use Rattle.lab_plays.proofs.notes.note_given.Goals as goal

pub returns-in-Ok : goal.returns-in-Ok
returns-in-Ok c =
    let bank = map handler_of c.args.plans.now in
    let name = c.args.name.now in
    let plain = c.as_slice.result.now in
    let is : IsPlain c.args.text.items plain = subst (IsPlain c.args.text.items) (sym c.as_slice.ensures.value) c.in-Ok.ensures.plain in
    let old = string_bytes c.args.json.now in
    noted_as (NotesText bank name c.args.text.items old (string_bytes c.note_text.new.json)) (NotesKind bank (checked_kind plain) name plain old (string_bytes c.note_text.new.json)) c.note_text.result
    (λ b h. inl (plain, is, h)) c.note_text.ensures

pub returns-in-Err : goal.returns-in-Err
returns-in-Err c =
    noted_of (NotesText (map handler_of c.args.plans.now) c.args.name.now c.args.text.items (string_bytes c.args.json.now) (string_bytes c.note_place.new.json)) (λ b. b ≡ true) _ c.note_place.result
    (λ b answers written. inr (c.in-Err.fault, c.in-Err.ensures.unread, written, answers)) c.note_place.ensures.answers c.note_place.ensures.written
