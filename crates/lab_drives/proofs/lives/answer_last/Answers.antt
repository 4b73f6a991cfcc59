use Rattle.std.proofs.Common.{◌≡◌, ◌∙◌, ◌++◌, List, ℕ, ap, subst}
use Rattle.std.specs.Io.KnownBytes.{Appends}
use Rattle.lab_drives.proofs.LiveLemmas.{on_ok}
use Rattle.lab_drives.proofs.lives.answer_last.Goals as goal

pub returns-clause-answers : goal.returns-clause-answers
returns-clause-answers g c =
    let (answer, line, grown) = c.in_ok-answer.ensures in
    let is : c.as_bytes.result.now ≡ answer = c.as_bytes.ensures.value ∙ grown ∙ ap (λ (l : List ℕ). l ++ answer) c.new-told.ensures.bytes in
    on_ok c.write_all.result (Appends (g.O.Stream.contents c.args.out.now) (g.O.Stream.contents c.write_all.new.self) c.as_bytes.result.now) _
    (λ h. (answer, line, subst (λ (l : List ℕ). Appends (g.O.Stream.contents c.args.out.now) (g.O.Stream.contents c.write_all.new.self) l) is h)) c.write_all.ensures.bytes
