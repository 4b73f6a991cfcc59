use Rattle.std.proofs.Common.{◌∙◌, List, ℕ, OnOk, subst}
use Rattle.std.specs.Io.KnownBytes.{Appends}
use Rattle.lab_asks.proofs.answers.print_answers.Goals as goal

pub returns-in-Ok-clause-text : goal.returns-in-Ok-clause-text
returns-in-Ok-clause-text g c =
    subst (λ (l : List ℕ). OnOk c.write_all.result (Appends (g.O.Stream.contents c.args.out.now) (g.O.Stream.contents c.write_all.new.self) l))
    (c.as_slice.ensures.value ∙ c.in-Ok.ensures) c.write_all.ensures.bytes
