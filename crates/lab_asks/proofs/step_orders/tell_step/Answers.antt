use Rattle.std.proofs.Common.{ℕ, List, subst}
use Rattle.std.specs.Io.KnownBytes.{Appends}
use Rattle.lab_step_texts.specs.Faults.{step_words}
use Rattle.lab_asks.proofs.StepOrderLemmas.{step_line}
use Rattle.lab_asks.proofs.step_orders.tell_step.Goals as goal

pub returns-clause-text : goal.returns-clause-text
returns-clause-text g c =
    subst (λ (line : List ℕ). Appends (g.E.Stream.contents c.args.err.now) (g.E.Stream.contents c.writeln.new.self) line)
    (step_line c.args.name.now (step_words c.args.fault) c.words-words.result.now c.args.number c.words-words.ensures) c.in_ok-writeln.ensures.bytes
