use Rattle.std.proofs.Common.{ℕ, List, subst}
use Rattle.std.specs.Io.KnownBytes.{Appends}
use Rattle.lab_callers.specs.Faults.{fault_words}
use Rattle.lab_draws.proofs.DrawLemmas.{step_line}
use Rattle.lab_draws.proofs.callers_texts.tell_step.Goals as goal

pub returns-clause-line : goal.returns-clause-line
returns-clause-line g c =
    subst (λ (line : List ℕ). Appends (g.E.Stream.contents c.args.err.now) (g.E.Stream.contents c.writeln.new.self) line)
    (step_line (fault_words c.args.fault) c.words-words.result.now c.args.number c.words-words.ensures) c.in_ok-writeln.ensures.bytes
