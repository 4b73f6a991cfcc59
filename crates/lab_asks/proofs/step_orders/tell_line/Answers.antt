use Rattle.std.proofs.Common.{ℕ, List, subst}
use Rattle.std.specs.Io.KnownBytes.{Appends}
use Rattle.lab_asks.proofs.StepOrderLemmas.{about_line}
use Rattle.lab_asks.proofs.step_orders.tell_line.Goals as goal

pub returns-clause-text : goal.returns-clause-text
returns-clause-text g c =
    subst (λ (line : List ℕ). Appends (g.E.Stream.contents c.args.err.now) (g.E.Stream.contents c.writeln.new.self) line)
    (about_line c.args.name.now c.args.words.now c.args.line) c.in_ok-writeln.ensures.bytes
