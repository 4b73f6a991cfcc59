use Rattle.std.proofs.Common.{ℕ, List, subst}
use Rattle.std.specs.Io.KnownBytes.{Appends}
use Rattle.lab_asks.proofs.OrderLemmas.{made_line}
use Rattle.lab_asks.proofs.one_order.tell_no_step.Goals as goal

pub returns-clause-line : goal.returns-clause-line
returns-clause-line g c =
    subst (λ (line : List ℕ). Appends (g.E.Stream.contents c.args.err.now) (g.E.Stream.contents c.writeln.new.self) line) (made_line c.args.name.now c.args.number) c.in_ok-writeln.ensures.bytes
