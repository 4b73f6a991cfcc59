use Rattle.std.proofs.KnownBytes.{Appends-trans}
use Rattle.lab_asks.proofs.alone.print_head.Goals as goal

pub returns-clause-text : goal.returns-clause-text
returns-clause-text g c = Appends-trans _ _ _ _ _ c.in_ok-print_orders.ensures.text c.in_ok-print_against.ensures.text
