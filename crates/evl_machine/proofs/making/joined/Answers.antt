use Rattle.std.proofs.Common.{sym, subst}
use Rattle.evl_machine.specs.calls.Makings.{AreMade}
use Rattle.evl_machine.proofs.making.joined.Goals as goal

-- src/making.rt:126:32
pub with_seats-requires-clause-made : goal.with_seats-requires-clause-made
with_seats-requires-clause-made g c = subst (λ k. AreMade k.history.board c.args.parts.elements) (sym c.in-Ok.ensures.key) c.requires.made
