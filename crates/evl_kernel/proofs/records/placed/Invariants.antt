use Rattle.evl_kernel.specs.state.Callbacks.{AreFilled}
use Rattle.evl_kernel.proofs.records.placed.Given as goal

abbrev pub invariant-loop-callback : goal.invariant-loop-callback
invariant-loop-callback g l = AreFilled g.C.Handler.declared g.C.Handler.plan l.yielded l.places.items
