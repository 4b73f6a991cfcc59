use Rattle.std.proofs.Common.{refl}
use Rattle.evl_kernel.proofs.records.Records.wake_any.Goals as goal

pub returns-then-are_none-clause-woken : goal.returns-then-are_none-clause-woken
returns-then-are_none-clause-woken g c = rw (c.are_none.ensures.none c.if-are_none.true) refl
