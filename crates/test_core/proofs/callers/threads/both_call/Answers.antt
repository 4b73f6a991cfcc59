use denote.Struct.Declared.{shape}
use denote.Struct.Struct.{Struct}
use denote.Param.Send.{IsSend, param_send, sendable, struct_send}
use Rattle.std.specs.contracts.alloc.Global as Global
use Rattle.std.specs.contracts.impls.GlobalAllocator.TheImpl.{ghosts}
use Rattle.std.proofs.Crossing as heap
use Rattle.evl_base.proofs.Crossing.{declared_send}
use Rattle.evl_machine.proofs.Crossing.{caller_send, machine_sync}
use Rattle.test_core.specs.contracts.callers.passes.Passes as Passes
use Rattle.test_core.specs.contracts.callers.threads.Hand as Hand
use Rattle.test_core.specs.contracts.callers.threads.both_call.{C-row}
use Rattle.test_core.proofs.callers.threads.both_call.Goals as goal

-- the passes as a field of a hand: the allocator, those of staxes, and those of mutexes
passes_send : IsSend (Struct (shape Passes.the_type))
passes_send =
    struct_send (shape Passes.the_type) (
      search (heap.crosses, sendable) depth 20,
      (
        search (heap.crosses, sendable) depth 40 fits 20000,
        (
          search (heap.crosses, sendable) depth 40 fits 20000,
          tt,
        ),
      ),
    )

pub both_work-one-requires-sync-M : goal.both_work-one-requires-sync-M
both_work-one-requires-sync-M g c κs within = let k = machine_sync _ _ _ c.type_bounds.send-C heap.send heap.sync heap.frees in search (k, sendable)

pub both_work-one-requires-send-W : goal.both_work-one-requires-send-W
both_work-one-requires-send-W g c κs within =
    let caller = caller_send (C-row g.row.C g.row.R) Global.the_row ghosts c.type_bounds.send-C heap.send heap.frees in
    let k = param_send 1 _ (declared_send (Hand.the_type (C-row g.row.C g.row.R) Global.the_row ghosts) (caller, (passes_send, tt))) in
    record { owned = k.owned; leaving = k.leaving }
