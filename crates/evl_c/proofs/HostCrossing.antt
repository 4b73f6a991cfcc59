-- A caller that is kept apart may go to another host thread, with its share of the machine, which host threads share.
use denote.RattleType.{RattleType}
use denote.Struct.Declared.{shape}
use denote.Struct.Struct.{Struct}
use denote.Enum.Declared.{shape as variants}
use denote.Enum.Enum.{Enum}
use denote.Param.Send.{Frees, IsSend, IsSync, enum_send, recorded_send, sendable, struct_send, struct_sync, view_send, view_sync}
use Rattle.std.specs.declared.alloc.Allocator.{Ghosts}
use Rattle.std.specs.contracts.alloc.Global as Heap
use Rattle.std.specs.contracts.impls.GlobalAllocator.TheImpl.{ghosts}
use Rattle.std.proofs.Crossing as heap
use Rattle.std.proofs.CrossingOver.{crosses}
use Rattle.atomic_table.proofs.send_lease.SendLease.TheSendSync.{the_send as lease_send}
use Rattle.atomic_table.proofs.shared.Shared.TheSendSync.{the_send as table_send}
use Rattle.evl_base.specs.contracts.board.Board as Board
use Rattle.evl_base.proofs.Crossing.{board_send, declared_send, declared_sync}
use Rattle.evl_core.proofs.Crossing.{slot_send}
use Rattle.evl_machine.proofs.Crossing.{caller_send, machine_sync}
use Rattle.evl_machine.specs.contracts.elements.gates.Gates as Gates
use Rattle.evl_machine.specs.contracts.machine.MachineOf as MachineOf
use Rattle.evl_pipeline.specs.contracts.action.Action as Action
use Rattle.evl_pipeline.specs.contracts.plan.Plan as Plan
use Rattle.evl_plans.specs.contracts.planned.Planned as Planned
use Rattle.evl_words.specs.contracts.gate.StaxGate as StaxGate
use Rattle.evl_hosts.specs.contracts.hosts.Host as Host
use Rattle.evl_hosts.specs.contracts.shared.Shared as Shared

-- a machine goes whole, too
module _ (C A : RattleType) (g : Ghosts A.Denot) where
  gate_send : IsSend A → Frees g g.dealloc_token → IsSend (StaxGate.the_row A g)
  gate_send a f = view_send _ _ _ _ _ (declared_send (StaxGate.TheInside.the_type A g) (search (table_send, lease_send, struct_send, sendable) depth 40 fits 20000, (search (struct_send, sendable) depth 20, (search sendable depth 20, tt))))

  gates_send : IsSend A → Frees g g.dealloc_token → IsSend (Gates.the_row A g)
  gates_send a f = let gate = gate_send a f in view_send _ _ _ _ _ (declared_send (Gates.TheInside.the_type A g) (search (crosses, sendable) depth 20, tt))

  pub machine_send : IsSend C → IsSend A → Frees g g.dealloc_token → IsSend (MachineOf.the_row C A g)
  machine_send s a f =
      let slot = slot_send C A g s a f in
      let gates = gates_send a f in
      view_send _ _ _ _ _ (declared_send (MachineOf.TheInside.the_type C A g) (search (table_send, lease_send, struct_send, sendable) depth 40 fits 20000, (search sendable depth 20, (gates, (search (crosses, sendable) depth 20, tt)))))

-- an action, a plan as a field of a callback, and the callback
action_send : IsSend (Enum (variants Action.the_type))
action_send =
    enum_send (variants Action.the_type)
    ((search sendable depth 20, tt), ((search sendable depth 20, (search sendable depth 20, tt)), (tt, ((search sendable depth 20, tt), ((search sendable depth 20, tt), tt)))))

any_action_send : IsSend Action.the_row
any_action_send = search (action_send, recorded_send) depth 20

plan_send : IsSend (Struct (shape Plan.the_type))
plan_send =
    let action = action_send in let any = any_action_send in
    struct_send (shape Plan.the_type) (search sendable depth 20, (search (crosses, sendable) depth 40 fits 20000, tt))

pub planned_send : IsSend Planned.the_row
planned_send = declared_send Planned.the_type (search sendable depth 20, (plan_send, (search (heap.crosses, sendable) depth 20, tt)))

-- a board as a field of a struct that is shared
board_sync : IsSync (Struct (shape Board.the_type))
board_sync = struct_sync (shape Board.the_type) (search (crosses, sendable) depth 20, (search (crosses, sendable) depth 20, (search (crosses, sendable) depth 20, (search (crosses, sendable) depth 20, (search (crosses, sendable) depth 20, (search (crosses, sendable) depth 20, (search (crosses, sendable) depth 20, tt)))))))

shared_send : IsSend Shared.the_row
shared_send =
    let machine = machine_send Planned.the_row Heap.the_row ghosts planned_send heap.send heap.frees in
    view_send _ _ _ _ _ (declared_send Shared.TheInside.the_type (machine, (board_send, (search sendable depth 20, tt))))

shared_sync : IsSync Shared.the_row
shared_sync =
    let machine = machine_sync Planned.the_row Heap.the_row ghosts planned_send heap.send heap.sync heap.frees in
    view_sync _ _ _ _ _ (declared_sync Shared.TheInside.the_type (machine, (board_sync, (search sendable depth 20, tt))))

pub host_send : IsSend Host.the_row
host_send =
    let caller = caller_send Planned.the_row Heap.the_row ghosts planned_send heap.send heap.frees in
    let share = heap.Arc-send Shared.the_row shared_send shared_sync in
    view_send _ _ _ _ _
    (declared_send Host.TheInside.the_type (share, (search (crosses, sendable) depth 20, (search (heap.crosses, sendable) depth 40 fits 20000, (search (heap.crosses, sendable) depth 40 fits 20000, tt)))))
