-- Host threads may share a machine whose callbacks and allocator may go to another thread, and hand its callers to one another.
use denote.RattleType.{RattleType}
use denote.Param.Send.{Frees, IsSend, IsSync, sendable, struct_sync, view_send, view_sync}
use Rattle.std.specs.declared.alloc.Allocator.{Ghosts}
use Rattle.std.proofs.CrossingOver.{crosses}
use Rattle.atomic_table.proofs.shared.Seat.TheSendSync.{the_send as seat_send}
use Rattle.atomic_table.proofs.shared.Shared.TheSendSync.{the_sync as table_sync}
use Rattle.atomic_table.proofs.send_lease.SendLease.TheSendSync.{the_sync as lease_sync}
use Rattle.evl_base.proofs.Crossing.{declared_send, declared_sync}
use Rattle.evl_core.proofs.Crossing.{places_send, slot_send}
use Rattle.evl_words.specs.contracts.gate.StaxGate as StaxGate
use Rattle.evl_words.specs.contracts.gate.StaxSeat as StaxSeat
use Rattle.evl_machine.specs.contracts.actor.Actor as Actor
use Rattle.evl_machine.specs.contracts.caller.CallerOf as CallerOf
use Rattle.evl_machine.specs.contracts.elements.gates.Gates as Gates
use Rattle.evl_machine.specs.contracts.elements.stax_seats.StaxSeats as StaxSeats
use Rattle.evl_machine.specs.contracts.machine.MachineOf as MachineOf

module _ (C A : RattleType) (g : Ghosts A.Denot) where
  gate_sync : IsSend A → IsSync A → Frees g g.dealloc_token → IsSync (StaxGate.the_row A g)
  gate_sync a b f = view_sync _ _ _ _ _ (declared_sync (StaxGate.TheInside.the_type A g) (search (table_sync, lease_sync, struct_sync, sendable) depth 40 fits 20000, (search (struct_sync, sendable) depth 20, (search sendable depth 20, tt))))

  gates_sync : IsSend A → IsSync A → Frees g g.dealloc_token → IsSync (Gates.the_row A g)
  gates_sync a b f = let gate = gate_sync a b f in view_sync _ _ _ _ _ (declared_sync (Gates.TheInside.the_type A g) (search (crosses, sendable) depth 20, tt))

  pub machine_sync : IsSend C → IsSend A → IsSync A → Frees g g.dealloc_token → IsSync (MachineOf.the_row C A g)
  machine_sync s a b f =
      let slot = slot_send C A g s a f in
      let gates = gates_sync a b f in
      view_sync _ _ _ _ _ (declared_sync (MachineOf.TheInside.the_type C A g) (search (table_sync, lease_sync, struct_sync, sendable) depth 40 fits 20000, (search sendable depth 20, (gates, (search (crosses, sendable) depth 20, tt)))))

  stax_seat_send : IsSend StaxSeat.the_row
  stax_seat_send = view_send _ _ _ _ _ (declared_send StaxSeat.TheInside.the_type (seat_send _ _ (search sendable depth 20), (search sendable depth 20, (search sendable depth 20, (search (crosses, sendable) depth 20, tt)))))

  staxes_send : IsSend A → Frees g g.dealloc_token → IsSend (StaxSeats.the_row A g)
  staxes_send a f = let seat = stax_seat_send in view_send _ _ _ _ _ (declared_send (StaxSeats.TheInside.the_type A g) (search (crosses, sendable) depth 20, (search sendable depth 20, tt)))

  actor_send : IsSend C → IsSend A → Frees g g.dealloc_token → IsSend (Actor.the_row C A g)
  actor_send s a f =
      let slot = slot_send C A g s a f in
      let staxes = staxes_send a f in
      let places = places_send C A g a f in
      view_send _ _ _ _ _ (declared_send (Actor.TheInside.the_type C A g) (seat_send _ _ slot, (search sendable depth 20, (search sendable depth 20, (search (crosses, sendable) depth 20, (staxes, (places, tt)))))))

  pub caller_send : IsSend C → IsSend A → Frees g g.dealloc_token → IsSend (CallerOf.the_row C A g)
  caller_send s a f = let actor = actor_send s a f in view_send _ _ _ _ _ (declared_send (CallerOf.TheInside.the_type C A g) (actor, tt))
