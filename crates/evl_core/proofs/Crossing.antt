-- A kernel in its box, what lies in the slot, and a thread's places may go to another host thread, where the callbacks and the allocator may.
use denote.RattleType.{RattleType}
use denote.Param.Send.{Frees, IsSend, sendable, view_send}
use Rattle.std.specs.declared.alloc.Allocator.{Ghosts}
use Rattle.std.specs.contracts.option.Option as Option
use Rattle.std.proofs.CrossingOver.{crosses}
use Rattle.evl_base.proofs.Crossing.{declared_send}
use Rattle.evl_kernel.proofs.Crossing.{kernel_send}
use Rattle.evl_words.specs.contracts.mutex.place.MutexPlace as MutexPlace
use Rattle.evl_core.specs.contracts.kernel_box.KernelBox as KernelBox
use Rattle.evl_core.specs.contracts.mutex_places.MutexPlaces as MutexPlaces

module _ (C A : RattleType) (g : Ghosts A.Denot) where
  pub box_send : IsSend C → IsSend A → Frees g g.dealloc_token → IsSend (KernelBox.the_row C A g)
  box_send s a f = let kernel = kernel_send C A g s a f in search (view_send, declared_send, crosses, sendable) depth 20

  pub slot_send : IsSend C → IsSend A → Frees g g.dealloc_token → IsSend (Option.the_row (KernelBox.the_row C A g))
  slot_send s a f = let kernel = box_send s a f in search (crosses, sendable) depth 20

  pub places_send : IsSend A → Frees g g.dealloc_token → IsSend (MutexPlaces.the_row A g)
  places_send a f = let place : IsSend MutexPlace.the_row = search (declared_send, crosses, sendable) depth 20 in view_send _ _ _ _ _ (declared_send (MutexPlaces.TheInside.the_type A g) (search (crosses, sendable) depth 20, (search sendable depth 20, tt)))
