-- A kernel may go to another host thread, as its callbacks and its allocator may.
use denote.RattleType.{RattleType}
use denote.Struct.Declared.{shape}
use denote.Struct.Struct.{Struct}
use denote.Param.Send.{Frees, IsSend, sendable, struct_send, view_send}
use Rattle.std.specs.declared.alloc.Allocator.{Ghosts}
use Rattle.std.specs.contracts.vec.Vec as Vec
use Rattle.std.proofs.CrossingOver.{crosses}
use Rattle.std.proofs.Crossing as heap
use Rattle.evl_base.specs.contracts.play.Play as Play
use Rattle.evl_base.proofs.Crossing.{board_send, declared_send, play_send, spares_send, transfer_send}
use Rattle.evl_history.proofs.Crossing.{history_send}
use Rattle.evl_pipeline.proofs.Crossing.{pipeline_send}
use Rattle.evl_clock.proofs.Crossing.{clock_send}
use Rattle.evl_sched.proofs.Crossing.{sched_send}
use Rattle.evl_sync.proofs.Crossing.{flag_group_send, sem_send}
use Rattle.evl_sync.specs.contracts.sem.Sem as Sem
use Rattle.evl_sync.specs.contracts.flag_group.FlagGroup as FlagGroup
use Rattle.evl_sync.specs.contracts.flag_waiter.TakenBits as FlagServed
use Rattle.evl_xbuf.proofs.Crossing.{served_send, xbuf_send}
use Rattle.evl_mutex.proofs.Crossing.{owners_send}
use Rattle.evl_xbuf.specs.contracts.xbuf.XbufOf as XbufOf
use Rattle.evl_bitmap.specs.contracts.word.Word as Word
use Rattle.evl_kernel.specs.contracts.changed_threads.ChangedThreads as ChangedThreads
use Rattle.evl_kernel.specs.contracts.elements.Elements as Elements
use Rattle.evl_kernel.specs.contracts.wait_place.WaitPlace as WaitPlace
use Rattle.evl_kernel.specs.contracts.waits.Wait as Wait
use Rattle.evl_kernel.specs.contracts.bank.BankPlace as BankPlace
use Rattle.evl_kernel.specs.contracts.bank.Numbered as Numbered
use Rattle.evl_kernel.specs.contracts.records.Records as Records
use Rattle.evl_kernel.specs.contracts.records.Records.TheInside as Inside
use Rattle.evl_kernel.specs.contracts.kernel.KernelOf as KernelOf
use Rattle.evl_kernel.specs.contracts.kernel.KernelOf.TheInside as KernelInside
use Rattle.evl_kernel.specs.contracts.served_lists.ServedLists as ServedLists

flag_served_send : IsSend FlagServed.the_row
flag_served_send = search (declared_send, crosses, sendable) depth 20

-- the lists as the field of a kernel
lists_send : IsSend (Struct (shape ServedLists.the_type))
lists_send =
    let of_flags = flag_served_send in let of_xbufs = served_send in
    search (declared_send, struct_send, heap.crosses, crosses, sendable) depth 40 fits 20000

module _ (C A : RattleType) (g : Ghosts A.Denot) where
  plays_send : IsSend A → Frees g g.dealloc_token → IsSend (Vec.the_row Play.the_row A g)
  plays_send a f = search (play_send, crosses, sendable) depth 20

  places_send : IsSend C → IsSend A → Frees g g.dealloc_token → IsSend (Vec.the_row (BankPlace.the_row C) A g)
  places_send s a f = search (declared_send, crosses, sendable) depth 20 fits 20000

  numbered_send : IsSend C → IsSend (Numbered.the_row C)
  numbered_send s = search (declared_send, crosses, sendable) depth 20

  sems_send : IsSend A → Frees g g.dealloc_token → IsSend (Vec.the_row Sem.the_row A g)
  sems_send a f = search (sem_send, crosses, sendable) depth 20

  flags_send : IsSend A → Frees g g.dealloc_token → IsSend (Vec.the_row FlagGroup.the_row A g)
  flags_send a f = search (flag_group_send, crosses, sendable) depth 20

  xbufs_send : IsSend A → Frees g g.dealloc_token → IsSend (Vec.the_row (XbufOf.the_row A g) A g)
  xbufs_send a f = let xbuf = xbuf_send A g a f in search (crosses, sendable) depth 20

  elements_send : IsSend A → Frees g g.dealloc_token → IsSend (Elements.the_row A g)
  elements_send a f =
      let sems = sems_send a f in let flags = flags_send a f in let xbufs = xbufs_send a f in let owners = owners_send A g a f in
      search (view_send, crosses, sendable) depth 20

  waits_send : IsSend A → Frees g g.dealloc_token → IsSend (Vec.the_row WaitPlace.the_row A g)
  waits_send a f =
      let wait : IsSend Wait.the_row = search (transfer_send, declared_send, crosses, sendable) depth 40 fits 20000 in
      let place : IsSend WaitPlace.the_row = search (transfer_send, view_send, declared_send, crosses, sendable) depth 20 fits 20000 in
      search (crosses, sendable) depth 20

changes_send : IsSend ChangedThreads.the_row
changes_send =
    let word : IsSend Word.the_row = search (declared_send, crosses, sendable) depth 20 in
    search (view_send, declared_send, crosses, sendable) depth 40 fits 20000

module _ (C A : RattleType) (g : Ghosts A.Denot) where
  records_send : IsSend C → IsSend A → Frees g g.dealloc_token → IsSend (Records.the_row C A g)
  records_send s a f =
      let places = places_send C A g s a f in let lines = pipeline_send (Numbered.the_row C) A g (numbered_send C A g s) a f in
      let clock = clock_send (Numbered.the_row C) A g (numbered_send C A g s) a f in let sched = sched_send A g a f in let elements = elements_send C A g a f in
      let changes = changes_send in let waits = waits_send C A g a f in
      view_send _ _ _ _ _ (declared_send (Inside.the_type C A g) (search sendable, (elements, (changes, (places, (lines, (clock, (sched, (waits, tt)))))))))

  pub kernel_send : IsSend C → IsSend A → Frees g g.dealloc_token → IsSend (KernelOf.the_row C A g)
  kernel_send s a f =
      let records = records_send s a f in let board = board_send in let plays = plays_send C A g a f in let history = history_send A g a f in let spares = spares_send A g a f in
      view_send _ _ _ _ _ (declared_send (KernelInside.the_type C A g) (board, (records, (history, (plays, (spares, (lists_send, (search sendable, (search sendable, tt)))))))))
