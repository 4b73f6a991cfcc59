-- A pipeline may go to another host thread, as its callbacks and its allocator may.
use denote.Builtin.{u32, u64}
use denote.RattleType.{RattleType}
use denote.Param.Send.{Frees, IsSend, sendable, view_send}
use Rattle.std.specs.declared.alloc.Allocator.{Ghosts}
use Rattle.std.specs.contracts.option.Option as Option
use Rattle.std.specs.contracts.vec.Vec as Vec
use Rattle.std.proofs.CrossingOver.{crosses}
use Rattle.std.proofs.Crossing as heap
use Rattle.slab.specs.contracts.Slab as Slab
use Rattle.evl_base.proofs.Crossing.{declared_send}
use Rattle.evl_bitmap.specs.declared.level.Level.{Ghosts as Levels}
use Rattle.evl_bitmap.specs.contracts.bitmap.Bitmap as Bitmap
use Rattle.evl_bitmap.specs.contracts.word.Word as Word
use Rattle.evl_pipeline.specs.contracts.by_line.ByLine as ByLine
use Rattle.evl_pipeline.specs.declared.by_line.Blank.{Ghosts as Blanks}
use Rattle.evl_pipeline.specs.contracts.pipeline.PipelineOf as PipelineOf
use Rattle.evl_pipeline.specs.contracts.held.Held as Held
use Rattle.evl_pipeline.specs.contracts.log.Log as Log
use Rattle.evl_pipeline.specs.contracts.port.Port as Port
use Rattle.evl_pipeline.specs.contracts.side.SideOf as SideOf

port_send : IsSend (Option.the_row Port.the_row)
port_send = search (declared_send, sendable) depth 20

module _ (C A : RattleType) (g : Ghosts A.Denot) where
  words_send : IsSend A → Frees g g.dealloc_token → IsSend (Vec.the_row u32 A g)
  words_send a f = search (crosses, sendable) depth 20

  -- a bitmap over any level
  bitmap_send : (L : RattleType) (h : Levels L.Denot) → IsSend L → IsSend A → Frees g g.dealloc_token → IsSend (Bitmap.the_row L A h g)
  bitmap_send L h l a f = let words = words_send a f in search (view_send, declared_send, crosses, sendable) depth 40 fits 20000

  log_send : IsSend A → Frees g g.dealloc_token → IsSend (Log.the_row A g)
  log_send a f =
      let word : IsSend Word.the_row = search (declared_send, crosses, sendable) depth 20 in
      search (bitmap_send, view_send, declared_send, crosses, sendable) depth 40 fits 20000

  -- what is kept for each line
  by_line_send : (T : RattleType) (b : Blanks T.Denot) → IsSend T → IsSend A → Frees g g.dealloc_token → IsSend (ByLine.the_row T A b g)
  by_line_send T b t a f =
      let written : IsSend (Vec.the_row T A g) = search (crosses, sendable) depth 20 in
      search (view_send, declared_send, crosses, sendable) depth 40 fits 20000

  slab_send : IsSend C → IsSend A → Frees g g.dealloc_token → IsSend (Slab.the_row (Held.the_row C) A g)
  slab_send s a f =
      let held : IsSend (Held.the_row C) = search (declared_send, crosses, sendable) depth 20 in
      search (view_send, declared_send, crosses, sendable) depth 40 fits 20000

  side_send : IsSend C → IsSend A → Frees g g.dealloc_token → IsSend (SideOf.the_row C A g)
  side_send s a f =
      let log = log_send a f in let slab = slab_send s a f in
      search (by_line_send, port_send, view_send, declared_send, crosses, sendable) depth 40 fits 20000

  pub pipeline_send : IsSend C → IsSend A → Frees g g.dealloc_token → IsSend (PipelineOf.the_row C A g)
  pipeline_send s a f = let side = side_send s a f in search (by_line_send, view_send, declared_send, heap.crosses, crosses, sendable) depth 20 fits 20000
