-- All that may go to another host thread: a struct where its fields may; an entry, a play, a board.
use denote.RattleType.{RattleType}
use denote.Struct.Declared.{Declared, row, shape}
use denote.Struct.Struct.{Struct}
use denote.Param.Send.{Frees, AllSend, AllSync, IsSend, IsSync, sendable, view_send, recorded_send, recorded_sync, struct_send, struct_sync}
use Rattle.std.specs.declared.alloc.Allocator.{Ghosts}
use Rattle.std.specs.contracts.vec.Vec as Vec
use Rattle.std.proofs.CrossingOver.{crosses}
use Rattle.std.proofs.Crossing as heap
use Rattle.evl_base.specs.contracts.board.Board as Board
use Rattle.evl_base.specs.contracts.entry.Entry as Entry
use Rattle.evl_base.specs.contracts.play.Play as Play
use Rattle.evl_base.specs.contracts.transfer.Transfer as Transfer
use Rattle.evl_base.specs.contracts.transfer.Spares as Spares

pub declared_send : (T : Declared) → AllSend (shape T).fields → IsSend (row T)
declared_send T s = recorded_send _ _ T.to T.to_one (struct_send (shape T) s)

pub declared_sync : (T : Declared) → AllSync (shape T).fields → IsSync (row T)
declared_sync T s = recorded_sync _ _ T.to T.to_one (struct_sync (shape T) s)

-- a board as a field of a struct
pub board_send : IsSend (Struct (shape Board.the_type))
board_send = struct_send (shape Board.the_type) (search (crosses, sendable) depth 20, (search (crosses, sendable) depth 20, (search (crosses, sendable) depth 20, (search (crosses, sendable) depth 20, (search (crosses, sendable) depth 20, (search (crosses, sendable) depth 20, (search (crosses, sendable) depth 20, tt)))))))

pub play_send : IsSend Play.the_row
play_send = search (heap.crosses, crosses, sendable) depth 20 fits 20000

-- the bytes of a transfer, in their box
pub transfer_send : IsSend Transfer.the_row
transfer_send = search (view_send, declared_send, heap.crosses, crosses, sendable) depth 20 fits 20000

pub entry_send : IsSend Entry.the_row
entry_send = declared_send Entry.the_type (search sendable depth 20, (search (transfer_send, sendable) depth 60 fits 40000, (search (transfer_send, sendable) depth 40 fits 20000, (search sendable depth 20, tt))))

-- boxes that are kept
module _ (A : RattleType) (g : Ghosts A.Denot) where
  boxes_send : IsSend A → Frees g g.dealloc_token → IsSend (Vec.the_row Transfer.the_row A g)
  boxes_send a f = search (transfer_send, crosses, sendable) depth 20

  pub spares_send : IsSend A → Frees g g.dealloc_token → IsSend (Spares.the_row A g)
  spares_send a f = let boxes = boxes_send a f in search (view_send, declared_send, heap.crosses, crosses, sendable) depth 20
