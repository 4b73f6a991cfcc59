-- A history may go to another host thread, as its allocator may.
use denote.Builtin.{u8}
use denote.Enum.Declared.{shape}
use denote.RattleType.{RattleType}
use denote.Param.Send.{Frees, IsSend, enum_send, recorded_send, sendable, view_send}
use Rattle.std.specs.declared.alloc.Allocator.{Ghosts}
use Rattle.std.specs.contracts.vec.Vec as Vec
use Rattle.std.proofs.CrossingOver.{crosses}
use Rattle.std.proofs.Crossing as heap
use Rattle.evl_base.specs.contracts.entry.Entry as Entry
use Rattle.evl_base.proofs.Crossing.{declared_send, entry_send}
use Rattle.evl_history.specs.contracts.history.History as History
use Rattle.evl_history.specs.contracts.row.Brief as Brief
use Rattle.evl_history.specs.contracts.row.Head as Head
use Rattle.evl_history.specs.contracts.row.Row as Row

brief_send : IsSend Brief.the_row
brief_send = search sendable depth 40 fits 20000

head_send : IsSend Head.the_row
head_send = declared_send Head.the_type (search sendable depth 20, (search sendable depth 20, tt))

-- of each variant what it holds
row_send : IsSend Row.the_row
row_send = recorded_send _ _ Row.the_type.to Row.the_type.to_one (enum_send (shape Row.the_type) (
  search (brief_send, head_send, sendable) depth 30,
  (
    search (brief_send, head_send, sendable) depth 30,
    (
      search (brief_send, head_send, sendable) depth 30,
      (
        search (brief_send, head_send, sendable) depth 30,
        (
          search (brief_send, head_send, sendable) depth 30,
          (
            search (brief_send, head_send, sendable) depth 30,
            (
              search (brief_send, head_send, sendable) depth 30,
              (
                search (brief_send, head_send, sendable) depth 30,
                (
                  search (brief_send, head_send, sendable) depth 30,
                  (
                    search (brief_send, head_send, sendable) depth 30,
                    (
                      search (brief_send, head_send, sendable) depth 30,
                      (
                        search (brief_send, head_send, sendable) depth 30,
                        (
                          search (brief_send, head_send, sendable) depth 30,
                          (
                            search (brief_send, head_send, sendable) depth 30,
                            (
                              search (brief_send, head_send, sendable) depth 30,
                              (
                                search (brief_send, head_send, sendable) depth 30,
                                (
                                  search (brief_send, head_send, sendable) depth 30,
                                  (
                                    search (brief_send, head_send, sendable) depth 30,
                                    (
                                      search (brief_send, head_send, sendable) depth 30,
                                      (
                                        search (brief_send, head_send, sendable) depth 30,
                                        (
                                          search (brief_send, head_send, sendable) depth 30,
                                          (
                                            search (brief_send, head_send, sendable) depth 30,
                                            (
                                              search (brief_send, head_send, sendable) depth 30,
                                              (
                                                search (brief_send, head_send, sendable) depth 30,
                                                (
                                                  search (brief_send, head_send, sendable) depth 30,
                                                  (
                                                    search (brief_send, head_send, sendable) depth 30,
                                                    (
                                                      search (brief_send, head_send, sendable) depth 30,
                                                      (
                                                        search (brief_send, head_send, sendable) depth 30,
                                                        (
                                                          search (brief_send, head_send, sendable) depth 30,
                                                          (
                                                            search (brief_send, head_send, sendable) depth 30,
                                                            (
                                                              search (brief_send, head_send, sendable) depth 30,
                                                              (
                                                                search (brief_send, head_send, sendable) depth 30,
                                                                (
                                                                  search (brief_send, head_send, sendable) depth 30,
                                                                  (
                                                                    search (brief_send, head_send, sendable) depth 30,
                                                                    (
                                                                      search (brief_send, head_send, sendable) depth 30,
                                                                      (
                                                                        search (brief_send, head_send, sendable) depth 30,
                                                                        (
                                                                          search (brief_send, head_send, sendable) depth 30,
                                                                          (
                                                                            search (brief_send, head_send, sendable) depth 30,
                                                                            (search (brief_send, head_send, sendable) depth 30, tt),
                                                                          ),
                                                                        ),
                                                                      ),
                                                                    ),
                                                                  ),
                                                                ),
                                                              ),
                                                            ),
                                                          ),
                                                        ),
                                                      ),
                                                    ),
                                                  ),
                                                ),
                                              ),
                                            ),
                                          ),
                                        ),
                                      ),
                                    ),
                                  ),
                                ),
                              ),
                            ),
                          ),
                        ),
                      ),
                    ),
                  ),
                ),
              ),
            ),
          ),
        ),
      ),
    ),
  ),
))

module _ (A : RattleType) (g : Ghosts A.Denot) where
  rows_send : IsSend A → Frees g g.dealloc_token → IsSend (Vec.the_row Row.the_row A g)
  rows_send a f = let row = row_send in search (crosses, sendable) depth 20

  wide_send : IsSend A → Frees g g.dealloc_token → IsSend (Vec.the_row Entry.the_row A g)
  wide_send a f = search (entry_send, crosses, sendable) depth 20

  bytes_send : IsSend A → Frees g g.dealloc_token → IsSend (Vec.the_row u8 A g)
  bytes_send a f = search (crosses, sendable) depth 20

  pub history_send : IsSend A → Frees g g.dealloc_token → IsSend (History.the_row A g)
  history_send a f =
      let rows = rows_send a f in let wide = wide_send a f in let bytes = bytes_send a f in
      search (view_send, declared_send, heap.crosses, crosses, sendable) depth 20 fits 20000
