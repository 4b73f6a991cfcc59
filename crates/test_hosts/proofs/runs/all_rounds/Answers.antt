use denote.Struct.Declared.{shape}
use denote.Struct.Struct.{Struct}
use denote.Param.Send.{IsSend, param_send, sendable, struct_send}
use Rattle.std.specs.contracts.alloc.Global as Global
use Rattle.std.specs.contracts.impls.GlobalAllocator.TheImpl.{ghosts}
use Rattle.std.proofs.Crossing as heap
use Rattle.evl_base.proofs.Crossing.{declared_send}
use Rattle.evl_machine.proofs.Crossing.{caller_send, machine_sync}
use Rattle.test_hosts.specs.contracts.session.Hand as Hand
use Rattle.test_hosts.specs.contracts.tools.Tools as Tools
use Rattle.test_hosts.specs.contracts.runs.all_rounds.{C-row}
use Rattle.test_hosts.proofs.runs.all_rounds.Goals as goal

-- the tools as a field of a hand, each of their fields in turn
tools_send : IsSend (Struct (shape Tools.the_type))
tools_send =
    struct_send (shape Tools.the_type) (
      search sendable depth 20,
      (
        search sendable depth 40 fits 20000,
        (
          search sendable depth 20,
          (
            search (heap.crosses, sendable) depth 20,
            (
              search (heap.crosses, sendable) depth 40 fits 20000,
              (
                search (heap.crosses, sendable) depth 40 fits 20000,
                (
                  search (heap.crosses, sendable) depth 40 fits 20000,
                  (
                    search sendable depth 40 fits 20000,
                    (
                      search sendable depth 20,
                      (
                        search sendable depth 40 fits 20000,
                        (
                          search sendable depth 40 fits 20000,
                          (
                            search sendable depth 20,
                            (
                              search sendable depth 20,
                              tt,
                            ),
                          ),
                        ),
                      ),
                    ),
                  ),
                ),
              ),
            ),
          ),
        ),
      ),
    )

pub all_work-requires-sync-M : goal.all_work-requires-sync-M
all_work-requires-sync-M g c κs within = let k = machine_sync _ _ _ c.type_bounds.send-C heap.send heap.sync heap.frees in search (k, sendable)

pub all_work-requires-send-W : goal.all_work-requires-send-W
all_work-requires-send-W g c κs within =
    let caller = caller_send (C-row g.row.C g.row.R) Global.the_row ghosts c.type_bounds.send-C heap.send heap.frees in
    let k = param_send 1 _ (declared_send (Hand.the_type (C-row g.row.C g.row.R) Global.the_row ghosts) (caller, (tools_send, (search sendable depth 20, (search sendable depth 20, tt))))) in
    record { owned = k.owned; leaving = k.leaving }
