use denote.Struct.Declared.{shape}
use denote.Struct.Struct.{Struct}
use denote.Param.Send.{IsSend, param_send, sendable, struct_send}
use Rattle.std.specs.contracts.alloc.Global as Global
use Rattle.std.specs.contracts.impls.GlobalAllocator.TheImpl.{ghosts}
use Rattle.std.proofs.Crossing as heap
use Rattle.evl_base.proofs.Crossing.{declared_send, transfer_send}
use Rattle.evl_scenario.specs.contracts.steps.Step as Step
use Rattle.evl_machine.proofs.Crossing.{caller_send, machine_sync}
use Rattle.test_hosts.specs.contracts.own.Own as Own
use Rattle.test_hosts.specs.contracts.playing.Player as Player
use Rattle.test_hosts.specs.contracts.races.all_play.{C-row}
use Rattle.test_hosts.proofs.races.all_play.Goals as goal

step_send : IsSend Step.the_row
step_send = declared_send Step.the_type (search sendable depth 20, (search (transfer_send, sendable) depth 60 fits 40000, tt))

-- what a host thread has as a field of a player, each of its fields in turn
own_send : IsSend (Struct (shape Own.the_type))
own_send =
    struct_send (shape Own.the_type) (
      search sendable depth 20,
      (
        search sendable depth 40 fits 20000,
        (
          search (heap.crosses, sendable) depth 40 fits 20000,
          (
            search (step_send, heap.crosses, sendable) depth 40 fits 20000,
            (
              search (heap.crosses, sendable) depth 40 fits 20000,
              (
                search (heap.crosses, sendable) depth 40 fits 20000,
                (
                  search (heap.crosses, sendable) depth 40 fits 20000,
                  (
                    search sendable depth 20,
                    tt,
                  ),
                ),
              ),
            ),
          ),
        ),
      ),
    )

pub all_work-requires-sync-M : goal.all_work-requires-sync-M
all_work-requires-sync-M g c κs within = let k = machine_sync _ _ _ c.type_bounds.send-C heap.send heap.sync heap.frees in search (k, sendable)

pub all_work-requires-send-W : goal.all_work-requires-send-W
all_work-requires-send-W g c κs within =
    let caller = caller_send (C-row g.row.C g.row.R) Global.the_row ghosts c.type_bounds.send-C heap.send heap.frees in
    let k = param_send 1 _ (declared_send (Player.the_type (C-row g.row.C g.row.R) Global.the_row ghosts) (caller, (own_send, tt))) in
    record { owned = k.owned; leaving = k.leaving }
