use Rattle.std.proofs.Common.{◌≡◌, ◌++◌, List}
use Rattle.std.specs.Prelude.{vec_len}
use Rattle.evl_core.specs.rule.Known.{seen}
use Rattle.evl_machine.specs.callers.Handles.{CallerState}
use Rattle.evl_machine.specs.calls.Closings.{accounts_back, gathered}
use Rattle.evl_machine.proofs.machine.MachineOf.gather_all.Given as goal

abbrev pub invariant-loop-caller : goal.invariant-loop-caller
invariant-loop-caller g l =
    (done : List (CallerState g.row.C.Denot)) × (l.callers.items ++ done ≡ l.fn.callers.items) × (l.seat.table_id ≡ l.fn.seat.table_id) × (seen l.seat.me ≡ gathered (seen l.fn.seat.me) (accounts_back done))

abbrev pub decreases-loop-caller : goal.decreases-loop-caller
decreases-loop-caller g l = vec_len l.callers
