use Rattle.std.proofs.Common.{◌≡◌, ◌+◌, ◌++◌, length, map, string_bytes}
use Rattle.evl_plans.specs.Told.{handler_of}
use Rattle.evl_shell.specs.Moments.{moment}
use Rattle.lab_warnings.specs.Runs.{entries_from, state_from}
use Rattle.lab_warnings.specs.Warnings.{steps_lines}
use Rattle.lab_warnings.proofs.steps.make_steps.Given as goal

abbrev pub invariant-loop-step : goal.invariant-loop-step
invariant-loop-step l =
    let first = l.initial.kernel in
    let now = l.kernel in
    let rest = l.step-iterator.rest.items in
    let bank = map handler_of l.bank in
    record {
      left : l.number + length rest ≡ l.count;
      told : string_bytes l.told ++ steps_lines l.name l.counts bank l.number now.limit (moment now) rest ≡ string_bytes l.initial.told ++ steps_lines l.name l.counts bank 0 first.limit (moment first) l.fn.steps.items;
      entries : now.history.entries ++ entries_from now.limit (moment now) rest ≡ first.history.entries ++ entries_from first.limit (moment first) l.fn.steps.items;
      state : state_from now.limit (moment now) rest ≡ state_from first.limit (moment first) l.fn.steps.items;
    }
