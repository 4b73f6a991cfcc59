use Rattle.std.proofs.Common.{◌≡◌, ◌++◌, length, map}
use Rattle.std.specs.Prelude.{string_bytes}
use Rattle.lab_scenario_orders.specs.AskingAlone.{kept_from}
use Rattle.lab_scenario_orders.proofs.asking_alone.all_kept.Given as goal

abbrev pub invariant-loop-text : goal.invariant-loop-text
invariant-loop-text l =
    map string_bytes l.all.items ++ kept_from l.told (length l.all.items) (map string_bytes l.text-iterator.rest.items) ≡ kept_from l.told 0 (map string_bytes l.fn.answers.items)
