use Rattle.std.proofs.Common.{◌≡◌, drop}
use Rattle.std.specs.Prelude.{find}
use Rattle.evl_base.specs.Refusal.{name_of}
use Rattle.lab_scenario_orders.specs.Warnings.{is_always}
use Rattle.lab_scenario_orders.proofs.warnings.first_always.Given as goal

abbrev pub invariant-loop-refusal : goal.invariant-loop-refusal
invariant-loop-refusal l =
    find (λ refusal. is_always l.outcomes l.who (name_of refusal) l.place) (drop l.refusal-index l.all) ≡ find (λ refusal. is_always l.outcomes l.who (name_of refusal) l.place) l.all
