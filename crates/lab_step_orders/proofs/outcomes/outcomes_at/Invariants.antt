use Rattle.std.proofs.Common.{◌≡◌, ℕ, ◌+◌, List}
use Rattle.lab_orders.specs.Fronts.{AreLed, AreOver}
use Rattle.lab_orders.specs.Tallies.{AreDistinct, told_weight}
use Rattle.lab_orders.specs.Weights.{weight}
use Rattle.lab_step_orders.specs.Moments.{seen_of}
use Rattle.lab_step_orders.specs.Outcomes.{LeadThere, told_text}
use Rattle.lab_step_orders.specs.Seen.{first_seen, machine}
use Rattle.lab_step_orders.proofs.RisingLaws.{AreBehind}
use Rattle.lab_step_orders.proofs.outcomes.outcomes_at.Given as goal

abbrev pub invariant-loop-end : goal.invariant-loop-end
invariant-loop-end l =
    record {
      distinct : AreDistinct l.all.items;
      sums : (f : List ℕ → ℕ) → told_weight f l.all.items + weight (seen_of l.crew) (λ s. f (told_text l.crew s)) l.end-iterator.rest.items ≡ weight (seen_of l.crew) (λ s. f (told_text l.crew s)) l.fn.ends.items;
      led : AreLed (machine l.crew) (seen_of l.crew) (first_seen l.crew) l.end-iterator.rest.items;
      over : AreOver (machine l.crew) (seen_of l.crew) l.end-iterator.rest.items;
      behind : AreBehind l.all.items l.end-iterator.rest.items;
      lead : LeadThere l.crew (first_seen l.crew) l.all.items;
    }
