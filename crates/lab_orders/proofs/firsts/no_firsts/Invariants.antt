use Rattle.std.proofs.Common.{◌≡◌, All, length}
use Rattle.lab_orders.specs.declared.firsts.First.{First}
use Rattle.lab_orders.specs.declared.firsts.First.TheVariants.{Nowhere}
use Rattle.lab_orders.proofs.firsts.no_firsts.Given as goal

abbrev pub invariant-loop-question : goal.invariant-loop-question
invariant-loop-question l = record {
  none : All (λ (first : First). first ≡ Nowhere) l.firsts.items;
  count : length l.firsts.items ≡ l._question;
}
