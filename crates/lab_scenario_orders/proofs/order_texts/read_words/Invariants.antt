use Rattle.std.proofs.Common.{◌≡◌, ◌++◌, ◌<◌, All, Some, drop, length, map}
use Rattle.lab_scenario_orders.specs.OrderTexts.{caller_name}
use Rattle.lab_scenario_orders.proofs.order_texts.read_words.Given as goal

abbrev pub invariant-loop-place : goal.invariant-loop-place
invariant-loop-place l =
    let callers = l.callers.callers.items in
    record {
      names : map (caller_name callers) l.order.items ++ map (λ word. Some word) (map (λ word. word.now) (drop l.place l.words)) ≡ map (λ word. Some word) (map (λ word. word.now) l.words);
      callers : All (λ n. n < length callers) l.order.items;
    }
