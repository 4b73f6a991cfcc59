use Rattle.std.proofs.Common.{◌≡◌, drop, map}
use Rattle.std.specs.Prelude.{find}
use Rattle.lab_scenario_orders.specs.Answers.{is_meant}
use Rattle.lab_scenario_orders.proofs.answers.meant_among.Given as goal

abbrev pub invariant-loop-word : goal.invariant-loop-word
invariant-loop-word l =
    find (is_meant l.steps l.never) (map (λ word. word.now) (drop l.word-index l.words)) ≡ find (is_meant l.steps l.never) (map (λ word. word.now) l.words)
