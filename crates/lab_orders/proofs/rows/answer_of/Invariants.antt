use Rattle.std.proofs.Common.{◌≡◌, ◌++◌, drop, take}
use Rattle.lab_orders.specs.Answers.{answer_of}
use Rattle.lab_orders.proofs.rows.answer_of.Given as goal

abbrev pub invariant-loop-place : goal.invariant-loop-place
invariant-loop-place l = take l.place l.text ++ answer_of (drop l.place l.text) ≡ answer_of l.text
