use Rattle.std.proofs.Common.{◌++◌, ◌∙◌, List, ℕ, ap, append-nil, drop, sym, take}
use Rattle.lab_orders.specs.Answers.{is_end}
use Rattle.lab_orders.proofs.AnswerLaws.{answer_ended, answer_more}
use Rattle.lab_orders.proofs.rows.answer_of.Goals as goal

pub returns-then-is_end : goal.returns-then-is_end
returns-then-is_end c =
    let rest = drop c.loop-place.place c.args.text.now in
    let front = take c.loop-place.place c.args.text.now in
    let ended = answer_ended rest (ap is_end (sym c.past.ensures) ∙ (sym c.is_end.ensures ∙ c.if-is_end.true)) in
    c.before-then-is_end.ensures ∙ (sym (append-nil front) ∙ (ap (λ (behind : List ℕ). front ++ behind) (sym ended) ∙ c.loop-place.invariant))

pub loop-place-preserved : goal.loop-place-preserved
loop-place-preserved c =
    answer_more c.args.text.now c.loop-place.place (ap is_end (sym c.past.ensures) ∙ (sym c.is_end.ensures ∙ c.if-is_end.false)) ∙ c.loop-place.invariant
