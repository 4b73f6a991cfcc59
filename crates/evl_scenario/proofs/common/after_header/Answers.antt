use Rattle.std.proofs.Common.{◌++◌, List, ℕ, sym, ap, ◌∙◌, arith}
use Rattle.evl_scenario.proofs.common.after_header.Goals as goal

pub returns-then-is_line_end-clause-front : goal.returns-then-is_line_end-clause-front
returns-then-is_line_end-clause-front c =
    let found = c.in_ok-rest.ensures.cases in
    found.1.1 ∙ ap (λ (rest : List ℕ). c.args.header.now ++ rest) (sym found.2)

pub returns-then-is_line_end-clause-ends : goal.returns-then-is_line_end-clause-ends
returns-then-is_line_end-clause-ends c = sym c.is_line_end.ensures ∙ c.if-is_line_end.true

pub returns-then-is_line_end-clause-shorter : goal.returns-then-is_line_end-clause-shorter
returns-then-is_line_end-clause-shorter c =
    let found = c.in_ok-rest.ensures.cases in
    omega (arith, found.1.0, found.3)
