use Rattle.std.proofs.Common.{arith, Some}
use Rattle.std.proofs.lemmas.Str.Pattern.{split_parts}
use Rattle.lab_reports.proofs.CallLaws.{all_before, all_without, value_before}
use Rattle.lab_reports.proofs.calls.value_before_key.Goals as goal

pub returns-in_err-front : goal.returns-in_err-front
returns-in_err-front c = rw c.from_residual.ensures (all_without c.args.text.now c.in_err-front.ensures.cases)

pub returns-in_err-value : goal.returns-in_err-value
returns-in_err-value c =
    let cut = split_parts 61 c.args.text.now (Some (c.in_ok-front.front, c.in_ok-front.field-0-1)) c.in_ok-front.ensures.cases (omega arith) in
    rw c.from_residual-in_err-value.ensures (all_before c.args.text.now c.in_ok-front.front.now c.in_ok-front.field-0-1.now cut.0 cut.1 c.in_err-value.ensures.cases)

pub returns : goal.returns
returns c =
    let cut = split_parts 61 c.args.text.now (Some (c.in_ok-front.front, c.in_ok-front.field-0-1)) c.in_ok-front.ensures.cases (omega arith) in
    value_before c.args.text.now c.in_ok-front.front.now c.in_ok-front.field-0-1.now cut.0 cut.1 c.in_ok-value.value.now c.in_ok-value.field-0-1.now c.in_ok-value.ensures.cases
