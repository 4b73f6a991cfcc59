use Rattle.std.proofs.Common.{◌≡◌, ◌++◌, ◌∙◌, List, OnOk, ℕ, ap, arith, subst}
use Rattle.lab_orders.specs.Answers as answers
use Rattle.lab_orders.specs.Answers.{all_orders, rows_of, step_lines}
use Rattle.lab_orders.specs.Seen.{seen_rows}
use Rattle.lab_orders.specs.declared.counts.Row.{Row}
use Rattle.lab_orders.proofs.SumLaws.{all_rows}
use Rattle.lab_orders.proofs.lines.put_named.Goals as goal

pub put_steps-requires : goal.put_steps-requires
put_steps-requires c =
    omega (arith, ap (λ (rows : List Row). all_orders (seen_rows rows)) c.as_slice.ensures.value, ap all_orders c.in_ok-rows.ensures, all_rows c.as_bytes.result.now c.args.outcomes.now, c.requires)

pub returns : goal.returns
returns c =
    subst (λ (rows : List answers.Row). OnOk c.put_steps.result (c.put_steps.new.text.items ≡ c.args.text.now.items ++ step_lines c.args.who.now rows c.args.steps))
    (ap seen_rows c.as_slice.ensures.value ∙ (c.in_ok-rows.ensures ∙ ap (λ (who : List ℕ). rows_of who c.args.outcomes.now) c.as_bytes.ensures.value)) c.put_steps.ensures
