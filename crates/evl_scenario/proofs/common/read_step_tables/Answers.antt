use Rattle.std.proofs.Common.{◌≡◌, length, rules, arith}
use Rattle.std.proofs.lemmas.Grind.{common_steps}
use Rattle.toml.specs.View.{table_view}
use Rattle.evl_scenario.proofs.CommonLaws.{added_end, added_more, added_none}
use Rattle.evl_scenario.proofs.common.read_step_tables.Goals as goal

pub steps-init : goal.steps-init
steps-init c = (search rules, rw c.new-steps.ensures.items (added_none c.args.s.now))

pub returns-then-is_empty : goal.returns-then-is_empty
returns-then-is_empty c =
    let none : length c.steps.rest.now ≡ 0 = grind (arith, common_steps) in
    added_end c.args.s.now c.steps.rest.now c.steps.steps.items c.steps.invariant.1 none

pub steps-preserved : goal.steps-preserved
steps-preserved c =
    let l = c.steps in (
      search rules,
      added_more c.args.s.now l.rest.now c.in_ok-behind.behind.now c.in_ok-table.after.now l.steps.items _ c.in_ok-step.step (table_view c.in_ok-table.table) l.invariant.1
          c.in_ok-behind.ensures.front c.in_ok-behind.ensures.ends c.in_ok-table.ensures.fills c.in_ok-step.ensures c.in-Ok.ensures.items,
    )

pub steps-smaller : goal.steps-smaller
steps-smaller c = omega (arith, c.in_ok-behind.ensures.shorter, c.in_ok-table.ensures.within)
