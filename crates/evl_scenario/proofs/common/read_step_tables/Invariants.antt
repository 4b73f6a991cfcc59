use Rattle.std.proofs.Common.{length}
use denote.Text.{Utf8}
use denote.Shadow.{shadow}
use Rattle.evl_scenario.proofs.CommonLaws.{Added}
use Rattle.evl_scenario.proofs.common.read_step_tables.Given as goal

abbrev pub invariant-steps : goal.invariant-steps
invariant-steps l = shadow (Utf8 l.rest) × Added l.fn.s l.steps.items l.rest

abbrev pub decreases-steps : goal.decreases-steps
decreases-steps l = length l.rest
