use Rattle.std.proofs.Common.{◌≡◌, drop}
use Rattle.evl_plans.specs.Plans.{kinds_with}
use Rattle.evl_plans.proofs.made.kinds_of.Given as goal

abbrev pub invariant-loop-row : goal.invariant-loop-row
invariant-loop-row l = kinds_with l.kinds (drop l.row-index l.rows) ≡ kinds_with 0 l.rows
