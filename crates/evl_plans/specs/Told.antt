-- The words of a callback that keeps its plan.
use Rattle.evl_kernel.specs.state.States.{Handler}
use Rattle.evl_plans.specs.declared.planned.Planned.{Planned}

-- what a callback declares, and what it answers
abbrev pub handler_of : Planned → Handler
handler_of planned = record { kinds = planned.kinds.0; plan = planned.plan }
