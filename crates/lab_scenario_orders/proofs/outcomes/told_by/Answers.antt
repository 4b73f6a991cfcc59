use Rattle.std.proofs.Common.{◌++◌, IfOk, subst, ap, sym, map, ◌∙◌}
use Rattle.std.specs.Prelude.{string_bytes}
use Rattle.evl_kernel.specs.state.States.{State}
use Rattle.lab_scenario_orders.specs.Told.{callers_text, elements_text, pending_text}
use Rattle.lab_scenario_orders.proofs.outcomes.told_by.Goals as goal

pub returns : goal.returns
returns g c =
    let callers = c.args.callers.now in
    let moment = c.args.moment.now in
    rw (← c.requires.state) c.told_of.ensures
