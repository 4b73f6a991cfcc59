use Rattle.std.proofs.Common.{◌≡◌, IfOk, List, Result, map, string_bytes, subst, sym}
use Rattle.evl_kernel.specs.state.States.{Handler}
use Rattle.evl_plans.specs.Told.{handler_of}
use Rattle.evl_scenario.specs.Scenarios.{Script}
use Rattle.evl_scenario.specs.declared.faults.Fault.{Fault}
use Rattle.lab_json.specs.Runs.{moments_json, script_moments}
use Rattle.lab_json.proofs.runs.write_states.Goals as goal

pub returns-in-Ok : goal.returns-in-Ok
returns-in-Ok c =
    subst (λ (read : Result Script Fault). IfOk c.play.result (λ json. string_bytes json ≡ moments_json c.args.file.now (map handler_of c.args.bank.now) read)) (sym c.in-Ok.ensures.ok)
    (subst (λ (bank : List Handler). IfOk c.play.result (λ json. string_bytes json ≡ script_moments c.args.file.now bank c.in-Ok.scenario)) c.in_ok-own.ensures c.play.ensures)
