use Rattle.std.proofs.Common.{◌∙◌, List, ℕ, None, Ok, ap, map, sym}
use Rattle.std.proofs.lemmas.Result.{IfOk-weaker}
use Rattle.evl_kernel.specs.state.States.{Handler}
use Rattle.evl_plans.specs.Told.{handler_of}
use Rattle.evl_shell.specs.Runs.{trace_of}
use Rattle.lab_draws.proofs.machines.machine_picture.Goals as goal

pub returns-in-Ok : goal.returns-in-Ok
returns-in-Ok c =
    let bank : List Handler = map handler_of c.args.bank.now in
    let traced = ap (λ (t : List ℕ). trace_of bank None t) (sym c.as_bytes.ensures.value) ∙ c.in-Ok.ensures.traced ∙ ap (λ (t : List ℕ). Ok t) (sym c.as_slice.ensures.value) in
    IfOk-weaker c.pictured_trace.result _ _ (λ pictured h. (c.as_slice.result.now, traced, h)) c.pictured_trace.ensures
