use Rattle.std.proofs.Common.{◌≡◌, map}
use Rattle.std.proofs.lemmas.Result.{IfOk-weaker}
use Rattle.evl_plans.specs.Told.{handler_of}
use Rattle.lab_runs.specs.Runs.{RunEnds, status_in}
use Rattle.lab_runs.specs.declared.outputs.Output.{Output}
use Rattle.lab_runs.proofs.runs.run_set.Goals as goal

pub returns : goal.returns
returns c =
    IfOk-weaker c.output_of-output.result (λ (o : Output). o.status ≡ status_in c.in_ok-schedule.schedule) (λ (o : Output). RunEnds c.args.set (map handler_of c.args.bank.items) o.status)
    (λ o ends. (c.in_ok-schedule.schedule, c.in_ok-schedule.ensures, ends)) c.output_of-output.ensures
