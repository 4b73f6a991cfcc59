use Rattle.std.proofs.Common.{◌≡◌, ◌∙◌, ℕ, length, map, ap, arith}
use Rattle.std.proofs.lemmas.Result.{IfOk-weaker}
use Rattle.evl_plans.specs.Told.{handler_of}
use Rattle.lab_schedules.specs.Openings.{Finishes, IsSchedule, opened}
use Rattle.lab_schedules.proofs.ScheduleLaws.{scheduled}
use Rattle.lab_schedules.proofs.playing.play_tasks.Goals as goal

pub returns-in-Ok : goal.returns-in-Ok
returns-in-Ok c =
    let set = c.args.set in
    let bank = map handler_of c.args.bank.items in
    let count : c.len.result ≡ length set.rules.tasks.items = omega (arith, c.len.ensures, set.rules.tasks.ok.0) in
    let opens = c.in-Ok.ensures ∙ ap (λ (n : ℕ). opened set.board set.limit n bank) count in
    IfOk-weaker c.finish.result (Finishes set.setup.items set.rules set.limit c.in-Ok.play) (IsSchedule set bank)
    (λ s. scheduled set bank c.in-Ok.play s opens) c.finish.ensures
