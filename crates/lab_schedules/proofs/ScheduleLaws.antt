-- The end of a play leaves a schedule of its task set.
use Rattle.std.proofs.Common.{◌≡◌, ◌≢◌, ◌∙◌, List, length, sym, ap}
use Rattle.evl_kernel.specs.state.States.{Handler}
use Rattle.evl_shell.specs.Runs.{Moment}
use Rattle.lab_tasks.specs.declared.sets.TaskSet.{TaskSet}
use Rattle.lab_schedules.specs.declared.schedules.End.{End}
use Rattle.lab_schedules.specs.declared.schedules.End.TheVariants as end
use Rattle.lab_schedules.specs.declared.schedules.Schedule.{Schedule}
use Rattle.lab_schedules.specs.Openings.{Finishes, IsSchedule, opened, play, played}
use Rattle.lab_schedules.specs.Plays.{Played, now}

pub scheduled : (set : TaskSet) (bank : List Handler) (p : Played) (s : Schedule) → p ≡ opened set.board set.limit (length set.rules.tasks.items) bank
    → Finishes set.setup.items set.rules set.limit p s → IsSchedule set bank s
scheduled set bank p s opens (q, (by, full), is) =
    let plays : s.end ≢ end.Full → played set bank ≡ (s.end, q) = λ other. sym (ap (λ (p : Played). play set.setup.items set.rules p) opens) ∙ by other in record {
      rules = is.rules;
      ends = λ other. sym (ap (λ (x : End × Played). x.0) (plays other));
      events = λ other. is.events ∙ sym (ap (λ (x : End × Played). x.1.events) (plays other));
      runs = λ other. is.runs ∙ sym (ap (λ (x : End × Played). x.1.runs) (plays other));
      dates = λ other. is.dates ∙ sym (ap (λ (x : End × Played). now x.1) (plays other));
      moment_is = λ other. is.moment_is ∙ sym (ap (λ (x : End × Played). x.1.moment) (plays other));
      full = λ last. ap (λ (m : Moment). m.entries) is.moment_is ∙ full last;
    }
