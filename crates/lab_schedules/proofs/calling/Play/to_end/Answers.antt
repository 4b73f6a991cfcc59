use Rattle.std.proofs.Common.{◌≡◌, ◌≢◌, ◌∙◌, sym, ap}
use Rattle.lab_schedules.specs.declared.schedules.End.{End}
use Rattle.lab_schedules.specs.declared.schedules.End.TheVariants as end
use Rattle.lab_schedules.specs.Openings.{play}
use Rattle.lab_schedules.proofs.calling.Play.to_end.Goals as goal
use Rattle.lab_schedules.proofs.calling.Play.to_end.Goals.{in-Ok, in-Err-Full}

pub returns-then-is_so : goal.returns-then-is_so
returns-then-is_so c =
    let plays : c.match-play.end ≢ end.Full → play c.args.setup.items c.args.rules.now c.args.self.now ≡ (c.match-play.end, c.play.new.self) =
    elim c.match-play.branch [
      | in-Ok w ↦ λ other. w.in-Ok.ensures ∙ ap (λ (e : End). (e, c.play.new.self)) (sym w.end-is)
      | in-Err-Full w ↦ λ other. absurd (other w.end-is)
    ] in
    (plays, c.is_so.ensures c.if-is_so.true)
