use Rattle.std.proofs.Common.{◌≡◌, drop}
use Rattle.lab_schedules.specs.Bounds.{holds_up, longest_in, unheld}
use Rattle.lab_schedules.proofs.sections.longest_in.Given as goal

abbrev pub invariant-loop-act : goal.invariant-loop-act
invariant-loop-act l = longest_in (holds_up l.kinds l.tasks l.rank) l.held (drop l.act-index l.acts) ≡ longest_in (holds_up l.kinds l.tasks l.rank) unheld l.acts
