use Rattle.std.proofs.Common.{Bool, not, ap, ◌∙◌}
use Rattle.evl_sched.proofs.LastLaws.{empty-reached, last-reached}
use Rattle.evl_sched.proofs.queues.cell_from.Goals as goal

pub returns-then-is_behind : goal.returns-then-is_behind
returns-then-is_behind g c =
    let last = c.is_behind.ensures.last c.if-is_behind.true in
    record { cell = c.cell_of.ensures.cell ∙ last-reached _ _ _ c.requires.queued c.args.place c.args.queue c.requires.low _ last.0 last.1 last.2 }

pub returns-then-is_none : goal.returns-then-is_none
returns-then-is_none g c = record { cell = empty-reached _ _ _ _ _ c.first_in.ensures.first (c.is_none.ensures ∙ ap (λ (b : Bool). not b) c.if-is_none.true) }
