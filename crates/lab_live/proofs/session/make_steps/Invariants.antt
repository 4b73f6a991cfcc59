use Rattle.std.proofs.Common.{◌≡◌, ◌≤◌, length}
use Rattle.lab_live.specs.Sessions.{KeepsWithin, asked_under}
use Rattle.lab_live.proofs.session.make_steps.Given as goal

abbrev pub invariant-loop-step : goal.invariant-loop-step
invariant-loop-step l =
    let limit = l.initial.machine.limit in
    let first = l.initial.machine.history in
    let now = l.machine.history in
    (l.machine.limit ≡ limit)
    × KeepsWithin limit first now
    × (length first.entries ≤ limit → asked_under limit now l.step-iterator.rest.items ≡ asked_under limit first l.fn.steps.items)
