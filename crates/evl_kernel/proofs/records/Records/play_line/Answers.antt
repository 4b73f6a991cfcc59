use Rattle.std.proofs.Common.{None, Some, nat_lt, refl, sym, ◌∙◌}
use Rattle.evl_pipeline.specs.declared.ran.Ran.TheVariants.{Clock, Line}
use Rattle.evl_sched.specs.Picks.{is_anyone_eligible}
use Rattle.evl_kernel.specs.state.Limits.{inband_limit}
use Rattle.evl_kernel.specs.state.RecordsInside.{records_view}
use Rattle.evl_kernel.proofs.state.CallbackLaws.{keeps-old, keeps-both, allowed-old}
use Rattle.evl_kernel.proofs.settling.PlayLaws.{line_next, line_called, clock_next, none_next, clock_nearer, line_nearer, clock_old, line_old}
use Rattle.evl_kernel.proofs.settling.SettlingLaws.{idle_next, plays_as}
use Rattle.evl_kernel.proofs.records.Records.play_line.Goals as goal

pub returns-then-is_idle-clause-ended : goal.returns-then-is_idle-clause-ended
returns-then-is_idle-clause-ended g c =
    rw (← c.self.view_is) (none_next g.C.Handler.declared g.C.Handler.plan (records_view c.self.inside) c.args.inband (idle_next c.self.inside.pipeline (is_anyone_eligible c.self.inside.sched.sched) (nat_lt c.args.inband inband_limit) (sym c.is_idle.ensures.idle ∙ c.if-is_idle.true)), refl)

pub returns-in-None-clause-ended : goal.returns-in-None-clause-ended
returns-in-None-clause-ended g c =
    rw (← c.self.view_is, (plays_as g.C.Handler.declared g.C.Handler.plan g.C.Handler.gives (records_view c.self.inside) c.is_held_back-held.result c.args.inband c.date-date.result None c.next.new.self (rw (← c.self.view_is) at c.is_held_back-held.ensures.held) c.in-None.ensures.plays).1) (none_next g.C.Handler.declared g.C.Handler.plan (records_view c.self.inside) c.args.inband (plays_as g.C.Handler.declared g.C.Handler.plan g.C.Handler.gives (records_view c.self.inside) c.is_held_back-held.result c.args.inband c.date-date.result None c.next.new.self (rw (← c.self.view_is) at c.is_held_back-held.ensures.held) c.in-None.ensures.plays).0, refl)

pub invariant_of-self-in-Some-Clock : goal.invariant_of-self-in-Some-Clock
invariant_of-self-in-Some-Clock g c = record {
  allowed = allowed-old (records_view c.self.inside) c.next.new.self (clock_old (records_view c.self.inside) c.next.new.self (plays_as g.C.Handler.declared g.C.Handler.plan g.C.Handler.gives (records_view c.self.inside) c.is_held_back-held.result c.args.inband c.date-date.result (Some Clock) c.next.new.self (rw (← c.self.view_is) at c.is_held_back-held.ensures.held) (rw c.in-Some-Clock.field-0-is at c.in-Some-Clock.ensures.plays)).1) c.self.invariant.allowed;
  timers_allowed = c.self.invariant.timers_allowed;
  clock_sound = c.self.invariant.clock_sound;
  ranks = c.self.invariant.ranks;
  waits = c.self.invariant.waits;
}

pub returns-in-Some-Clock-clause-played : goal.returns-in-Some-Clock-clause-played
returns-in-Some-Clock-clause-played g c =
    rw (← c.self.view_is) (clock_next g.C.Handler.declared g.C.Handler.plan (records_view c.self.inside) c.args.inband c.next.new.self (plays_as g.C.Handler.declared g.C.Handler.plan g.C.Handler.gives (records_view c.self.inside) c.is_held_back-held.result c.args.inband c.date-date.result (Some Clock) c.next.new.self (rw (← c.self.view_is) at c.is_held_back-held.ensures.held) (rw c.in-Some-Clock.field-0-is at c.in-Some-Clock.ensures.plays)).0 (plays_as g.C.Handler.declared g.C.Handler.plan g.C.Handler.gives (records_view c.self.inside) c.is_held_back-held.result c.args.inband c.date-date.result (Some Clock) c.next.new.self (rw (← c.self.view_is) at c.is_held_back-held.ensures.held) (rw c.in-Some-Clock.field-0-is at c.in-Some-Clock.ensures.plays)).1)

pub returns-in-Some-Clock-clause-nearer : goal.returns-in-Some-Clock-clause-nearer
returns-in-Some-Clock-clause-nearer g c =
    rw (← c.self.view_is) (clock_nearer g.C.Handler.declared g.C.Handler.plan (records_view c.self.inside) c.args.inband c.next.new.self (plays_as g.C.Handler.declared g.C.Handler.plan g.C.Handler.gives (records_view c.self.inside) c.is_held_back-held.result c.args.inband c.date-date.result (Some Clock) c.next.new.self (rw (← c.self.view_is) at c.is_held_back-held.ensures.held) (rw c.in-Some-Clock.field-0-is at c.in-Some-Clock.ensures.plays)).0 (plays_as g.C.Handler.declared g.C.Handler.plan g.C.Handler.gives (records_view c.self.inside) c.is_held_back-held.result c.args.inband c.date-date.result (Some Clock) c.next.new.self (rw (← c.self.view_is) at c.is_held_back-held.ensures.held) (rw c.in-Some-Clock.field-0-is at c.in-Some-Clock.ensures.plays)).1)

pub returns-in-Some-Clock-clause-stands : goal.returns-in-Some-Clock-clause-stands
returns-in-Some-Clock-clause-stands g c =
    rw (← c.self.view_is) (keeps-old (records_view c.self.inside) c.next.new.self (clock_old (records_view c.self.inside) c.next.new.self (plays_as g.C.Handler.declared g.C.Handler.plan g.C.Handler.gives (records_view c.self.inside) c.is_held_back-held.result c.args.inband c.date-date.result (Some Clock) c.next.new.self (rw (← c.self.view_is) at c.is_held_back-held.ensures.held) (rw c.in-Some-Clock.field-0-is at c.in-Some-Clock.ensures.plays)).1))

pub invariant_of-self-in-Some-Line : goal.invariant_of-self-in-Some-Line
invariant_of-self-in-Some-Line g c = record {
  allowed = allowed-old (records_view c.self.inside) c.next.new.self (line_old g.C.Handler.declared g.C.Handler.plan g.C.Handler.gives (records_view c.self.inside) c.next.new.self c.args.inband c.date-date.result c.in-Some-Line.fire c.in-Some-Line.answer (plays_as g.C.Handler.declared g.C.Handler.plan g.C.Handler.gives (records_view c.self.inside) c.is_held_back-held.result c.args.inband c.date-date.result (Some (Line c.in-Some-Line.fire c.in-Some-Line.answer)) c.next.new.self (rw (← c.self.view_is) at c.is_held_back-held.ensures.held) (rw c.in-Some-Line.field-0-is at c.in-Some-Line.ensures.plays))) c.self.invariant.allowed;
  timers_allowed = c.self.invariant.timers_allowed;
  clock_sound = c.self.invariant.clock_sound;
  ranks = c.self.invariant.ranks;
  waits = c.self.invariant.waits;
}

pub returns-in-Some-Line-clause-played : goal.returns-in-Some-Line-clause-played
returns-in-Some-Line-clause-played g c =
    rw (← c.self.view_is) (line_next g.C.Handler.declared g.C.Handler.plan g.C.Handler.gives (records_view c.self.inside) c.respond.new.self c.args.inband c.date-date.result c.in-Some-Line.fire c.in-Some-Line.answer c.next.new.self
    (rw (← c.self.view_is) at c.requires.by_plan) (plays_as g.C.Handler.declared g.C.Handler.plan g.C.Handler.gives (records_view c.self.inside) c.is_held_back-held.result c.args.inband c.date-date.result (Some (Line c.in-Some-Line.fire c.in-Some-Line.answer)) c.next.new.self (rw (← c.self.view_is) at c.is_held_back-held.ensures.held) (rw c.in-Some-Line.field-0-is at c.in-Some-Line.ensures.plays)) c.respond.ensures.answered)

pub returns-in-Some-Line-clause-nearer : goal.returns-in-Some-Line-clause-nearer
returns-in-Some-Line-clause-nearer g c =
    rw (← c.self.view_is) (line_nearer g.C.Handler.declared g.C.Handler.plan g.C.Handler.gives (records_view c.self.inside) c.respond.new.self c.args.inband c.date-date.result c.in-Some-Line.fire c.in-Some-Line.answer c.next.new.self
    (rw (← c.self.view_is) at c.requires.by_plan) c.self.invariant.allowed (plays_as g.C.Handler.declared g.C.Handler.plan g.C.Handler.gives (records_view c.self.inside) c.is_held_back-held.result c.args.inband c.date-date.result (Some (Line c.in-Some-Line.fire c.in-Some-Line.answer)) c.next.new.self (rw (← c.self.view_is) at c.is_held_back-held.ensures.held) (rw c.in-Some-Line.field-0-is at c.in-Some-Line.ensures.plays)) (rw c.in-Some-Line.field-0-is at c.in-Some-Line.ensures.bounded) c.respond.ensures.answered)

pub returns-in-Some-Line-clause-stands : goal.returns-in-Some-Line-clause-stands
returns-in-Some-Line-clause-stands g c =
    rw (← c.self.view_is) (keeps-both (records_view c.self.inside) _ c.respond.new.self
    (keeps-old (records_view c.self.inside) c.next.new.self (line_old g.C.Handler.declared g.C.Handler.plan g.C.Handler.gives (records_view c.self.inside) c.next.new.self c.args.inband c.date-date.result c.in-Some-Line.fire c.in-Some-Line.answer (plays_as g.C.Handler.declared g.C.Handler.plan g.C.Handler.gives (records_view c.self.inside) c.is_held_back-held.result c.args.inband c.date-date.result (Some (Line c.in-Some-Line.fire c.in-Some-Line.answer)) c.next.new.self (rw (← c.self.view_is) at c.is_held_back-held.ensures.held) (rw c.in-Some-Line.field-0-is at c.in-Some-Line.ensures.plays))))
    c.respond.ensures.stands)

pub returns-in-Some-Line-clause-called : goal.returns-in-Some-Line-clause-called
returns-in-Some-Line-clause-called g c =
    rw (← c.self.view_is) (line_called g.C.Handler.declared g.C.Handler.plan g.C.Handler.gives (records_view c.self.inside) c.args.inband c.date-date.result c.in-Some-Line.fire c.in-Some-Line.answer c.next.new.self
    (rw (← c.self.view_is) at c.date-date.ensures.date) (rw (← c.self.view_is) at c.requires.by_plan) (plays_as g.C.Handler.declared g.C.Handler.plan g.C.Handler.gives (records_view c.self.inside) c.is_held_back-held.result c.args.inband c.date-date.result (Some (Line c.in-Some-Line.fire c.in-Some-Line.answer)) c.next.new.self (rw (← c.self.view_is) at c.is_held_back-held.ensures.held) (rw c.in-Some-Line.field-0-is at c.in-Some-Line.ensures.plays)))
