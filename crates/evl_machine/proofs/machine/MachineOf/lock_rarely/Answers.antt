use Rattle.std.proofs.Common.{None, ap, sym, ◌∙◌, subst, slice_get, arith}
use Rattle.evl_machine.specs.calls.Calls.{HoldsAtItsStage}
use Rattle.evl_core.specs.rule.Ceilings.{has_ceiling}
use Rattle.evl_machine.specs.callers.Handles.{CallerState, MachineState}
use Rattle.evl_core.specs.words.MutexSeats.{depth_at}
use Rattle.evl_machine.proofs.mutex_locks.MutexLocks.{own_lock_is}
use Rattle.evl_machine.proofs.callers.Staying.{at_stage}
use Rattle.evl_machine.proofs.machine.MachineOf.lock_rarely.Goals as goal

pub returns-in-Some-clause-stage : goal.returns-in-Some-clause-stage
returns-in-Some-clause-stage g c = subst HoldsAtItsStage c.caller.view_is (at_stage _ _ _ _ c.lock_refusal.ensures.held c.caller.invariant.1 c.caller.invariant.0.own)

pub lock_at_ceiling-requires-clause-unrefused : goal.lock_at_ceiling-requires-clause-unrefused
lock_at_ceiling-requires-clause-unrefused g c = own_lock_is c.caller.inside.actor c.args.caller.now c.kind-kind.result c.args.mutex None c.caller.view_is c.caller.invariant (c.kind-kind.ensures.kind ∙ ap (λ (m : MachineState _). slice_get m.first.history.board.mutexes.items c.args.mutex.0) (sym c.requires.machine)) (sym c.in_default.ensures.refused)

pub lock_at_ceiling-requires-clause-ceiling : goal.lock_at_ceiling-requires-clause-ceiling
lock_at_ceiling-requires-clause-ceiling g c = ap has_ceiling (sym (c.kind-kind.ensures.kind ∙ ap (λ (m : MachineState _). slice_get m.first.history.board.mutexes.items c.args.mutex.0) (sym c.requires.machine))) ∙ sym c.has_ceiling.ensures ∙ c.if-has_ceiling.true

pub nest-requires-clause-unrefused : goal.nest-requires-clause-unrefused
nest-requires-clause-unrefused g c = own_lock_is c.caller.inside.actor c.args.caller.now c.kind-kind.result c.args.mutex None c.caller.view_is c.caller.invariant (c.kind-kind.ensures.kind ∙ ap (λ (m : MachineState _). slice_get m.first.history.board.mutexes.items c.args.mutex.0) (sym c.requires.machine)) (sym c.in_default.ensures.refused)

pub nest-requires-clause-held : goal.nest-requires-clause-held
nest-requires-clause-held g c = omega (arith, c.if-depth-gt0.true, (c.depth.ensures.depth ∙ ap (λ (s : CallerState _). depth_at s.mutexes c.args.mutex.0) c.caller.view_is))

pub try_at_word-requires-clause-unrefused : goal.try_at_word-requires-clause-unrefused
try_at_word-requires-clause-unrefused g c = own_lock_is c.caller.inside.actor c.args.caller.now c.kind-kind.result c.args.mutex None c.caller.view_is c.caller.invariant (c.kind-kind.ensures.kind ∙ ap (λ (m : MachineState _). slice_get m.first.history.board.mutexes.items c.args.mutex.0) (sym c.requires.machine)) (sym c.in_default.ensures.refused)

pub try_at_word-requires-clause-plain : goal.try_at_word-requires-clause-plain
try_at_word-requires-clause-plain g c = ap has_ceiling (sym (c.kind-kind.ensures.kind ∙ ap (λ (m : MachineState _). slice_get m.first.history.board.mutexes.items c.args.mutex.0) (sym c.requires.machine))) ∙ sym c.has_ceiling.ensures ∙ c.if-has_ceiling.false

pub try_at_word-requires-clause-free : goal.try_at_word-requires-clause-free
try_at_word-requires-clause-free g c = omega (arith, c.if-depth-gt0.false, (c.depth.ensures.depth ∙ ap (λ (s : CallerState _). depth_at s.mutexes c.args.mutex.0) c.caller.view_is))
