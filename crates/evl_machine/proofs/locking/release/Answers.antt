use Rattle.std.proofs.Common.{◌≡◌, ap, refl, sym, ◌∙◌, subst, Ok, Result}
use Rattle.evl_base.specs.declared.refusal.Refusal.{Refusal}
use Rattle.evl_words.specs.declared.mutex.MutexPass.{MutexPass}
use Rattle.evl_machine.specs.mutex_locks.Locking.{GoesAlong, Releases}
use Rattle.evl_core.specs.words.Noted.{IsSettled, NotesGiven}
use Rattle.evl_machine.specs.callers.Actors.{ActorState, SeatedActor, acting}
use Rattle.evl_core.specs.rule.Known.{KernelMe, first_of}
use Rattle.evl_core.specs.words.MutexSeats.{HasOnce}
use Rattle.evl_core.specs.words.MutexTokens.{HasKernel, TellsTheSame}
use Rattle.evl_machine.proofs.mutex_locks.LockingLaws.{along_call, along_word, same_kernel, the_same}
use Rattle.evl_machine.proofs.mutex_locks.LockingCalls.{next_named, release_entered, releases_not, releases_on}
use Rattle.evl_machine.proofs.mutex_locks.LockingTies.{given_settled, owner_once, release_accepted, same_settled}
use Rattle.evl_core.proofs.words.MutexTokens.{core_twice}
use Rattle.evl_machine.proofs.callers.Visits.{same_core}
use Rattle.evl_core.proofs.ties.Settling.{taken_holds}
use Rattle.evl_machine.specs.callers.OneSteps.{MakesSome}
use Rattle.evl_machine.proofs.callers.OneSteps.{given_made, none_made}
use Rattle.evl_machine.proofs.locking.release.Goals as goal
use Rattle.evl_machine.proofs.locking.release.Goals.{in-Ok-Handed, in-Err}

abbrev Answer : Type 0
Answer = Result (Unit {0}) (Refusal × MutexPass)

pub hand_on-requires-clause-table : goal.hand_on-requires-clause-table
hand_on-requires-clause-table g c = (c.apply.ensures.seat.0 ∙ c.requires.table.0, ap (λ m. first_of m.0) c.apply.ensures.seat.1 ∙ c.requires.table.1)

pub hand_on-requires-clause-holder : goal.hand_on-requires-clause-holder
hand_on-requires-clause-holder g c = subst (λ m. HasKernel m.0) (sym c.apply.ensures.seat.1) (taken_holds _ _ _ c.requires.taken.taken)

pub hand_on-requires-clause-once : goal.hand_on-requires-clause-once
hand_on-requires-clause-once g c = subst (λ seats. HasOnce seats c.args.pass) (sym c.apply.ensures.same.mutexes) c.requires.once

pub hand_on-requires-clause-next : goal.hand_on-requires-clause-next
hand_on-requires-clause-next g c = next_named _ _ _ _ _ _ _ c.in-Ok-Handed.next c.in-Ok-Handed.more c.apply.ensures.same c.requires.taken.legal c.requires.taken.fits c.requires.seats c.requires.once c.apply.ensures.applied (c.in-Ok-Handed.is ∙ ap Ok c.in-Ok-Handed.field-0-is)

pub returns-clause-core : goal.returns-clause-core
returns-clause-core g c = elim c.match-apply.branch [
  | in-Ok-Handed w ↦ subst (λ (z : SeatedActor _). TellsTheSame c.args.actor.now.me z.me × (z.table ≡ c.args.actor.now.table)) (sym w.actor-is) (core_twice (same_core _ _ c.apply.ensures.seat.1) w.hand_on.ensures.core.0, w.hand_on.ensures.core.1 ∙ c.apply.ensures.seat.0)
  | in-Err w ↦ subst (λ (z : SeatedActor _). TellsTheSame c.args.actor.now.me z.me × (z.table ≡ c.args.actor.now.table)) (sym w.actor-is) (same_core _ _ c.apply.ensures.seat.1, c.apply.ensures.seat.0)
]

pub returns-clause-along : goal.returns-clause-along
returns-clause-along g c =
    let went = along_call _ _ refl _ _ _ _ _ _ _ (same_kernel _) (the_same _) c.apply.ensures.applied c.apply.ensures.same c.apply.ensures.suits c.apply.ensures.held in
    elim c.match-apply.branch [
      | in-Ok-Handed w ↦ subst (λ (z : SeatedActor _). GoesAlong (acting c.args.actor.now) c.args.kernel.now (acting z) c.apply.new.kernel) (sym w.actor-is)
          (subst (λ (z : ActorState). GoesAlong (acting c.args.actor.now) c.args.kernel.now z c.apply.new.kernel) (sym w.hand_on.ensures.same) (along_word _ _ _ _ _ _ refl went w.hand_on.ensures.seats))
      | in-Err w ↦ subst (λ (z : SeatedActor _). GoesAlong (acting c.args.actor.now) c.args.kernel.now (acting z) c.apply.new.kernel) (sym w.actor-is) went
    ]

pub returns-clause-released : goal.returns-clause-released
returns-clause-released g c = elim c.match-apply.branch [
  | in-Ok-Handed w ↦ subst (λ (z : Answer × SeatedActor g.row.C.Denot). Releases (acting c.args.actor.now) c.args.kernel.now c.args.pass z.0 (acting z.1) c.apply.new.kernel) (λ i. (sym w.result-is i, sym w.actor-is i))
      (releases_on _ _ c.apply.ensures.same _ _ c.args.pass _ c.mutex-mutex.ensures _ c.apply.ensures.applied w.in-Ok-Handed.next w.in-Ok-Handed.more (acting w.hand_on.new.actor) (w.in-Ok-Handed.is ∙ ap Ok w.in-Ok-Handed.field-0-is) w.hand_on.ensures.given)
  | in-Err w ↦ subst (λ (z : Answer × SeatedActor g.row.C.Denot). Releases (acting c.args.actor.now) c.args.kernel.now c.args.pass z.0 (acting z.1) c.apply.new.kernel) (λ i. (sym w.result-is i, sym w.actor-is i))
      (let none = releases_not _ _ c.apply.ensures.same _ _ c.args.pass _ c.mutex-mutex.ensures _ c.apply.ensures.applied w.in-Err.refusal w.in-Err.is (λ entered. let both = owner_once _ c.args.pass c.requires.own c.requires.once in let accepted = release_accepted _ _ c.requires.taken c.args.pass.mutex c.apply.new.kernel _ both.0 both.1 c.requires.idle entered in absurd (let e = accepted.1 in cc)) in (refl, c.apply.ensures.same.mutexes, none.0, none.1))
]

pub returns-clause-settled : goal.returns-clause-settled
returns-clause-settled g c = elim c.match-apply.branch [
  | in-Ok-Handed w ↦ subst (λ (z : SeatedActor _). IsSettled z.me.0 c.apply.new.kernel.history.state) (sym w.actor-is)
      (given_settled _ _ c.requires.taken _ c.args.pass.mutex w.in-Ok-Handed.next w.in-Ok-Handed.more c.apply.new.kernel (subst (λ (m : KernelMe _). NotesGiven c.args.pass.mutex.0 w.in-Ok-Handed.next w.in-Ok-Handed.more m.0 w.hand_on.new.actor.me.0) c.apply.ensures.seat.1 w.hand_on.ensures.noted)
      (release_entered _ _ c.apply.ensures.same _ _ c.args.pass _ c.mutex-mutex.ensures _ c.apply.ensures.applied _ (w.in-Ok-Handed.is ∙ ap Ok w.in-Ok-Handed.field-0-is) refl))
  | in-Err w ↦ subst (λ (z : SeatedActor _). IsSettled z.me.0 c.apply.new.kernel.history.state) (sym w.actor-is)
      (subst (λ (m : KernelMe _). IsSettled m.0 c.apply.new.kernel.history.state) (sym c.apply.ensures.seat.1)
      (same_settled _ _ c.requires.taken _ (releases_not _ _ c.apply.ensures.same _ _ c.args.pass _ c.mutex-mutex.ensures _ c.apply.ensures.applied w.in-Err.refusal w.in-Err.is (λ entered. let both = owner_once _ c.args.pass c.requires.own c.requires.once in let accepted = release_accepted _ _ c.requires.taken c.args.pass.mutex c.apply.new.kernel _ both.0 both.1 c.requires.idle entered in absurd (let e = accepted.1 in cc))).0))
]

pub returns-clause-made : goal.returns-clause-made
returns-clause-made g c = elim c.match-apply.branch [
  | in-Ok-Handed w ↦ subst (λ (z : SeatedActor _). MakesSome c.args.actor.now.me.0 z.me.0) (sym w.actor-is)
      (subst (λ (m : KernelMe _). MakesSome m.0 w.hand_on.new.actor.me.0) c.apply.ensures.seat.1 (given_made c.args.pass.mutex.0 w.in-Ok-Handed.next w.in-Ok-Handed.more _ _ w.hand_on.ensures.noted))
  | in-Err w ↦ subst (λ (z : SeatedActor _). MakesSome c.args.actor.now.me.0 z.me.0) (sym w.actor-is) (none_made _ _ c.apply.ensures.seat.1)
]
