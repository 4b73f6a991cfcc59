use Rattle.std.proofs.Common.{ℕ, List, [], Ok, refl, None, sym, ap, ◌∙◌, subst}
use Rattle.evl_base.specs.declared.reply.Reply.TheVariants.{Begun}
use Rattle.evl_sched.specs.Ranks.{Ranked}
use Rattle.evl_mutex.specs.Owners.{rank_of}
use Rattle.evl_kernel.specs.declared.waits.Awaited.TheVariants.{Mutex as OnMutex}
use Rattle.evl_kernel.specs.declared.waits.Wanted.TheVariants.{Mutex as WantsMutex}
use Rattle.evl_kernel.specs.state.ElementsViews.{owners_of}
use Rattle.evl_kernel.specs.state.Records.{AreTold, state_of}
use Rattle.evl_kernel.specs.state.States.{State}
use Rattle.evl_kernel.specs.state.RecordsInside.{records_view}
use Rattle.evl_kernel.proofs.state.CallbackLaws.{keeps-both}
use Rattle.evl_kernel.proofs.calls.QueueLaws.{claim_wakes}
use Rattle.evl_kernel.proofs.state.EffectiveLaws.{back_as, rank_as}
use Rattle.evl_kernel.proofs.state.RankLaws.{ranks-blocked, ranks-handed}
use Rattle.evl_kernel.proofs.waiting.WaitRecords.{begin_is, blocked_as, claim_rings, idle_away, keeps-changed, may_begin_all, sound_ranked}
use Rattle.evl_kernel.specs.state.ChangedThreads.{is_noted}
use Rattle.evl_kernel.proofs.state.ChangedLaws.{given-beside}
use Rattle.evl_kernel.proofs.records.Records.begin_claim.Goals as goal

pub claim-requires-clause-away : goal.claim-requires-clause-away
claim-requires-clause-away g c n =
    idle_away c.self.inside.threads c.self.inside.elements.elements c.self.inside.waits.items c.self.invariant.waits c.args.thread.0 (rw (← c.self.view_is) at c.requires.idle) (OnMutex (record { 0 = n }))

pub returns-then-not-claim-clause-ring : goal.returns-then-not-claim-clause-ring
returns-then-not-claim-clause-ring g c _ =
    let r = records_view c.self.inside in
    let wants = WantsMutex c.args.mutex c.args.owner in
    let back = back_as r c.self.invariant c.args.owner.0 c.args.thread.0 ∙ c.claim.ensures.ring c.if-not-claim.true in
    rw (← c.self.view_is) (
      claim_rings (state_of r) c.args.thread.0 wants c.args.until (rw (← c.self.view_is) at c.requires.there) (rw (← c.self.view_is) at c.requires.named) refl (rw (← c.self.view_is) at c.requires.may) refl back,
      ap (λ (e : _). state_of (record r { elements = e })) (c.claim.ensures.unchanged c.if-not-claim.true),
    )

pub returns-then-not-claim-clause-stands : goal.returns-then-not-claim-clause-stands
returns-then-not-claim-clause-stands g c = rw (← c.self.view_is) (keeps-changed (records_view c.self.inside) c.claim.new.self c.self.inside.sched c.self.inside.waits.items)

pub invariant_of-self-2 : goal.invariant_of-self-2
invariant_of-self-2 g c =
    let r = records_view c.self.inside in
    let wants = WantsMutex c.args.mutex c.args.owner in
    let rank = rank_of (owners_of c.self.inside.elements) c.args.thread.0 in
    let back = back_as r c.self.invariant c.args.owner.0 c.args.thread.0 ∙ c.claim.ensures.free c.if-not-claim.false in
    let may = may_begin_all (state_of r) c.args.thread.0 wants (rw (← c.self.view_is) at c.requires.there) (rw (← c.self.view_is) at c.requires.named) refl (rw (← c.self.view_is) at c.requires.may) refl back in
    sound_ranked r c.self.invariant c.args.thread.0 rank wants c.args.until (rw (← c.self.view_is) at c.requires.idle) (rw (← c.self.view_is) at c.requires.caller) may c.claim.new.self (c.claim.ensures.step c.if-not-claim.false)
    refl c.hand_on.new.sched
    (ranks-handed (owners_of c.self.inside.elements) c.block.new.self c.hand_on.new.sched
    (ranks-blocked (owners_of c.self.inside.elements) c.self.inside.sched c.block.new.self c.self.invariant.ranks c.args.thread.0 c.block.ensures.state)
    c.claim.new.self.base c.claim.new.self.elements.mutexes c.claim.ensures.base c.hand_on.ensures.kept c.hand_on.ensures.given)
    c.begin.new.waits.items c.begin.ensures.begun

pub returns-clause-begun : goal.returns-clause-begun
returns-clause-begun g c _ =
    let r = records_view c.self.inside in
    let wants = WantsMutex c.args.mutex c.args.owner in
    let rank = rank_of (owners_of c.self.inside.elements) c.args.thread.0 in
    let back = back_as r c.self.invariant c.args.owner.0 c.args.thread.0 ∙ c.claim.ensures.free c.if-not-claim.false in
    let may = may_begin_all (state_of r) c.args.thread.0 wants (rw (← c.self.view_is) at c.requires.there) (rw (← c.self.view_is) at c.requires.named) refl (rw (← c.self.view_is) at c.requires.may) refl back in
    let s = state_of r in
    let on = OnMutex c.args.mutex in
    rw (← c.self.view_is) (begin_is r c.self.invariant c.args.thread.0 rank wants c.args.until (rw (← c.self.view_is) at c.requires.idle) (rw (← c.self.view_is) at c.requires.caller) may c.claim.new.self (c.claim.ensures.step c.if-not-claim.false)
    (rank_as r c.self.invariant c.args.thread.0) None refl [] (claim_wakes c.self.inside.elements.elements c.args.mutex.0 (record { thread = c.args.thread.0; rank = rank }) c.args.owner.0)
    ∙ ap (λ (x : State). Ok (Begun, x)) (sym (blocked_as s c.claim.new.self.elements c.args.thread.0 on c.args.until c.hand_on.new.sched.sched c.begin.new.waits.items (state_of c.await_date.new.self)
    (c.hand_on.ensures.kept ∙ ap (λ (q : Ranked). q.sched) c.block.ensures.state) c.begin.ensures.begun c.await_date.ensures.dated)))

pub returns-clause-stands : goal.returns-clause-stands
returns-clause-stands g c =
    rw (← c.self.view_is) (keeps-both (records_view c.self.inside) _ c.await_date.new.self (keeps-changed (records_view c.self.inside) c.claim.new.self c.hand_on.new.sched c.begin.new.waits.items) c.await_date.ensures.stands)

pub hand_on-requires-clause-told : goal.hand_on-requires-clause-told
hand_on-requires-clause-told g c =
    let blocked = ranks-blocked (owners_of c.self.inside.elements) c.self.inside.sched c.block.new.self c.self.invariant.ranks c.args.thread.0 c.block.ensures.state in
    subst (λ (b : List ℕ). AreTold b c.block.new.self.sched) (sym c.claim.ensures.base) blocked.told

pub hand_on-requires-clause-others : goal.hand_on-requires-clause-others
hand_on-requires-clause-others g c =
    given-beside (owners_of c.self.inside.elements) (owners_of c.claim.new.self) c.block.new.self (is_noted c.self.inside.changes) (is_noted c.claim.new.changes)
    (ranks-blocked (owners_of c.self.inside.elements) c.self.inside.sched c.block.new.self c.self.invariant.ranks c.args.thread.0 c.block.ensures.state) c.claim.ensures.noted
