-- The picked thread and the charged one go by effective ranks.
use Rattle.std.proofs.lemmas.Bool.{false≢true}
use Rattle.std.proofs.lemmas.Bool.Decides.{nat_tests}
use Rattle.std.proofs.Common.{◌≡◌, ◌≢◌, ◌==◌, ◌/◌, not, arith, ℕ, Bool, true, false, if◌then◌else◌, List, Option, Some, None, Ok, Err, refl, sym, ap, ◌∙◌, subst}
use Rattle.std.specs.Option.{option_map}
use Rattle.std.proofs.lemmas.Option.{none-some, same_Some}
use Rattle.evl_base.specs.declared.numbers.ThreadId.{ThreadId}
use Rattle.evl_sched.specs.Threads.{Sched, opening}
use Rattle.evl_sched.specs.Ranks.{Ranked, fresh, rank_of}
use Rattle.evl_sched.proofs.AlikeLaws.{charged-alike, picked-alike}
use Rattle.evl_sched.specs.Calls as calls
use Rattle.evl_sched.specs.Calls.{is_thread, attach_refusal, set_policy_refusal, stranger_refusal}
use Rattle.evl_sched.specs.Groups.{is_known}
use Rattle.evl_sched.specs.Policies.{group_of, is_in_range}
use Rattle.evl_base.specs.declared.policy.Policy.{Policy}
use Rattle.evl_sched.specs.Threads.{is_attached, refused_first}
use Rattle.evl_sched.specs.Picks.{picked}
use Rattle.evl_base.specs.declared.refusal.Refusal.{Refusal}
use Rattle.evl_base.specs.declared.refusal.Refusal.TheVariants.{Busy, Invalid, Range, Unknown}
use Rattle.evl_base.specs.declared.reply.Reply.TheVariants.{Number, Chosen}
use Rattle.evl_sched.specs.Charges.{charged, refilled_groups}
use Rattle.evl_kernel.specs.state.States.{with_sched}
use Rattle.evl_kernel.specs.calls.Mutexes.{thread_named}
use Rattle.evl_kernel.specs.calls.ThreadCalls.{paid_between, pick, tell_rank, rank_of as effective_of}
use Rattle.evl_kernel.proofs.state.RankLaws.{attached_of}
use Rattle.evl_kernel.specs.state.KernelViews.{IsAnswer}
use Rattle.evl_kernel.specs.state.Records.{IsSound, RecordsView, state_of}
use Rattle.evl_kernel.proofs.state.EffectiveLaws.{given_as}

pub sched-fresh : (threads : ℕ) (percents : List ℕ) → (fresh threads percents).sched ≡ opening threads percents
unfolding fresh
sched-fresh threads percents = refl

-- a thread by its number
pub named-number : (o : Option ThreadId) → option_map thread_named (option_map (λ (t : ThreadId). t.0) o) ≡ o
named-number None = refl
named-number (Some thread) = refl

differ : (a b : ℕ) → a ≢ b → not (a == b) ≡ true
differ a b other = by (a == b) refl
  where
    by : (same : Bool) → (a == b) ≡ same → not same ≡ true
    by true is = absurd (other (grind (arith, nat_tests)))
    by false is = refl

agree : (a b : ℕ) → a ≡ b → not (a == b) ≡ false
agree a b one = by (a == b) refl
  where
    by : (same : Bool) → (a == b) ≡ same → not same ≡ false
    by true is = refl
    by false is = absurd (other (grind (arith, nat_tests)))
      where
        other : (a == b) ≡ true → ⊥
        other e = absurd (false≢true (sym is ∙ e))

-- what the picked thread pays
module _ {C : Type 0} (r : RecordsView C) (q : Ranked) (before delta now : ℕ) (h : IsSound r) where
  by_rank : charged (rank_of r.sched) r.sched.sched delta ≡ charged (effective_of (state_of r)) r.sched.sched delta
  by_rank = charged-alike (rank_of r.sched) (effective_of (state_of r)) r.sched.sched (given_as r h) delta

  pub paid_anew : q ≡ calls.refill (calls.charge r.sched delta) → before / 1000000000 ≢ now / 1000000000 → state_of (record r { sched = q }) ≡ paid_between (state_of r) before delta now
  paid_anew is other =
      let left = charged (effective_of (state_of r)) r.sched.sched delta in
      let anew = differ (before / 1000000000) (now / 1000000000) other in
      ap (with_sched (state_of r)) (ap (λ (x : Ranked). x.sched) is ∙ (ap refilled_groups by_rank ∙ sym (ap (λ (b : Bool). if b then refilled_groups left else left) anew)))

  pub paid_within : q ≡ calls.charge r.sched delta → before / 1000000000 ≡ now / 1000000000 → state_of (record r { sched = q }) ≡ paid_between (state_of r) before delta now
  paid_within is one =
      let left = charged (effective_of (state_of r)) r.sched.sched delta in
      let same = agree (before / 1000000000) (now / 1000000000) one in
      ap (with_sched (state_of r)) (ap (λ (x : Ranked). x.sched) is ∙ (by_rank ∙ sym (ap (λ (b : Bool). if b then refilled_groups left else left) same)))

-- a refusal of a thread that isn't attached is one that the kernel answers
pub stranger_answers : (q : Sched) (thread : ℕ) (e : Refusal) → stranger_refusal q thread ≡ Some e → IsAnswer (Err e)
stranger_answers q thread e = by (is_thread q thread) (is_attached q thread)
  where
    some_is : {A : Type 0} {x y : A} → Some x ≡ Some y → x ≡ y
    some_is h = cc

    none_some : {A : Type 0} {x : A} → None ≡ Some x → ⊥
    none_some h = cc

    by : (there attached : Bool) → refused_first (if there then None else Some Unknown) (if attached then None else Some Invalid) ≡ Some e → IsAnswer (Err e)
    by true true h = absurd (none_some h)
    by true false h = subst (λ (r : Refusal). IsAnswer (Err r)) (some_is h) (refl, tt)
    by false attached h = subst (λ (r : Refusal). IsAnswer (Err r)) (some_is h) (refl, tt)

-- and so is one of a policy
policy_answers : (there known in_range : Bool) (other : Option Refusal) → ((e : Refusal) → other ≡ Some e → IsAnswer (Err e)) → (e : Refusal)
    → refused_first (if there then None else Some Unknown) (refused_first (if not known then Some Unknown else (if in_range then None else Some Range)) other) ≡ Some e → IsAnswer (Err e)
policy_answers false known in_range other last e h = subst (λ (r : Refusal). IsAnswer (Err r)) (same_Some _ _ h) (refl, tt)
policy_answers true false in_range other last e h = subst (λ (r : Refusal). IsAnswer (Err r)) (same_Some _ _ h) (refl, tt)
policy_answers true true false other last e h = subst (λ (r : Refusal). IsAnswer (Err r)) (same_Some _ _ h) (refl, tt)
policy_answers true true true other last e h = last e h

pub attach_answers : (q : Sched) (thread : ℕ) (policy : Policy) (e : Refusal) → attach_refusal q thread policy ≡ Some e → IsAnswer (Err e)
attach_answers q thread policy e h = policy_answers (is_thread q thread) (is_known q.groups (group_of policy)) (is_in_range policy) (if is_attached q thread then Some Busy else None) (last (is_attached q thread)) e h
  where
    last : (b : Bool) (r : Refusal) → (if b then Some Busy else None) ≡ Some r → IsAnswer (Err r)
    last true r h = subst (λ (x : Refusal). IsAnswer (Err x)) (same_Some _ _ h) (refl, tt)
    last false r h = absurd (none-some _ h)

pub set_policy_answers : (q : Sched) (thread : ℕ) (policy : Policy) (e : Refusal) → set_policy_refusal q thread policy ≡ Some e → IsAnswer (Err e)
set_policy_answers q thread policy e h = policy_answers (is_thread q thread) (is_known q.groups (group_of policy)) (is_in_range policy) (if is_attached q thread then None else Some Invalid) (last (is_attached q thread)) e h
  where
    last : (b : Bool) (r : Refusal) → (if b then None else Some Invalid) ≡ Some r → IsAnswer (Err r)
    last false r h = subst (λ (x : Refusal). IsAnswer (Err x)) (same_Some _ _ h) (refl, tt)
    last true r h = absurd (none-some _ h)

-- what is answered about ranks and the picked thread
module _ {C : Type 0} (r : RecordsView C) (h : IsSound r) where
  pub told_rank : (thread rank : ℕ) → stranger_refusal r.sched.sched thread ≡ None → rank ≡ rank_of r.sched thread → tell_rank (state_of r) thread ≡ Ok (Number rank, state_of r)
  told_rank thread rank passed is = rw passed (ap (λ (n : ℕ). Ok (Number n, state_of r)) (sym (is ∙ given_as r h thread (attached_of r.sched.sched thread passed))))

  pub told_pick : (o : Option ThreadId) → option_map (λ (t : ThreadId). t.0) o ≡ picked (rank_of r.sched) r.sched.sched → pick (state_of r) ≡ Ok (Chosen o, state_of r)
  told_pick o is =
      ap (λ (x : Option ThreadId). Ok (Chosen x, state_of r)) (ap (option_map thread_named) (sym (is ∙ picked-alike (rank_of r.sched) (effective_of (state_of r)) r.sched.sched (given_as r h))) ∙ named-number o)
