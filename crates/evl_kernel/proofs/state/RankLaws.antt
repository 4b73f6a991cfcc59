-- The ranks that the scheduler was given stay the effective ones.
use Rattle.std.proofs.Common.{◌≡◌, ◌≤◌, ◌<◌, ℕ, Bool, true, false, List, length, Option, Some, None, Result, Ok, Err, OnOk, OnErr, slice_index, slice_index_or, if◌then◌else◌, refl, sym, ap, ◌∙◌, subst, arith}
use Rattle.std.specs.Option.{option_map_or}
use Rattle.evl_base.specs.declared.refusal.Refusal.{Refusal}
use Rattle.evl_base.specs.declared.refusal.Refusal.TheVariants.{Invalid, Unknown}
use Rattle.evl_base.specs.declared.stage.Stage.{Stage}
use Rattle.evl_mutex.specs.Mutexes.{Mutex}
use Rattle.evl_mutex.specs.Owners as owners
use Rattle.evl_mutex.specs.Owners.{Owners}
use Rattle.evl_mutex.specs.Chains.{HasNoRing, waits_for}
use Rattle.evl_mutex.specs.Ranks.{IsEffective, effective}
use Rattle.evl_mutex.proofs.RankLaws.{effective-is}
use Rattle.evl_sched.specs.Calls as calls
use Rattle.evl_sched.specs.Calls.{is_thread, stranger_refusal}
use Rattle.evl_sched.specs.Ranks as ranks
use Rattle.evl_sched.specs.Ranks.{Ranked, given_to}
use Rattle.evl_sched.specs.Threads.{Sched, base_of, is_attached, refused_first}
use Rattle.evl_sched.proofs.SeatLaws.{SamePolicies, attached-same, base-same, policies-charged, policies-stage_set}
use Rattle.evl_base.specs.Limits.{thread_limit}
use Rattle.evl_kernel.specs.state.Records.{AreGiven, AreTold, RanksAreKept}
use Rattle.evl_kernel.specs.calls.ThreadCalls.{rank_by}

-- a thread that nothing refuses as a stranger is attached
pub attached_of : (s : Sched) (thread : ℕ) → stranger_refusal s thread ≡ None → is_attached s thread ≡ true
attached_of s thread = by (is_thread s thread) (is_attached s thread)
  where
    some_none : {A : Type 0} {x : A} → Some x ≡ None → ⊥
    some_none e = cc

    by : (there attached : Bool) → refused_first (if there then None else Some Unknown) (if attached then None else Some Invalid) ≡ None → attached ≡ true
    by true true none = refl
    by true false none = absurd (some_none none)
    by false attached none = absurd (some_none none)

-- where the policies stay, the ranks do
module _ (o : Owners) (q p : Ranked) (same : SamePolicies q.sched p.sched) (alike : p.given ≡ q.given) where
  told_same : AreTold o.base q.sched → AreTold o.base p.sched
  told_same h = record { few = h.few; seats = subst (λ (count : ℕ). count ≤ length o.base) (sym same.many) h.seats; same = λ t. h.same t ∙ sym (base-same q.sched p.sched same t) }

  given_same : AreGiven q o → AreGiven p o
  given_same h t attached =
      let bases : base_of p.sched t ≡ base_of q.sched t = base-same q.sched p.sched same t in
      let given : given_to p t ≡ given_to q t = ap (λ (g : List (Option ℕ)). slice_index_or g t None) alike in
      let mine : ranks.rank_of p t ≡ ranks.rank_of q t = λ i. option_map_or (λ rank. rank) (given i) (bases i) in
      mine ∙ h t (sym (attached-same q.sched p.sched same t) ∙ attached)

  pub ranks-same : {n : ℕ} → RanksAreKept n o q → RanksAreKept n o p
  ranks-same h = record { size = h.size; told = told_same h.told; given = given_same h.given }

-- no call of the scheduler that keeps the policies changes them
module _ {n : ℕ} (o : Owners) (q p : Ranked) (h : RanksAreKept n o q) where
  pub ranks-blocked : (thread : ℕ) → p ≡ calls.block q thread → RanksAreKept n o p
  ranks-blocked thread is = subst (RanksAreKept n o) (sym is) (ranks-same o q (calls.block q thread) (record { many = refl; same = λ t. refl }) refl h)

  pub ranks-readied : (thread : ℕ) → p ≡ calls.made_ready q thread → RanksAreKept n o p
  ranks-readied thread is = subst (RanksAreKept n o) (sym is) (ranks-same o q (calls.made_ready q thread) (record { many = refl; same = λ t. refl }) refl h)

  pub ranks-refilled : p ≡ calls.refill q → RanksAreKept n o p
  ranks-refilled is = subst (RanksAreKept n o) (sym is) (ranks-same o q (calls.refill q) (record { many = refl; same = λ t. refl }) refl h)

  pub ranks-charged : (delta : ℕ) → p ≡ calls.charge q delta → RanksAreKept n o p
  ranks-charged delta is = subst (RanksAreKept n o) (sym is) (ranks-same o q (calls.charge q delta) (policies-charged (ranks.rank_of q) q.sched delta) refl h)

  pub ranks-stage_set : (thread : ℕ) (stage : Stage) → p ≡ calls.set_stage q thread stage → RanksAreKept n o p
  ranks-stage_set thread stage is = subst (RanksAreKept n o) (sym is) (ranks-same o q (calls.set_stage q thread stage) (policies-stage_set q.sched thread stage) refl h)

-- also where the call may be refused
pub ranks-stage_tried : {n : ℕ} (o : Owners) (q p : Ranked) → RanksAreKept n o q → (thread : ℕ) (stage : Stage) (result : Result (Unit {0}) Refusal)
    → OnOk result (p ≡ calls.set_stage q thread stage) → OnErr result (p ≡ q) → RanksAreKept n o p
ranks-stage_tried o q p h thread stage (Ok u) done same = ranks-stage_set o q p h thread stage done
ranks-stage_tried {n} o q p h thread stage (Err refusal) done same = subst (RanksAreKept n o) (sym same) h

-- the ranks were handed on
pub ranks-handed : {n : ℕ} (o : Owners) (q p : Ranked) → RanksAreKept n o q → (base : List ℕ) (mutexes : List Mutex) → base ≡ o.base → p.sched ≡ q.sched
    → AreGiven p (record { base = base; mutexes = mutexes }) → RanksAreKept n (record { base = base; mutexes = mutexes }) p
ranks-handed o q p h base mutexes same kept given = record { size = ap length same ∙ h.size; told = subst (λ (b : List ℕ). AreTold b p.sched) (sym same) (subst (AreTold o.base) (sym kept) h.told); given = given }

-- The ranks as the recorded owners compute them, where these got the base ranks: of however many threads, if only
-- these wait, and nobody for itself.
pub rank_told : (o : Owners) (s : Sched) → AreTold o.base s → HasNoRing (waits_for o.mutexes) → ((from to : ℕ) → waits_for o.mutexes from ≡ Some to → from < length o.base)
    → (thread : ℕ) → owners.rank_of o thread ≡ rank_by (base_of s) o.mutexes thread
unfolding rank_by
rank_told o s told none low thread =
    let bases : slice_index o.base ≡ base_of s = λ i t. told.same t i in
    let wide : (from to : ℕ) → waits_for o.mutexes from ≡ Some to → from < thread_limit = λ from to is. omega (arith, low from to is, told.few) in
    ap (λ (base : ℕ → ℕ). effective (length o.base) base o.mutexes thread) bases
    ∙ one_greatest (effective-is (length o.base) (base_of s) o.mutexes thread none low) (effective-is thread_limit (base_of s) o.mutexes thread none wide)
  where
    one_greatest : {a b : ℕ} → IsEffective (base_of s) o.mutexes thread a → IsEffective (base_of s) o.mutexes thread b → a ≡ b
    one_greatest {a} {b} first second =
        let up : a ≤ b = second.greatest a first.counts in
        let down : b ≤ a = first.greatest b second.counts in
        omega (arith, up, down)
