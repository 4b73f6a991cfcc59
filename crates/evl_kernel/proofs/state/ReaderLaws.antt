-- The readers' answers about threads.
use Rattle.std.proofs.lemmas.Bool.{false≢true}
use Rattle.std.proofs.lemmas.Bool.Decides.{nat_tests}
use Rattle.std.proofs.Common.{◌≡◌, arith, ℕ, Bool, true, false, if◌then◌else◌, Option, Some, None, is_some, refl, sym, ap, ◌∙◌}
use Rattle.std.specs.Option.{option_map}
use Rattle.evl_base.specs.declared.numbers.ThreadId.{ThreadId}
use Rattle.evl_base.specs.declared.refusal.Refusal.{Refusal}
use Rattle.evl_base.specs.declared.refusal.Refusal.TheVariants.{Invalid, Unknown}
use Rattle.evl_sched.specs.Calls.{is_thread, stranger_refusal}
use Rattle.evl_sched.specs.Picks.{picked}
use Rattle.evl_sched.specs.Ranks.{rank_of}
use Rattle.evl_sched.specs.Threads.{Sched, is_attached, refused_first}
use Rattle.evl_sched.proofs.AlikeLaws.{picked-alike}
use Rattle.evl_kernel.specs.state.Records.{IsSound, RecordsView, state_of}
use Rattle.evl_kernel.specs.calls.ThreadCalls.{rank_of as effective_of}
use Rattle.evl_kernel.proofs.state.EffectiveLaws.{given_as}
use Rattle.evl_kernel.proofs.state.RankLaws.{attached_of}
use Rattle.evl_kernel.proofs.histories.StageLaws.{past_seats}

-- a thread that is refused as a stranger isn't attached
pub stranger_is_none : (q : Sched) (thread : ℕ) (e : Refusal) → stranger_refusal q thread ≡ Some e → is_attached q thread ≡ false
stranger_is_none q thread e = by (is_thread q thread) refl (is_attached q thread) refl
  where
    never : {A : Type 0} {x : A} → None ≡ Some x → ⊥
    never h = cc

    by : (there : Bool) → is_thread q thread ≡ there → (attached : Bool) → is_attached q thread ≡ attached
        → refused_first (if there then None else Some Unknown) (if attached then None else Some Invalid) ≡ Some e → attached ≡ false
    by there is false at h = refl
    by true is true at h = absurd (never h)
    by false out true at h = absurd (false≢true (sym (ap is_some (past_seats q.seats thread (grind (arith, nat_tests, out)))) ∙ at))

module _ {C : Type 0} (r : RecordsView C) (h : IsSound r) where
  pub pick_reads : (o : Option ThreadId) → option_map (λ (t : ThreadId). t.0) o ≡ picked (rank_of r.sched) r.sched.sched → option_map (λ (t : ThreadId). t.0) o ≡ picked (effective_of (state_of r)) r.sched.sched
  pick_reads o is = is ∙ picked-alike (rank_of r.sched) (effective_of (state_of r)) r.sched.sched (given_as r h)

  pub rank_reads : (thread rank : ℕ) → stranger_refusal r.sched.sched thread ≡ None → rank ≡ rank_of r.sched thread
      → Some rank ≡ (if is_attached r.sched.sched thread then Some (effective_of (state_of r) thread) else None)
  rank_reads thread rank passed is =
      let here : is_attached r.sched.sched thread ≡ true = attached_of r.sched.sched thread passed in
      rw here (ap Some (is ∙ given_as r h thread here))

  pub no_rank_reads : (thread : ℕ) (e : Refusal) → stranger_refusal r.sched.sched thread ≡ Some e
      → None ≡ (if is_attached r.sched.sched thread then Some (effective_of (state_of r) thread) else None)
  no_rank_reads thread e refused = rw (stranger_is_none r.sched.sched thread e refused) refl
