-- The outcome of each step on a mutex's word at the seat that made it.
use Rattle.std.proofs.Common.{◌≡◌, ◌≢◌, ℕ, ◌+◌, ◌==◌, eqb, eq-eqb, ne_eqb, Bool, true, false, Ok, Err, inr, refl, sym, ap, ◌∙◌, subst}
use Rattle.std.specs.Prelude.{MatchBool, if◌then◌else◌}
use Rattle.evl_base.specs.declared.refusal.Refusal.TheVariants.{Again, Busy}
use Rattle.evl_words.specs.declared.mutex.Claim.{Claim}
use Rattle.evl_words.specs.declared.mutex.MutexCall.TheVariants.{Accept, Claim as Claimed, Forget, Try, Unlock}
use Rattle.evl_words.specs.declared.mutex.MutexHold.{MutexHold}
use Rattle.evl_words.specs.declared.mutex.MutexPass.{MutexPass}
use Rattle.evl_words.specs.declared.mutex.MutexReply.TheVariants.{Done, Passed, Refused, Claimed as IsClaimed}
use Rattle.evl_words.specs.declared.mutex.MutexRole.{MutexRole}
use Rattle.evl_words.specs.declared.mutex.MutexRole.TheVariants.{Bystander, Owner}
use Rattle.evl_words.specs.declared.mutex.Unlock.TheVariants.{Done as IsDone, Claimed as ComesBack}
use Rattle.evl_words.specs.MutexBits.{claim_reply, offers_to}
use Rattle.evl_words.specs.MutexCalls.{IsPassOf, MutexSeatState, reply_of}
use Rattle.evl_words.specs.MutexWorld.{MutexAppends, MutexDoes, MutexKind, MutexView, EndsOffered, MutexLooks, accepts, awaits, claims, forgets, forgotten, frees, offers, owns, role_claimed, role_of, settles, step_role, tries, unlocks}
use Rattle.evl_words.proofs.MutexSeats.{accepts_after, awaited_of}
use Rattle.evl_core.specs.words.MutexSeats.{AcceptsSo, Claims, ForgetsSo, Frees, Offers, Settles, Tries, UnlocksSo}
use Rattle.evl_core.specs.words.MutexTokens.{AwaitsSo, TakesOffer}
use Rattle.evl_core.proofs.words.MutexTokens.{Stepped}

match_true : (b : Bool) (X Y : Type 0) → b ≡ true → X → MatchBool b X Y
match_true true X Y e x = x
match_true false X Y e x = absurd (cc)

-- what the seat is to the mutex after a step
pub owns_after : (k : ℕ) (p q : MutexView) (kind : MutexKind) (found : ℕ) (r : MutexRole) → MutexDoes k p kind found q → step_role found k p.held.role kind ≡ r → owns q.held.role ≡ owns r
owns_after k p q kind found r d e = ap (λ (h : MutexHold). owns h.role) d.held ∙ ap owns e

module _ (was is : MutexSeatState) (found : ℕ) where
  pub claims_so : (told : Claim) → Stepped claims found was is was.depth → reply_of told ≡ claim_reply found → Claims told was is
  claims_so told s e = (
    (found, s.makes),
    record {
      held = s.makes.held ∙ ap (λ r. role_of was.view.held.seats (role_claimed r was.view.held.role)) (sym e);
      depth = s.depth;
      appends = subst (λ r. MutexAppends was.number was.view Claimed r is.view) (sym e) s.makes.extends;
    },
  )

  pub settles_so : (pass : MutexPass) → IsPassOf pass was → Stepped settles found was is 1 → Settles pass was is
  settles_so pass mine s = (mine, (found, s.makes), record { held = s.makes.held; depth = s.depth; appends = s.makes.extends })

  pub offers_so : (next : ℕ) (more : Bool) → Stepped (offers next more) found was is 0 → Offers next more was is
  offers_so next more s = ((found, s.makes), record { held = s.makes.held; depth = s.depth; appends = s.makes.extends })

  pub frees_so : Stepped frees found was is 0 → Frees was is
  frees_so s = ((found, s.makes), record { held = s.makes.held; depth = s.depth; appends = s.makes.extends })

  -- a try that found the word 0, and one that didn't
  pub wins_so : (pass : MutexPass) → IsPassOf pass was → was.depth ≡ 0 → found ≡ 0 → Stepped tries found was is 1 → Tries (Ok pass) was is
  wins_so pass mine none zero' s =
      let e : eqb found 0 ≡ true = eq-eqb found 0 zero' in (
        mine,
        match_true (was.depth == 0) _ _ (eq-eqb was.depth 0 none) (
          (found, s.makes),
          record {
            held = s.makes.held ∙ ap (λ b. role_of was.view.held.seats (if b then Owner else was.view.held.role)) e;
            depth = s.depth;
            appends = subst (λ b. MutexAppends was.number was.view Try (if b then Passed else Refused Busy) is.view) e s.makes.extends;
          },
        ),
      )

  pub loses_so : was.depth ≡ 0 → found ≢ 0 → Stepped tries found was is was.depth → Tries (Err Busy) was is
  loses_so none other s =
      let e : eqb found 0 ≡ false = ne_eqb found 0 other in (
        refl,
        none,
        (found, s.makes),
        record {
          held = s.makes.held ∙ ap (λ b. role_of was.view.held.seats (if b then Owner else was.view.held.role)) e;
          depth = s.depth ∙ none;
          appends = subst (λ b. MutexAppends was.number was.view Try (if b then Passed else Refused Busy) is.view) e s.makes.extends;
        },
      )

  -- an unlocking that found the thread's number alone, and one that found more
  pub unlocks_so : (pass : MutexPass) → was.depth ≡ 1 → found ≡ was.number + 1 → Stepped unlocks found was is 0 → UnlocksSo pass (Ok IsDone) was is
  unlocks_so pass once mine s =
      let e : eqb found (was.number + 1) ≡ true = eq-eqb found (was.number + 1) mine in
      let one = eq-eqb was.depth 1 once in (
        match_true (was.depth == 1) _ _ one (found, s.makes),
        match_true (was.depth == 1) _ _ one (record {
          held = s.makes.held ∙ ap (λ b. role_of was.view.held.seats (if b then Bystander else was.view.held.role)) e;
          depth = s.depth;
          appends = subst (λ b. MutexAppends was.number was.view Unlock (if b then Done else IsClaimed) is.view) e s.makes.extends;
        }),
      )

  pub comes_back_so : (pass : MutexPass) → was.depth ≡ 1 → was.view.held.role ≡ Owner → found ≢ was.number + 1 → Stepped unlocks found was is was.depth → UnlocksSo pass (Ok (ComesBack pass)) was is
  comes_back_so pass once owner other s =
      let e : eqb found (was.number + 1) ≡ false = ne_eqb found (was.number + 1) other in
      let one = eq-eqb was.depth 1 once in (
        match_true (was.depth == 1) _ _ one (found, s.makes),
        match_true (was.depth == 1) _ _ one (
          refl,
          record {
            held = s.makes.held ∙ ap (λ b. role_of was.view.held.seats (if b then Bystander else was.view.held.role)) e ∙ ap (role_of was.view.held.seats) owner;
            depth = s.depth ∙ once;
            appends = subst (λ b. MutexAppends was.number was.view Unlock (if b then Done else IsClaimed) is.view) e s.makes.extends;
          },
        ),
      )

  -- a look by who waits no more
  pub forgets_so : (b : Bool) → offers_to found was.number ≡ b → Stepped forgets found was is was.depth → ForgetsSo (if b then Err Busy else Ok tt) was is
  forgets_so true e s = (
    (found, s.makes),
    refl,
    record {
      held = s.makes.held ∙ ap (λ b. role_of was.view.held.seats (if b then was.view.held.role else forgotten was.view.held.role)) e;
      depth = s.depth;
      appends = subst (λ b. MutexAppends was.number was.view Forget (if b then Refused Busy else Done) is.view) e s.makes.extends;
    },
  )
  forgets_so false e s = (
    (found, s.makes),
    record {
      held = s.makes.held ∙ ap (λ b. role_of was.view.held.seats (if b then was.view.held.role else forgotten was.view.held.role)) e;
      depth = s.depth;
      appends = subst (λ b. MutexAppends was.number was.view Forget (if b then Refused Busy else Done) is.view) e s.makes.extends;
    },
  )

  -- a look for an offer
  abbrev LooksAs : Bool → Type 0
  LooksAs b = MatchBool b ((is.view.held ≡ was.view.held) × MutexLooks was.number was.view is.view × EndsOffered was.number is.view.seen) ((is.view.held ≡ was.view.held) × MutexAppends was.number was.view Accept (Refused Again) is.view)

  pub awaits_so : (b : Bool) → offers_to found was.number ≡ b → Stepped awaits found was is was.depth → AwaitsSo (if b then Ok tt else Err Again) was is
  awaits_so b e s = by b (subst LooksAs e (awaited_of was.number was.view is.view found s.makes))
    where
      by : (b : Bool) → LooksAs b → AwaitsSo (if b then Ok tt else Err Again) was is
      by true t = ((found, s.makes), record { held = t.0; depth = s.depth; looks = t.1; offered = t.2 })
      by false t = ((found, s.makes), refl, record { held = t.0; depth = s.depth; appends = t.1 })

  pub takes_so : (pass : MutexPass) → IsPassOf pass was → Stepped accepts found was is 1 → TakesOffer pass was is
  takes_so pass mine s = ((found, s.makes), mine, record { held = s.makes.held; depth = s.depth; appends = s.makes.extends })

-- a look and what takes the offer are one acceptance
pub accepts_so : (pass : MutexPass) (was mid is : MutexSeatState) → mid.table ≡ was.table → mid.mutex ≡ was.mutex → mid.number ≡ was.number → AwaitsSo (Ok tt) was mid → TakesOffer pass mid is → AcceptsSo (Ok pass) was is
accepts_so pass was mid is table mutex number (looked, sees) (makes, mine, calls) = (
  inr (mid, looked, makes),
  (mine.0 ∙ mutex, mine.1 ∙ number),
  accepts_after was mid is Passed Owner 1 (record { table = table; mutex = mutex; number = number; seats = ap (λ (h : MutexHold). h.seats) sees.held }) sees calls,
)
