-- A pass that is spent at a word which others claim: the caller still has the mutex once, and hands it on.
use Rattle.std.proofs.Common.{◌≡◌, ◌==◌, ◌-◌, ◌&&◌, if◌then◌else◌, List, Bool, true, false, map, Option, Some, None, Result, Ok, Err, IsSomeAnd, MatchBool, MatchOption, slice_get, inr, eqb-true, refl, sym, ap, ◌∙◌, subst}
use Rattle.std.specs.Option.{option_map_or}
use Rattle.std.proofs.lemmas.Option.{none-some}
use Rattle.evl_base.specs.declared.refusal.Refusal.{Refusal}
use Rattle.evl_base.specs.declared.refusal.Refusal.TheVariants.{NotOwner}
use Rattle.evl_words.specs.MutexCalls.{IsPassOf, MutexSeatState, Releases, Unlocks, at_depth}
use Rattle.evl_words.specs.declared.mutex.MutexPass.{MutexPass}
use Rattle.evl_words.specs.declared.mutex.Unlock.{Unlock}
use Rattle.evl_words.specs.declared.mutex.Unlock.TheVariants.{Claimed, Done}
use Rattle.evl_core.specs.words.AtSeats.{AtSeat}
use Rattle.evl_machine.specs.callers.Handles.{CallerState}
use Rattle.evl_core.specs.words.Homes.{mutex_home}
use Rattle.evl_machine.specs.mutex_locks.MutexLocks.{HandsOn, SpendsAtWord, UnlocksAtWord}
use Rattle.evl_core.specs.words.MutexTokens.{AreTheSame}
use Rattle.evl_core.specs.words.MutexSeats.{HasOnce, UnlocksMutex, UnlocksSo, is_owner, pass_refusal, unlock_refusal}
use Rattle.evl_core.proofs.words.SeatLists.{set_there, same-at}

abbrev was_claimed : MutexPass → Result Unlock (Refusal × MutexPass)
was_claimed back = Ok (Claimed back)

-- what a seat did that found its word claimed
claimed_at : (old new : List MutexSeatState) (pass back : MutexPass) → unlock_refusal old pass ≡ None → UnlocksMutex old pass (was_claimed back) new → AtSeat pass.mutex.0 old new (UnlocksSo pass (was_claimed back))
claimed_at old new pass back own = by (unlock_refusal old pass) own
  where
    by : (o : Option Refusal) → o ≡ None → MatchOption o (AtSeat pass.mutex.0 old new (UnlocksSo pass (was_claimed back))) (λ refusal. (was_claimed back ≡ Err (refusal, pass)) × (new ≡ old)) → AtSeat pass.mutex.0 old new (UnlocksSo pass (was_claimed back))
    by None own at = at
    by (Some refusal) own told = absurd (none-some refusal (sym own))

-- it was held once, and is still
still_once : (pass back : MutexPass) (was is : MutexSeatState) → Unlocks was is pass (Claimed back) → (back ≡ pass) × (is.depth ≡ 1)
still_once pass back was is = by (was.depth == 1)
  where
    by : (b : Bool) → MatchBool b (Releases was is pass (Claimed back)) ((Claimed back ≡ Done) × (is ≡ at_depth (was.depth - 1) was)) → (back ≡ pass) × (is.depth ≡ 1)
    by true told = (told.0, told.1.depth)
    by false told = absurd (cc)

both : (a b c : Bool) → (if a && b && c then None else Some NotOwner) ≡ None → (a ≡ true) × (b ≡ true)
both true true true is = (refl, refl)
both true true false is = absurd (cc)
both true false c is = absurd (cc)
both false b c is = absurd (cc)

-- the pass is of the seat at which it was spent
own_pass : (old : List MutexSeatState) (pass : MutexPass) (was : MutexSeatState) → slice_get old pass.mutex.0 ≡ Some was → unlock_refusal old pass ≡ None → IsPassOf pass was
own_pass old pass was there own =
    let at : pass_refusal pass was ≡ None = sym (ap (λ (o : Option MutexSeatState). option_map_or (pass_refusal pass) o (Some NotOwner)) there) ∙ own in
    let same = both (pass.mutex.0 == was.mutex.0) (pass.seat == was.number) (is_owner was) at in
    ((λ i. record { 0 = eqb-true pass.mutex.0 was.mutex.0 same.0 i }), eqb-true pass.seat was.number same.1)

module _ (old new : List MutexSeatState) (pass back : MutexPass) (own : unlock_refusal old pass ≡ None) (r : Result Unlock (Refusal × MutexPass)) (told : r ≡ was_claimed back) (was_spent : UnlocksMutex old pass r new) where
  spent : UnlocksMutex old pass (was_claimed back) new
  spent = subst (λ (z : Result Unlock (Refusal × MutexPass)). UnlocksMutex old pass z new) told was_spent

  comes_back : back ≡ pass
  comes_back = let at = claimed_at old new pass back own spent in (still_once pass back at.was at.is at.does.1).0

  pub claimed_once : map mutex_home new ≡ map mutex_home old → map (λ (s : MutexSeatState). s.number) new ≡ map (λ (s : MutexSeatState). s.number) old → HasOnce new back
  claimed_once homes numbers =
      let at = claimed_at old new pass back own spent in
      let once = still_once pass back at.was at.is at.does.1 in
      let now : slice_get new pass.mutex.0 ≡ Some at.is = ap (λ (seats : List MutexSeatState). slice_get seats pass.mutex.0) at.changed ∙ set_there old pass.mutex.0 at.was at.is at.there in
      let home = same-at mutex_home mutex_home new old pass.mutex.0 at.is at.was homes now at.there in
      let number = same-at (λ (s : MutexSeatState). s.number) (λ (s : MutexSeatState). s.number) new old pass.mutex.0 at.is at.was numbers now at.there in
      let mine = own_pass old pass at.was at.there own in
      let fits : IsPassOf pass at.is = (mine.0 ∙ (λ i. record { 0 = (sym home i).number }), mine.1 ∙ sym number) in
      subst (λ (p : MutexPass). HasOnce new p) (sym once.0) (subst (λ o. IsSomeAnd o (λ s. IsPassOf pass s × (s.depth ≡ 1))) (sym now) (fits, once.1))

-- the word was claimed, and the mutex handed on by the kernel
pub unlocked_by_kernel : {C : Type 0} (old found new : CallerState C) (pass back : MutexPass) (r : Result (Unit {0}) (Refusal × MutexPass)) (u : Unlock) → unlock_refusal old.mutexes pass ≡ None → u ≡ Claimed back
    → SpendsAtWord old pass u found → HandsOn found back r new → UnlocksAtWord old pass r new
unlocked_by_kernel old found new pass back r u own told call handed =
    let at_seats : UnlocksMutex old.mutexes pass (was_claimed back) found.mutexes = subst (λ (u : Unlock). UnlocksMutex old.mutexes pass (Ok u) found.mutexes) told call.1 in
    let is : back ≡ pass = comes_back old.mutexes found.mutexes pass back own (was_claimed back) refl at_seats in
    inr (found, (call.0, subst (λ (p : MutexPass). UnlocksMutex old.mutexes pass (was_claimed p) found.mutexes) is at_seats, call.2), subst (λ (p : MutexPass). HandsOn found p r new) is handed)

-- a caller still has it once then
pub still_has : {C : Type 0} (old found : CallerState C) (pass back : MutexPass) (u : Unlock) → unlock_refusal old.mutexes pass ≡ None → u ≡ Claimed back → SpendsAtWord old pass u found → AreTheSame old.mutexes found.mutexes → HasOnce found.mutexes back
still_has old found pass back u own told call seats =
    let at_seats : UnlocksMutex old.mutexes pass (was_claimed back) found.mutexes = subst (λ (u : Unlock). UnlocksMutex old.mutexes pass (Ok u) found.mutexes) told call.1 in
    claimed_once old.mutexes found.mutexes pass back own (was_claimed back) refl at_seats seats.homes seats.numbers
