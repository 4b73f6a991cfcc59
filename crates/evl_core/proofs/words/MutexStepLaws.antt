-- The outcome of each step on a mutex's word: the thread's places are its token's still, and its seat at the mutex did this.
use Rattle.std.proofs.Common.{◌≡◌, ◌≢◌, ◌==◌, ℕ, zero, suc, ◌+◌, ◌<◌, nat_lt, Bool, true, false, List, [], ◌∷◌, length, Some, IsSomeAnd, Ok, Err, slice_get, refl, sym, ap, ◌∙◌, subst, arith}
use Rattle.std.specs.Prelude.{if◌then◌else◌}
use Rattle.std.specs.Option.{option_map}
use Rattle.std.proofs.lemmas.List.{length-map}
use Rattle.std.proofs.lemmas.Option.{slice_get-map}
use mathlib.Core.Option.{none}
use Rattle.atomic_table.specs.Seated.{TableId}
use Rattle.atomic_table.specs.Table.{Step, step}
use Rattle.evl_base.specs.declared.refusal.Refusal.TheVariants.{Again, Busy}
use Rattle.evl_kernel.specs.state.KernelViews.{KernelView}
use Rattle.evl_words.specs.declared.mutex.Claim.{Claim}
use Rattle.evl_words.specs.declared.mutex.MutexHold.{MutexHold}
use Rattle.evl_words.specs.declared.mutex.MutexPass.{MutexPass}
use Rattle.evl_words.specs.declared.mutex.MutexRole.{MutexRole}
use Rattle.evl_words.specs.declared.mutex.MutexRole.TheVariants.{Bystander, Owner}
use Rattle.evl_words.specs.declared.mutex.Unlock.TheVariants.{Done as IsDone, Claimed as ComesBack}
use Rattle.evl_words.specs.declared.mutex.place.MutexPlace.{MutexPlace}
use Rattle.evl_words.specs.MutexBits.{claim_reply, offers_to}
use Rattle.evl_words.specs.MutexCalls.{MutexSeatState, reply_of}
use Rattle.evl_words.specs.MutexPlaces.{IsOfPlace}
use Rattle.evl_words.specs.MutexRule.{awaited, claimed, does, forgot, tried, unlocked}
use Rattle.evl_words.specs.MutexWorld.{EndsOffered, MutexKind, MutexView, accepts, awaits, claims, forgets, forgotten, frees, offers, owns, settles, tries, unlocks}
use Rattle.evl_words.proofs.MutexSteps.{owns-forgotten}
use Rattle.evl_words.proofs.MutexSeats.{claimed_owns, owner_at}
use Rattle.evl_core.specs.words.AtSeats.{AtSeat}
use Rattle.evl_core.specs.rule.Known.{CoreHand, KernelMe, accepted_known, awaited_known, claimed_known, forgot_known, freed_known, offered_known, settled_known, tried_held_known, tried_known, unlocked_known}
use Rattle.evl_core.specs.words.MutexPlaces.{Deepens, HoldsBy, less}
use Rattle.evl_core.specs.words.MutexSeats.{Claims, ForgetsSo, Frees, Offers, Settles, Tries, UnlocksSo}
use Rattle.evl_core.specs.words.MutexTokens.{AreItsPlaces, AreTheSame, AwaitsSo, DoesAtWord, IsAtTable, SeesOffered, TakesOffer, part_of, seat_at, seats_at}
use Rattle.evl_core.specs.rule.ThreadRule.{mutex_of}
use Rattle.evl_core.proofs.words.MutexDeeds.{awaits_so, claims_so, comes_back_so, forgets_so, frees_so, loses_so, offers_so, owns_after, settles_so, takes_so, unlocks_so, wins_so}
use Rattle.evl_core.proofs.words.SeatLists.{some-within}
use Rattle.evl_core.proofs.words.MutexTokens.{Moved, Stepped, at_seat, its_after, moved, moved_held, same_place, same_seats, stepped, table_after, tells_same}

-- what is at a place
pub some_place : {S : Type 0} (xs : List S) (i : ℕ) → i < length xs → (x : S) × (slice_get xs i ≡ Some x)
some_place [] i lt = absurd (omega (arith, lt))
some_place (x ∷ xs) zero lt = (x, refl)
some_place (x ∷ xs) (suc i) lt = some_place xs i (omega (arith, lt))

-- what is said of what is at a place
pub said_there : {S : Type 0} (P : S → Type 0) (xs : List S) (i : ℕ) (x : S) → slice_get xs i ≡ Some x → IsSomeAnd (slice_get xs i) P → P x
said_there P xs i x there said = subst (λ o. IsSomeAnd o P) there said

pub there_is : {S : Type 0} (P : S → Type 0) (xs : List S) (i : ℕ) → IsSomeAnd (slice_get xs i) P → (x : S) × (slice_get xs i ≡ Some x)
there_is P [] i said = absurd said
there_is P (x ∷ xs) zero said = (x, refl)
there_is P (x ∷ xs) (suc i) said = there_is P xs i said

pub offered_within : {C : Type 0} (table : TableId) (hand : CoreHand C) (ps : List MutexPlace) (i : ℕ) → SeesOffered (seats_at table hand ps) i → i < length ps
offered_within table hand ps i said =
    let here = some-within (λ (s : MutexSeatState). EndsOffered s.number s.view.seen) (seats_at table hand ps) i said in
    let long = length-map ps (seat_at table hand) in omega (arith, here, long)

-- what the thread's places say of it at the mutex i
module _ {C : Type 0} (hand : CoreHand C) (ps : List MutexPlace) (i : ℕ) (its : AreItsPlaces hand ps) where
  pub number_is : (n : ℕ) → IsSomeAnd (slice_get ps i) (λ p. p.number ≡ n) → its.number ≡ n
  number_is n said =
      let p = there_is (λ (p : MutexPlace). p.number ≡ n) ps i said in
      sym (its.numbers i p.0 p.1) ∙ said_there (λ (p : MutexPlace). p.number ≡ n) ps i p.0 p.1 said

  pub stranger_is : IsSomeAnd (slice_get ps i) (λ p. p.depth ≡ 0) → owns (mutex_of i its.thread).held.role ≡ false
  stranger_is said =
      let p = there_is (λ (p : MutexPlace). p.depth ≡ 0) ps i said in
      its.owners i p.0 p.1 ∙ ap (nat_lt 0) (said_there (λ (p : MutexPlace). p.depth ≡ 0) ps i p.0 p.1 said)

  pub owner_is : (pass : MutexPass) → IsSomeAnd (slice_get ps i) (λ p. IsOfPlace pass p × (p.depth ≡ 1)) → (mutex_of i its.thread).held.role ≡ Owner
  owner_is pass said =
      let p = there_is (λ (p : MutexPlace). IsOfPlace pass p × (p.depth ≡ 1)) ps i said in
      let one = (said_there (λ (p : MutexPlace). IsOfPlace pass p × (p.depth ≡ 1)) ps i p.0 p.1 said).1 in
      owner_at (mutex_of i its.thread).held.role p.0.depth (its.owners i p.0 p.1) (omega (arith, one))

  pub part_is : part_of hand i ≡ mutex_of i its.thread
  part_is = ap (λ (h : CoreHand C). part_of h i) its.one

  -- what the seat at the mutex has seen, the token has
  pub offer_is : (table : TableId) → SeesOffered (seats_at table hand ps) i → EndsOffered its.number (mutex_of i its.thread).seen
  offer_is table said =
      let s = there_is (λ (s : MutexSeatState). EndsOffered s.number s.view.seen) (seats_at table hand ps) i said in
      let p = some_place ps i (offered_within table hand ps i said) in
      let at : slice_get (seats_at table hand ps) i ≡ Some (seat_at table hand p.0) = slice_get-map (seat_at table hand) ps i ∙ ap (option_map (seat_at table hand)) p.1 in
      let seen : EndsOffered p.0.number (part_of hand p.0.mutex.0).seen = said_there (λ (s : MutexSeatState). EndsOffered s.number s.view.seen) (seats_at table hand ps) i (seat_at table hand p.0) at said in
      subst (λ (z : ℕ × MutexView). EndsOffered z.0 z.1.seen) (λ j. (its.numbers i p.0 p.1 j, (ap (part_of hand) (its.placed i p.0 p.1) ∙ part_is) j)) seen

  -- a pass of the place there is of this mutex
  pub pass_is : (pass : MutexPass) → HoldsBy pass i ps → pass.mutex.0 ≡ i
  pass_is pass said =
      let p = there_is (λ (p : MutexPlace). IsOfPlace pass p) ps i said in
      ap (λ m. m.0) (said_there (λ (p : MutexPlace). IsOfPlace pass p) ps i p.0 p.1 said).0 ∙ its.placed i p.0 p.1

module _ {C : Type 0} (table : TableId) (first : KernelView C) (id id' : TableId) (me me' : KernelMe C) (ps : List MutexPlace) (i : ℕ) where
  abbrev pub Made : List MutexPlace → (MutexSeatState → MutexSeatState → Type 0) → Type 0
  Made ps' step = DoesAtWord table first id me ps id' me' ps' i step

  module _ (t : IsAtTable table first id me.0 ps) (same : id' ≡ id) where
    made : (kind : MutexKind) (found : ℕ) (went : Moved i t.its.number t.its.thread kind found me me') (ps' : List MutexPlace) (f : ℕ → ℕ) (at : Deepens i f ps ps') → owns (mutex_of i went.now).held.role ≡ nat_lt 0 at.is.depth
        → (step : MutexSeatState → MutexSeatState → Type 0) → (Stepped kind found (seat_at id me.0 at.was) (seat_at id me'.0 at.is) (f at.was.depth) → step (seat_at id me.0 at.was) (seat_at id me'.0 at.is)) → Made ps' step
    made kind found went ps' f at owned step does =
        let k = t.its.number in
        let v = t.its.thread in
        let its = its_after i k v kind found me me' t.its.one went id ps ps' f t.its.placed at t.its.numbers t.its.owners owned in record {
          table = table_after i k v kind found me me' t.its.one went id ps ps' f t.its.placed at table id' first (same ∙ t.same) t.words t.all its;
          core = tells_same i k v kind found me me' t.its.one went;
          at = subst (λ x. AtSeat i (seats_at id me.0 ps) (seats_at x me'.0 ps') step) (sym same)
              (at_seat i k v kind found me me' t.its.one went id ps ps' f t.its.placed at step (does (stepped i k v kind found me me' t.its.one went id ps ps' f t.its.placed at t.its.numbers)));
          seats = subst (λ x. AreTheSame (seats_at id me.0 ps) (seats_at x me'.0 ps')) (sym same) (same_seats i k v kind found me me' t.its.one went id ps ps' f t.its.placed at);
        }

    module _ (slots w a b found : ℕ) (e : w ≡ i) where
      abbrev st : Step (Rattle.std.specs.Prelude.Option (KernelView C))
      st = step slots (1 + w) a b none

      at_word : (1 + w) ≡ 1 + i
      at_word = ap (λ n. 1 + n) e

      pub claim_made : (answer : Claim) → i < length ps → claimed_known st me found me' → reply_of answer ≡ claim_reply found → Made ps (Claims answer)
      claim_made answer within told replied =
          let k = t.its.number in
          let v = t.its.thread in
          let p = some_place ps i within in
          let went = moved_held i k v claims found me me' st at_word t.its.one claimed (λ st p q cs ds found x. x.0) (λ st n. Rattle.std.specs.Prelude.bit_or n st.first) told in
          made claims found went ps (λ d. d) (same_place i ps p.0 p.1) (claimed_owns k (mutex_of i v) (mutex_of i went.now) found went.does ∙ t.its.owners i p.0 p.1) (Claims answer)
          (λ s. claims_so (seat_at id me.0 p.0) (seat_at id me'.0 p.0) found answer s replied)

      pub settle_made : (pass : MutexPass) (ps' : List MutexPlace) → settled_known st me found me' → HoldsBy pass i ps → Deepens i (λ d. 1) ps ps' → Made ps' (Settles pass)
      settle_made pass ps' told mine at =
          let k = t.its.number in
          let v = t.its.thread in
          let went = moved_held i k v settles found me me' st at_word t.its.one (does settles) (λ st p q cs ds found x. x) (λ st n. st.first) told in
          made settles found went ps' (λ d. 1) at (owns_after k (mutex_of i v) (mutex_of i went.now) settles found Owner went.does refl ∙ sym (ap (λ (p : MutexPlace). nat_lt 0 p.depth) at.does)) (Settles pass)
          (λ s. settles_so (seat_at id me.0 at.was) (seat_at id me'.0 at.is) found pass (said_there (λ p. IsOfPlace pass p) ps i at.was at.there mine) s)

      -- an owner at depth 1 holds the mutex no more
      abbrev IsOnce : MutexPass → Type 0
      IsOnce pass = IsSomeAnd (slice_get ps i) (λ p. IsOfPlace pass p × (p.depth ≡ 1))

      no_more : (pass : MutexPass) (ps' : List MutexPlace) → IsOnce pass → (at : Deepens i less ps ps') → (less at.was.depth ≡ 0) × (at.is.depth ≡ 0)
      no_more pass ps' once at =
          let one = (said_there (λ p. IsOfPlace pass p × (p.depth ≡ 1)) ps i at.was at.there once).1 in
          let none = ap less one in
          (none, ap (λ (p : MutexPlace). p.depth) at.does ∙ none)

      pub offer_made : (pass : MutexPass) (next : ℕ) (more : Bool) (ps' : List MutexPlace) → offered_known next more st me found me' → IsOnce pass → Deepens i less ps ps' → Made ps' (Offers next more)
      offer_made pass next more ps' told once at =
          let k = t.its.number in
          let v = t.its.thread in
          let zero' = no_more pass ps' once at in
          let went = moved_held i k v (offers next more) found me me' st at_word t.its.one (does (offers next more)) (λ st p q cs ds found x. x) (λ st n. st.first) told in
          made (offers next more) found went ps' less at (owns_after k (mutex_of i v) (mutex_of i went.now) (offers next more) found Bystander went.does refl ∙ sym (ap (nat_lt 0) zero'.1)) (Offers next more)
          (λ s. offers_so (seat_at id me.0 at.was) (seat_at id me'.0 at.is) found next more (record { makes = s.makes; depth = zero'.1 }))

      pub free_made : (pass : MutexPass) (ps' : List MutexPlace) → freed_known st me found me' → IsOnce pass → Deepens i less ps ps' → Made ps' Frees
      free_made pass ps' told once at =
          let k = t.its.number in
          let v = t.its.thread in
          let zero' = no_more pass ps' once at in
          let went = moved_held i k v frees found me me' st at_word t.its.one (does frees) (λ st p q cs ds found x. x) (λ st n. st.first) told in
          made frees found went ps' less at (owns_after k (mutex_of i v) (mutex_of i went.now) frees found Bystander went.does refl ∙ sym (ap (nat_lt 0) zero'.1)) Frees
          (λ s. frees_so (seat_at id me.0 at.was) (seat_at id me'.0 at.is) found (record { makes = s.makes; depth = zero'.1 }))

      pub take_made : (pass : MutexPass) (ps' : List MutexPlace) → accepted_known st me found me' → HoldsBy pass i ps → Deepens i (λ d. 1) ps ps' → Made ps' (TakesOffer pass)
      take_made pass ps' told mine at =
          let k = t.its.number in
          let v = t.its.thread in
          let went = moved_held i k v accepts found me me' st at_word t.its.one (does accepts) (λ st p q cs ds found x. x) (λ st n. Rattle.std.specs.Prelude.bit_and n st.first) told in
          made accepts found went ps' (λ d. 1) at (owns_after k (mutex_of i v) (mutex_of i went.now) accepts found Owner went.does refl ∙ sym (ap (λ (p : MutexPlace). nat_lt 0 p.depth) at.does)) (TakesOffer pass)
          (λ s. takes_so (seat_at id me.0 at.was) (seat_at id me'.0 at.is) found pass (said_there (λ p. IsOfPlace pass p) ps i at.was at.there mine) s)

      -- a look, by what it found
      pub forget_made : (n : ℕ) (b : Bool) → IsSomeAnd (slice_get ps i) (λ p. p.number ≡ n) → b ≡ offers_to found n → forgot_known st me found me' → Made ps (ForgetsSo (if b then Err Busy else Ok tt))
      forget_made n b mine is told =
          let k = t.its.number in
          let v = t.its.thread in
          let p = there_is (λ (p : MutexPlace). p.number ≡ n) ps i mine in
          let number : p.0.number ≡ n = said_there (λ (p : MutexPlace). p.number ≡ n) ps i p.0 p.1 mine in
          let went = moved_held i k v forgets found me me' st at_word t.its.one forgot (λ st p q cs ds found x. x.0) (λ st n. n) told in
          made forgets found went ps (λ d. d) (same_place i ps p.0 p.1) (ap (λ (h : MutexHold). owns h.role) went.does.held ∙ forgotten_same (offers_to found k) (mutex_of i v).held.role ∙ t.its.owners i p.0 p.1) (ForgetsSo (if b then Err Busy else Ok tt))
          (λ s. forgets_so (seat_at id me.0 p.0) (seat_at id me'.0 p.0) found b (ap (offers_to found) number ∙ sym is) s)
        where
          forgotten_same : (b : Bool) (r : MutexRole) → owns (if b then r else forgotten r) ≡ owns r
          forgotten_same true r = refl
          forgotten_same false r = sym (owns-forgotten r)

      pub await_made : (n : ℕ) (b : Bool) → IsSomeAnd (slice_get ps i) (λ p. p.number ≡ n) → b ≡ offers_to found n → awaited_known st me found me' → Made ps (AwaitsSo (if b then Ok tt else Err Again))
      await_made n b mine is told =
          let k = t.its.number in
          let v = t.its.thread in
          let p = there_is (λ (p : MutexPlace). p.number ≡ n) ps i mine in
          let number : p.0.number ≡ n = said_there (λ (p : MutexPlace). p.number ≡ n) ps i p.0 p.1 mine in
          let went = moved_held i k v awaits found me me' st at_word t.its.one awaited (λ st p q cs ds found x. x.0) (λ st n. n) told in
          made awaits found went ps (λ d. d) (same_place i ps p.0 p.1) (ap (λ (h : MutexHold). owns h.role) went.does.held ∙ t.its.owners i p.0 p.1) (AwaitsSo (if b then Ok tt else Err Again))
          (λ s. awaits_so (seat_at id me.0 p.0) (seat_at id me'.0 p.0) found b (ap (offers_to found) number ∙ sym is) s)

      abbrev IsFreeAt : Type 0
      IsFreeAt = IsSomeAnd (slice_get ps i) (λ p. p.depth ≡ 0)

      wins : (pass : MutexPass) (ps' : List MutexPlace) → Moved i t.its.number t.its.thread tries found me me' → found ≡ 0 → IsFreeAt → HoldsBy pass i ps → Deepens i (λ d. 1) ps ps' → Made ps' (Tries (Ok pass))
      wins pass ps' went zero' free mine at =
          let k = t.its.number in
          let v = t.its.thread in
          let none : at.was.depth ≡ 0 = said_there (λ (p : MutexPlace). p.depth ≡ 0) ps i at.was at.there free in
          made tries found went ps' (λ d. 1) at (owns_after k (mutex_of i v) (mutex_of i went.now) tries found Owner went.does (ap (λ b. if b then Owner else (mutex_of i v).held.role) (Rattle.std.proofs.Common.eq-eqb found 0 zero')) ∙ sym (ap (λ (p : MutexPlace). nat_lt 0 p.depth) at.does)) (Tries (Ok pass))
          (λ s. wins_so (seat_at id me.0 at.was) (seat_at id me'.0 at.is) found pass (said_there (λ p. IsOfPlace pass p) ps i at.was at.there mine) none zero' s)

      loses : Moved i t.its.number t.its.thread tries found me me' → found ≢ 0 → IsFreeAt → Made ps (Tries (Err Busy))
      loses went other free =
          let k = t.its.number in
          let v = t.its.thread in
          let p = there_is (λ (p : MutexPlace). p.depth ≡ 0) ps i free in
          let none : p.0.depth ≡ 0 = said_there (λ (p : MutexPlace). p.depth ≡ 0) ps i p.0 p.1 free in
          made tries found went ps (λ d. d) (same_place i ps p.0 p.1) (owns_after k (mutex_of i v) (mutex_of i went.now) tries found (mutex_of i v).held.role went.does (ap (λ b. if b then Owner else (mutex_of i v).held.role) (Rattle.std.proofs.Common.ne_eqb found 0 other)) ∙ t.its.owners i p.0 p.1) (Tries (Err Busy))
          (λ s. loses_so (seat_at id me.0 p.0) (seat_at id me'.0 p.0) found none other s)

      -- a try that won, and one that didn't, by anybody
      pub win_made : (pass : MutexPass) (ps' : List MutexPlace) → tried_known st me found me' → found ≡ 0 → IsFreeAt → HoldsBy pass i ps → Deepens i (λ d. 1) ps ps' → Made ps' (Tries (Ok pass))
      win_made pass ps' told zero' free mine at =
          wins pass ps' (moved i t.its.number t.its.thread tries found me me' st at_word t.its.one tried (λ st p q cs ds found x. x.0) told) zero' free mine at

      pub win_held_made : (pass : MutexPass) (ps' : List MutexPlace) → tried_held_known st me found me' → found ≡ 0 → IsFreeAt → HoldsBy pass i ps → Deepens i (λ d. 1) ps ps' → Made ps' (Tries (Ok pass))
      win_held_made pass ps' told zero' free mine at =
          wins pass ps' (moved_held i t.its.number t.its.thread tries found me me' st at_word t.its.one tried (λ st p q cs ds found x. x.0) (λ st n. prog.Atomic.either (n == 0) st.second n) told) zero' free mine at

      pub lose_made : tried_known st me found me' → found ≢ 0 → IsFreeAt → Made ps (Tries (Err Busy))
      lose_made told other free = loses (moved i t.its.number t.its.thread tries found me me' st at_word t.its.one tried (λ st p q cs ds found x. x.0) told) other free

      pub lose_held_made : tried_held_known st me found me' → found ≢ 0 → IsFreeAt → Made ps (Tries (Err Busy))
      lose_held_made told other free = loses (moved_held i t.its.number t.its.thread tries found me me' st at_word t.its.one tried (λ st p q cs ds found x. x.0) (λ st n. prog.Atomic.either (n == 0) st.second n) told) other free

      pub unlock_made : (pass : MutexPass) (n : ℕ) (ps' : List MutexPlace) → unlocked_known st me found me' → IsSomeAnd (slice_get ps i) (λ p. p.number ≡ n) → found ≡ n + 1 → IsOnce pass → Deepens i less ps ps' → Made ps' (UnlocksSo pass (Ok IsDone))
      unlock_made pass n ps' told mine is once at =
          let k = t.its.number in
          let v = t.its.thread in
          let number : at.was.number ≡ n = said_there (λ (p : MutexPlace). p.number ≡ n) ps i at.was at.there mine in
          let its : k ≡ n = sym (t.its.numbers i at.was at.there) ∙ number in
          let one = (said_there (λ p. IsOfPlace pass p × (p.depth ≡ 1)) ps i at.was at.there once).1 in
          let zero' = no_more pass ps' once at in
          let went = moved i k v unlocks found me me' st at_word t.its.one unlocked (λ st p q cs ds found x. x.0) told in
          made unlocks found went ps' less at (owns_after k (mutex_of i v) (mutex_of i went.now) unlocks found Bystander went.does (ap (λ b. if b then Bystander else (mutex_of i v).held.role) (Rattle.std.proofs.Common.eq-eqb found (k + 1) (is ∙ ap (λ x. x + 1) (sym its)))) ∙ sym (ap (nat_lt 0) zero'.1)) (UnlocksSo pass (Ok IsDone))
          (λ s. unlocks_so (seat_at id me.0 at.was) (seat_at id me'.0 at.is) found pass one (is ∙ ap (λ x. x + 1) (sym number)) (record { makes = s.makes; depth = zero'.1 }))

      pub back_made : (pass : MutexPass) (n : ℕ) → unlocked_known st me found me' → IsSomeAnd (slice_get ps i) (λ p. p.number ≡ n) → found ≢ n + 1 → IsOnce pass → Made ps (UnlocksSo pass (Ok (ComesBack pass)))
      back_made pass n told mine other once =
          let k = t.its.number in
          let v = t.its.thread in
          let p = there_is (λ (p : MutexPlace). p.number ≡ n) ps i mine in
          let number : p.0.number ≡ n = said_there (λ (p : MutexPlace). p.number ≡ n) ps i p.0 p.1 mine in
          let its : k ≡ n = sym (t.its.numbers i p.0 p.1) ∙ number in
          let one : p.0.depth ≡ 1 = (said_there (λ p. IsOfPlace pass p × (p.depth ≡ 1)) ps i p.0 p.1 once).1 in
          let owner : (mutex_of i v).held.role ≡ Owner = owner_at (mutex_of i v).held.role p.0.depth (t.its.owners i p.0 p.1) (omega (arith, one)) in
          let view : (seat_at id me.0 p.0).view ≡ mutex_of i v = ap (λ (h : CoreHand C). part_of h p.0.mutex.0) t.its.one ∙ ap (λ j. mutex_of j v) (t.its.placed i p.0 p.1) in
          let went = moved i k v unlocks found me me' st at_word t.its.one unlocked (λ st p q cs ds found x. x.0) told in
          made unlocks found went ps (λ d. d) (same_place i ps p.0 p.1) (owns_after k (mutex_of i v) (mutex_of i went.now) unlocks found (mutex_of i v).held.role went.does (ap (λ b. if b then Bystander else (mutex_of i v).held.role) (Rattle.std.proofs.Common.ne_eqb found (k + 1) (λ e. other (e ∙ ap (λ x. x + 1) its)))) ∙ t.its.owners i p.0 p.1) (UnlocksSo pass (Ok (ComesBack pass)))
          (λ s. comes_back_so (seat_at id me.0 p.0) (seat_at id me'.0 p.0) found pass one (ap (λ (x : MutexView). x.held.role) view ∙ owner) (λ e. other (e ∙ ap (λ x. x + 1) number)) s)
