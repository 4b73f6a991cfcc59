-- All that a thread's token and its places say of its seats at the mutexes.
use Rattle.std.proofs.Common.{◌≡◌, ◌<◌, ℕ, ◌+◌, ◌||◌, nat_lt, List, [], ◌∷◌, length, map, Option, Some, None, IsSomeAnd, slice_get, refl, sym, ap, ◌∙◌, subst}
use Rattle.std.specs.Option.{option_map, option_map_or}
use Rattle.std.proofs.lemmas.List.{length-map}
use Rattle.std.proofs.lemmas.Option.{slice_get-map}
use Rattle.atomic_table.specs.Seated.{TableId}
use Rattle.evl_base.specs.declared.refusal.Refusal.TheVariants.{NotOwner}
use Rattle.evl_kernel.specs.state.KernelViews.{KernelView}
use Rattle.evl_words.specs.declared.mutex.MutexPass.{MutexPass}
use Rattle.evl_words.specs.declared.mutex.MutexRole.TheVariants.{Winner}
use Rattle.evl_words.specs.declared.mutex.place.MutexPlace.{MutexPlace}
use Rattle.evl_words.specs.MutexCalls.{IsPassOf, MutexSeatState}
use Rattle.evl_words.specs.MutexPlaces.{IsOfPlace}
use Rattle.evl_machine.specs.callers.Actors.{IsActor, SeatedActor, acting}
use Rattle.evl_core.specs.rule.Known.{CoreHand, KernelMe, first_of}
use Rattle.evl_core.specs.words.MutexPlaces.{depth_in, holds_place, place_passes, spend_refusal_in}
use Rattle.evl_core.specs.words.MutexSeats.{HasOnce, HasSeat, HasWon, depth_at, holds_mutex, mutex_passes, pass_refusal, unlock_refusal}
use Rattle.evl_core.specs.words.MutexTokens.{HasKernel, HasKernelFor, IsAtTable, KeepsPlaces, TellsTheSame, part_of, seat_at, seats_at}

-- what is said of what a map gives at a place
some_of_map : {S B : Type 0} (f : S → B) (P : B → Type 0) (xs : List S) (i : ℕ) → IsSomeAnd (slice_get (map f xs) i) P → IsSomeAnd (slice_get xs i) (λ x. P (f x))
some_of_map f P xs i said = by (slice_get xs i) (subst (λ o. IsSomeAnd o P) (slice_get-map f xs i) said)
  where
    by : (o : Option _) → IsSomeAnd (option_map f o) P → IsSomeAnd o (λ x. P (f x))
    by None said = said
    by (Some x) said = said

pub some_also : {S : Type 0} (P Q : S → Type 0) (xs : List S) (i : ℕ) → ((s : S) → slice_get xs i ≡ Some s → P s → Q s) → IsSomeAnd (slice_get xs i) P → IsSomeAnd (slice_get xs i) Q
some_also P Q xs i also said = by (slice_get xs i) refl said
  where
    by : (o : Option _) → slice_get xs i ≡ o → IsSomeAnd o P → IsSomeAnd o Q
    by None is said = said
    by (Some s) is said = also s is said

module _ {C : Type 0} (table : TableId) (hand : CoreHand C) where
  pub holds_at : (ps : List MutexPlace) → holds_mutex (seats_at table hand ps) ≡ holds_place ps
  holds_at [] = refl
  holds_at (p ∷ ps) = ap (λ b. nat_lt 0 p.depth || b) (holds_at ps)

  pub depth_there : (ps : List MutexPlace) (i : ℕ) → depth_at (seats_at table hand ps) i ≡ depth_in ps i
  depth_there ps i = ap (λ (o : Option MutexSeatState). option_map_or mutex_passes o 0) (slice_get-map (seat_at table hand) ps i) ∙ by (slice_get ps i)
    where
      by : (o : Option MutexPlace) → option_map_or mutex_passes (option_map (seat_at table hand) o) 0 ≡ option_map_or place_passes o 0
      by None = refl
      by (Some p) = refl

  pub refusal_there : (ps : List MutexPlace) (pass : MutexPass) → unlock_refusal (seats_at table hand ps) pass ≡ spend_refusal_in ps pass
  refusal_there ps pass = ap (λ (o : Option MutexSeatState). option_map_or (pass_refusal pass) o (Some NotOwner)) (slice_get-map (seat_at table hand) ps pass.mutex.0) ∙ by (slice_get ps pass.mutex.0)
    where
      by : (o : Option MutexPlace) → option_map_or (pass_refusal pass) (option_map (seat_at table hand) o) (Some NotOwner) ≡ option_map_or (λ p. Rattle.std.specs.Prelude.if◌then◌else◌ (Rattle.evl_words.specs.MutexPlaces.is_pass_of pass p) None (Some NotOwner)) o (Some NotOwner)
      by None = refl
      by (Some p) = refl

  pub long_as : (ps : List MutexPlace) → length (seats_at table hand ps) ≡ length ps
  long_as ps = length-map ps (seat_at table hand)

  pub once_at : (ps : List MutexPlace) (pass : MutexPass) → HasOnce (seats_at table hand ps) pass → IsSomeAnd (slice_get ps pass.mutex.0) (λ p. IsOfPlace pass p × (p.depth ≡ 1))
  once_at ps pass once = some_of_map (seat_at table hand) (λ (s : MutexSeatState). IsPassOf pass s × (s.depth ≡ 1)) ps pass.mutex.0 once

  pub won_at : (ps : List MutexPlace) (i : ℕ) → ((j : ℕ) (p : MutexPlace) → slice_get ps j ≡ Some p → p.mutex.0 ≡ j) → HasWon (seats_at table hand ps) i → (part_of hand i).held.role ≡ Winner
  won_at ps i placed won = by (slice_get ps i) refl (some_of_map (seat_at table hand) (λ (s : MutexSeatState). s.view.held.role ≡ Winner) ps i won)
    where
      by : (o : Option MutexPlace) → slice_get ps i ≡ o → IsSomeAnd o (λ p. (part_of hand p.mutex.0).held.role ≡ Winner) → (part_of hand i).held.role ≡ Winner
      by None is said = absurd said
      by (Some p) is said = subst (λ j. (part_of hand j).held.role ≡ Winner) (placed i p is) said

  pub seat_there : (ps : List MutexPlace) (i n : ℕ) → ((j : ℕ) (p : MutexPlace) → slice_get ps j ≡ Some p → p.mutex.0 ≡ j) → HasSeat (seats_at table hand ps) i n → n < (part_of hand i).held.seats
  seat_there ps i n placed has = by (slice_get ps i) refl (some_of_map (seat_at table hand) (λ (s : MutexSeatState). n < s.view.held.seats) ps i has)
    where
      by : (o : Option MutexPlace) → slice_get ps i ≡ o → IsSomeAnd o (λ p. n < (part_of hand p.mutex.0).held.seats) → n < (part_of hand i).held.seats
      by None is said = absurd said
      by (Some p) is said = subst (λ j. n < (part_of hand j).held.seats) (placed i p is) said

  -- a token that keeps what it knows of each mutex has the same seats
  pub seats_kept : (new : CoreHand C) (ps : List MutexPlace) → KeepsPlaces hand new → seats_at table new ps ≡ seats_at table hand ps
  seats_kept new [] kept = refl
  seats_kept new (p ∷ ps) kept = λ j. record { table = table; mutex = p.mutex; number = p.number; depth = p.depth; view = kept.parts p.mutex.0 j } ∷ seats_kept new ps kept j

module _ {C : Type 0} where
  -- an actor's places are of the table that its token is of
  pub at_table : (a : SeatedActor C) (id : TableId) (first : KernelView C) → a.table ≡ id → first_of a.me.0 ≡ first → IsAtTable a.table (first_of a.me.0) a.table a.me.0 a.places → IsAtTable id first a.table a.me.0 a.places
  at_table a id first same from is = record {
    same = same;
    words = subst (λ (t : TableId). t.words ≡ 1 + length a.places) same is.words;
    all = is.all ∙ ap Rattle.evl_core.specs.rule.Known.mutex_count from;
    its = is.its;
  }

  -- and after a step of the token there too
  pub at_own_table : (a : SeatedActor C) (id : TableId) (first : KernelView C) (at : TableId) (me : KernelMe C) (ps : List MutexPlace) → a.table ≡ id → first_of me.0 ≡ first → IsAtTable id first at me.0 ps → IsAtTable at (first_of me.0) at me.0 ps
  at_own_table a id first at me ps same from is = record {
    same = refl;
    words = subst (λ (t : TableId). t.words ≡ 1 + length ps) (sym is.same) is.words;
    all = is.all ∙ ap Rattle.evl_core.specs.rule.Known.mutex_count (sym from);
    its = is.its;
  }

  -- a token that keeps its places, after a step on the lock
  pub still_at_table : (table : TableId) (first first' : KernelView C) (at : TableId) (hand hand' : CoreHand C) (ps : List MutexPlace) → at ≡ table → first' ≡ first → KeepsPlaces hand hand' → IsAtTable table first table hand ps → IsAtTable at first' at hand' ps
  still_at_table table first first' at hand hand' ps same from kept is = record {
    same = refl;
    words = subst (λ (t : TableId). t.words ≡ 1 + length ps) (sym same) is.words;
    all = is.all ∙ ap Rattle.evl_core.specs.rule.Known.mutex_count (sym from);
    its = kept.its ps is.its;
  }

  -- what an actor reads as, where its token keeps its places
  pub acting_kept : (a : SeatedActor C) (table : TableId) (me : KernelMe C) → table ≡ a.table → KeepsPlaces a.me.0 me.0 → acting (record a { table = table; me = me }) ≡ acting a
  acting_kept a table me same kept = λ j. record { thread = a.thread; stage = a.stage; wait = a.wait; staxes = a.staxes; mutexes = (ap (λ (t : TableId). seats_at t me.0 a.places) same ∙ seats_kept a.table a.me.0 me.0 a.places kept) j }

module _ {C : Type 0} (x a : SeatedActor C) (is : x ≡ a) (id : TableId) (first : KernelView C) where
  -- an actor that a function was lent is at its table
  pub at_table_of : IsActor x → (a.table ≡ id) × (first_of a.me.0 ≡ first) → IsAtTable id first x.table x.me.0 x.places
  at_table_of own at = at_table x id first (ap (λ (z : SeatedActor C). z.table) is ∙ at.0) (ap (λ (z : SeatedActor C). first_of z.me.0) is ∙ at.1) own.places

  -- a step on the mutex i asks for the kernel
  pub holds_for : HasKernel a.me.0 → (i : ℕ) → HasKernelFor i x.me.0
  holds_for holds i = subst (λ (z : SeatedActor C). HasKernelFor i z.me.0) (sym is) (holds i)

  -- what a step, or two, show of the core
  pub core_of_step : (table : TableId) (me : KernelMe C) (ps : List MutexPlace) → (a.table ≡ id) × (first_of a.me.0 ≡ first) → TellsTheSame x.me me → IsAtTable id first table me.0 ps → TellsTheSame a.me me × (table ≡ a.table)
  core_of_step table me ps at core is_at = (subst (λ (z : SeatedActor C). TellsTheSame z.me me) is core, is_at.same ∙ sym at.0)
