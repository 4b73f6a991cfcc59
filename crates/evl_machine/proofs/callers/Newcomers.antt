-- Callers that have made no call: their seats, their stage, and how they are dealt out.
use Rattle.std.proofs.Common.{◌≡◌, ℕ, ◌+◌, ◌-◌, ◌<◌, ◌≤◌, nat_lt, zero, suc, Bool, true, false, true≢false, List, [], ◌∷◌, ◌++◌, length, map, Option, None, Some, slice_get, slice_index_or, refl, sym, ap, ◌∙◌, subst, arith, zero-add}
use Rattle.std.specs.Option.{option_map, option_map_or}
use Rattle.std.proofs.lemmas.Option.{none-some, same_Some, slice_get-map}
use Rattle.std.specs.Prelude.{All, is_err, replicate, Result, Ok, Err, if◌then◌else◌}
use Rattle.evl_base.specs.declared.refusal.Refusal.{Refusal}
use Rattle.evl_base.specs.declared.refusal.Refusal.TheVariants.{Range}
use Rattle.std.specs.List.{range_with_len}
use Rattle.std.proofs.lemmas.List.{length-map, map-id}
use Rattle.std.proofs.lemmas.List.FromFn.{length-range_with_len, map-range_with_len_more}
use Rattle.atomic_table.specs.Seated.{TableId}
use Rattle.evl_base.specs.declared.board.Board.{Board}
use Rattle.evl_base.specs.declared.entry.Entry.{Entry}
use Rattle.evl_base.specs.declared.stage.Stage.TheVariants.{Inband}
use Rattle.evl_sched.specs.declared.seat.Seat.{Seat}
use Rattle.evl_sched.specs.Threads as threads
use Rattle.evl_sched.specs.Threads.{stage_of}
use Rattle.evl_kernel.specs.histories.Histories.{History, IsLegal, Run, opened_kernel}
use Rattle.evl_kernel.specs.state.KernelViews.{KernelView}
use Rattle.evl_kernel.specs.state.Openings.{opening}
use Rattle.evl_kernel.specs.state.States.{State, Handler}
use Rattle.evl_words.specs.GateCalls.{GateState, SeatState, new_seat}
use Rattle.evl_words.specs.declared.mutex.MutexRole.TheVariants.{Bystander}
use Rattle.evl_words.specs.declared.mutex.place.MutexPlace.{MutexPlace}
use Rattle.evl_words.specs.Hands.{place}
use Rattle.evl_words.specs.MutexWorld.{MutexView, owns}
use Rattle.evl_words.specs.MutexWorld.{newcomer as at_mutex}
use Rattle.evl_words.specs.Parts.{part_in}
use Rattle.evl_core.specs.accounts.Accounts.{calls_by, newcomer, threads_of}
use Rattle.evl_base.specs.declared.mutex_kind.MutexKind.{MutexKind}
use Rattle.evl_machine.specs.callers.Callers.{caller_by}
use Rattle.evl_core.specs.rule.Known.{CoreHand, first_of, mutex_count, seen, lock_in}
use Rattle.evl_core.specs.words.MutexPlaces.{new_place, new_places}
use Rattle.evl_core.specs.words.MutexTokens.{AreItsPlaces, IsAtTable, seat_at, seats_at}
use Rattle.evl_core.specs.rule.ThreadRule.{newcomer_view}
use Rattle.evl_core.specs.declared.views.ThreadView.{ThreadView}
use Rattle.evl_core.specs.words.Homes.{AreHomes, Home, gate_home, mutex_home, stax_home, word_home, word_homes}
use Rattle.evl_machine.specs.stax_locks.StaxSeats.{AreGatesOf, holds_stax}
use Rattle.evl_machine.specs.callers.Actors.{ActorState, SeatedActor, Suits, acting}
use Rattle.evl_machine.specs.callers.Unfinished.{unfinished_wait}
use Rattle.evl_machine.specs.callers.Handles.{CallerState, MachineState, caller_of, new_mutex, new_stax, newcomer_of, newcomers_of}
use Rattle.evl_core.specs.accounts.Seats.{account_of}

-- the seats of the thread k at these gates
abbrev pub staxes_of : List GateState → ℕ → List SeatState
staxes_of gates k = map (λ g. new_seat g k) gates

stax_homes : (gs : List GateState) (k : ℕ) → map stax_home (staxes_of gs k) ≡ map gate_home gs
stax_homes [] k = refl
stax_homes (g ∷ gs) k = ap (λ (hs : List Home). gate_home g ∷ hs) (stax_homes gs k)

new_staxes : (gs : List GateState) (k : ℕ) → staxes_of gs k ≡ map (new_stax k) (map gate_home gs)
new_staxes [] k = refl
new_staxes (g ∷ gs) k = ap (λ (ss : List SeatState). new_seat g k ∷ ss) (new_staxes gs k)

pub free_staxes : (gs : List GateState) (k : ℕ) → holds_stax (staxes_of gs k) ≡ false
free_staxes [] k = refl
free_staxes (g ∷ gs) k = free_staxes gs k

pub stax_numbers : (gs : List GateState) (k : ℕ) → All (λ n. n ≡ k) (map (λ (s : SeatState). s.number) (staxes_of gs k))
stax_numbers [] k j d less = absurd (omega (arith, less))
stax_numbers (g ∷ gs) k zero d less = refl
stax_numbers (g ∷ gs) k (suc j) d less = stax_numbers gs k j d (omega (arith, less))

-- the first of the things that are left
pub left_first : {S : Type 0} (f : ℕ → S) (i n : ℕ) → i < n → map f (range_with_len i (n - i)) ≡ f i ∷ map f (range_with_len (i + 1) (n - (i + 1)))
left_first f i n less = ap (λ k. map f (range_with_len i k)) (by-one)
  where
    by-one : n - i ≡ suc (n - (i + 1))
    by-one = omega (arith, less)

pub some_left : {S : Type 0} (f : ℕ → S) (i n : ℕ) (things : List S) → i < n → things ≡ map f (range_with_len i (n - i)) → 0 < length things
some_left f i n things less is = let len = ap length (is ∙ left_first f i n less) in omega (arith, len)

pub first_is : {S : Type 0} (f : ℕ → S) (i n : ℕ) (things others : List S) (first : S) → i < n → things ≡ map f (range_with_len i (n - i)) → things ≡ first ∷ others → (first ≡ f i) × (others ≡ map f (range_with_len (i + 1) (n - (i + 1))))
first_is f i n things others first less is was = let e : first ∷ others ≡ f i ∷ map f (range_with_len (i + 1) (n - (i + 1))) = sym was ∙ (is ∙ left_first f i n less) in (cc, cc)

abbrev no_seat : Option Seat
no_seat = None

nobody : (n t : ℕ) → slice_index_or (replicate n no_seat) t no_seat ≡ no_seat
nobody zero t = refl
nobody (suc n) zero = refl
nobody (suc n) (suc t) = nobody n t

opening_inband : (board : Board) (bank : List Handler) (t : ℕ) → stage_of (opening board bank).sched t ≡ Inband
unfolding threads.opening
opening_inband board bank t = ap (λ (o : Option Seat). option_map_or (λ (seat : Seat). seat.stage) o Inband) (nobody board.threads t)

-- a thread that has made no call knows its stage and wait
pub new_suits : (h : History) (a : ActorState) → IsLegal h → h.entries ≡ [] → a.stage ≡ Inband → a.wait ≡ None → Suits a h
new_suits h a legal none_yet stage wait =
    let run = subst (λ (es : List Entry). Run (opened_kernel h) es h.plays h.state) none_yet legal in record {
      stage = stage ∙ sym (ap (λ (s : State). stage_of s.sched a.thread.0) run.1 ∙ opening_inband h.board h.bank a.thread.0);
      wait = wait ∙ sym (ap (λ es. unfinished_wait (calls_by a.thread.0 es)) none_yet);
    }

map_twice : {A B C : Type 0} (f : B → C) (g : A → B) (xs : List A) → map f (map g xs) ≡ map (λ x. f (g x)) xs
map_twice f g [] = refl
map_twice f g (x ∷ xs) = ap (λ ys. f (g x) ∷ ys) (map_twice f g xs)

pub gate_homes : (limits : List ℕ) (n : ℕ) (gs : List GateState) → AreGatesOf limits n gs → AreHomes limits (map gate_home gs)
gate_homes limits n gs are = record { numbers = map_twice (λ (h : Home). h.number) gate_home gs ∙ are.numbers; bounded = map_twice (λ (h : Home). h.bound) gate_home gs ∙ are.bounds }

-- the numbers in order
in_order : (a m i x : ℕ) → slice_get (range_with_len a m) i ≡ Some x → (x ≡ a + i) × (i < m)
in_order a zero i x there = absurd (none-some x there)
in_order a (suc m) zero x there = (omega (arith, same_Some a x there), omega arith)
in_order a (suc m) (suc i) x there = let rest = in_order (a + 1) m i x there in (omega (arith, rest.0), omega (arith, rest.1))

-- what is made of the numbers in order
made_there : {S : Type 0} (f : ℕ → S) (m i : ℕ) (x : S) → slice_get (map f (range_with_len 0 m)) i ≡ Some x → (f i ≡ x) × (i < m)
made_there f m i x there = by (slice_get (range_with_len 0 m) i) refl (sym (slice_get-map f (range_with_len 0 m) i) ∙ there)
  where
    by : (o : Option ℕ) → slice_get (range_with_len 0 m) i ≡ o → option_map f o ≡ Some x → (f i ≡ x) × (i < m)
    by None is told = absurd (none-some x told)
    by (Some j) is told = let at = in_order 0 m i j is in let same : j ≡ i = omega (arith, at.0) in (ap f (sym same) ∙ same_Some (f j) x told, at.1)

blank_part : (m n i : ℕ) → (part_in (at_mutex 0) i (replicate m (at_mutex n))).held.role ≡ Bystander
blank_part zero n i = refl
blank_part (suc m) n zero = refl
blank_part (suc m) n (suc i) = blank_part m n i

new_part : (m n i : ℕ) → i < m → part_in (at_mutex 0) i (replicate m (at_mutex n)) ≡ at_mutex n
new_part zero n i less = absurd (omega (arith, less))
new_part (suc m) n zero less = refl
new_part (suc m) n (suc i) less = new_part m n i (omega (arith, less))

map_alike : {S : Type 0} (f g : ℕ → S) (a m : ℕ) → ((i : ℕ) → a ≤ i → i < a + m → f i ≡ g i) → map f (range_with_len a m) ≡ map g (range_with_len a m)
map_alike f g a zero same = refl
map_alike f g a (suc m) same = λ j. same a (omega arith) (omega arith) j ∷ map_alike f g (a + 1) m (λ i low high. same i (omega (arith, low)) (omega (arith, high))) j

pub word_bounds : (table : TableId) (n : ℕ) (kinds : List MutexKind) → AreHomes (map (λ (k : MutexKind). n) kinds) (word_homes table n (length kinds))
word_bounds table n kinds = record {
  numbers = map_twice (λ (h : Home). h.number) (word_home table n) (range_with_len 0 (length kinds)) ∙ map-id (range_with_len 0 (length kinds)) ∙ ap (range_with_len 0) (sym (length-map kinds (λ (k : MutexKind). n)));
  bounded = map_twice (λ (h : Home). h.bound) (word_home table n) (range_with_len 0 (length kinds)) ∙ same kinds 0;
}
  where
    same : (ks : List MutexKind) (a : ℕ) → map (λ (i : ℕ). n) (range_with_len a (length ks)) ≡ map (λ (k : MutexKind). n) ks
    same [] a = refl
    same (k ∷ ks) a = ap (λ ns. n ∷ ns) (same ks (a + 1))

pub made_bounds : (table : TableId) (n : ℕ) (kinds made : List MutexKind) (homes : List Home) → homes ≡ word_homes table n (length made) → made ≡ kinds → AreHomes (map (λ (k : MutexKind). n) kinds) homes
made_bounds table n kinds made homes is are = subst (AreHomes (map (λ (k : MutexKind). n) kinds)) (sym (is ∙ ap (λ (ks : List MutexKind). word_homes table n (length ks)) are)) (word_bounds table n kinds)

module _ {C : Type 0} (first : KernelView C) (t : ℕ) where
  abbrev m : ℕ
  m = mutex_count first

  abbrev n : ℕ
  n = threads_of first.history

  abbrev thread : ThreadView (KernelView C) MutexView
  thread = newcomer_view first.history first m n

  -- the token of the thread alone
  abbrev pub new_hand : CoreHand C
  new_hand = place t thread ∷ []

  pub new_its : AreItsPlaces new_hand (new_places m t)
  new_its = record {
    number = t;
    thread = thread;
    one = refl;
    placed = λ i p there. ap (λ (p : MutexPlace). p.mutex.0) (sym (made_there (new_place t) m i p there).0);
    numbers = λ i p there. ap (λ (p : MutexPlace). p.number) (sym (made_there (new_place t) m i p there).0);
    owners = λ i p there. ap owns (blank_part m n i) ∙ ap (λ (p : MutexPlace). nat_lt 0 p.depth) (made_there (new_place t) m i p there).0;
  }

  -- its places are of the table that its token is of
  pub new_table : (id at : TableId) (hand : CoreHand C) (ps : List MutexPlace) → at ≡ id → id.words ≡ 1 + m → hand ≡ new_hand → ps ≡ new_places m t → IsAtTable at (first_of hand) at hand ps
  new_table id at hand ps same words one are = subst (λ (z : CoreHand C × List MutexPlace). IsAtTable at (first_of z.0) at z.0 z.1) (λ i. (sym one i, sym are i)) (record {
    same = refl;
    words = ap (λ (z : TableId). z.words) same ∙ words ∙ ap (λ n. 1 + n) (sym long);
    all = long;
    its = new_its;
  })
    where
      long : length (new_places m t) ≡ m
      long = length-map (range_with_len 0 m) (new_place t) ∙ length-range_with_len 0 m

  pub new_mutexes : (id : TableId) → seats_at id new_hand (new_places m t) ≡ map (new_mutex t) (word_homes id n m)
  new_mutexes id =
      map_twice (seat_at id new_hand) (new_place t) (range_with_len 0 m)
      ∙ map_alike (λ i. seat_at id new_hand (new_place t i)) (λ i. new_mutex t (word_home id n i)) 0 m (λ i low high j. record { table = id; mutex = record { 0 = i }; number = t; depth = 0; view = new_part m n i (omega (arith, high)) j })
      ∙ sym (map_twice (new_mutex t) (word_home id n) (range_with_len 0 m))

  pub new_homes : (id : TableId) → map mutex_home (seats_at id new_hand (new_places m t)) ≡ word_homes id n m
  new_homes id = ap (map mutex_home) (new_mutexes id) ∙ map_twice mutex_home (new_mutex t) (word_homes id n m) ∙ map_twice (λ h. mutex_home (new_mutex t h)) (word_home id n) (range_with_len 0 m)

module _ {C : Type 0} where
  -- one caller more
  pub one_more : (gs : List GateState) (m : MachineState C) (i : ℕ) (items : List (CallerState C)) (a : SeatedActor C) → m.staxes ≡ map gate_home gs → m.mutexes ≡ word_homes m.id (threads_of m.first.history) (mutex_count m.first) → items ≡ newcomers_of m i
      → a.table ≡ m.id → a.me.0 ≡ new_hand m.first i → first_of a.me.0 ≡ m.first → account_of (seen a.me) ≡ newcomer m.first.history i → a.staxes ≡ staxes_of gs i → a.places ≡ new_places (mutex_count m.first) i
      → items ++ caller_by a ∷ [] ≡ newcomers_of m (i + 1)
  one_more gs m i items a gates words was same hand from at on by =
      let homes : map stax_home a.staxes ≡ m.staxes = ap (map stax_home) on ∙ (stax_homes gs i ∙ sym gates) in
      let seats : a.staxes ≡ map (new_stax i) m.staxes = on ∙ (new_staxes gs i ∙ ap (map (new_stax i)) (sym gates)) in
      let are : (acting a).mutexes ≡ seats_at m.id (new_hand m.first i) (new_places (mutex_count m.first) i) = λ j. seats_at (same j) (hand j) (by j) in
      let places : map mutex_home (acting a).mutexes ≡ m.mutexes = ap (map mutex_home) are ∙ new_homes m.first i m.id ∙ sym words in
      let holds : (acting a).mutexes ≡ map (new_mutex i) m.mutexes = are ∙ new_mutexes m.first i m.id ∙ ap (map (new_mutex i)) (sym words) in
      (λ j. was j ++ caller_of (record { id = same j; first = from j; staxes = homes j; mutexes = places j }) (at j) (lock_in (hand j)) (seats j) (holds j) ∷ []) ∙ sym (map-range_with_len_more (newcomer_of m) 0 i i (zero-add i))

-- a board that is checked is within its limits
pub fits_checked : (b : Bool) (r : Result (Unit {0}) Refusal) → r ≡ (if b then Ok tt else Err Range) → is_err r ≡ false → b ≡ true
fits_checked true r is passes = refl
fits_checked false r is passes = absurd (true≢false (sym (ap is_err is) ∙ passes))
