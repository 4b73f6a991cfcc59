-- The deeds of one seat at a stax, by the list that the seat is in.
use Rattle.std.proofs.Common.{◌≡◌, ◌≢◌, ℕ, ◌+◌, ◌≤◌, ◌<◌, ◌==◌, ◌&&◌, nat_lt, cond, Bool, true, false, if◌then◌else◌, List, [], ◌∷◌, ◌++◌, length, length-append, get_or, take, map, Option, Some, None, is_some, Result, Ok, Err, is_ok, IfOk, IfErr, MatchOption, slice_get, slice_set, refl, sym, ap, ◌∙◌, subst, arith}
use Rattle.std.specs.List.{range_with_len}
use Rattle.std.proofs.lemmas.List.{length-map, map-append, take_more}
use Rattle.std.proofs.lemmas.List.FromFn.{length-range_with_len}
use mathlib.Core.Logic.{dite}
use native.Mathlib.Decide.{ℕ_discrete}
use mir.Val.{bool_byte}
use Rattle.evl_base.specs.declared.stage.Stage.{Stage}
use Rattle.evl_base.specs.declared.refusal.Refusal.{Refusal}
use Rattle.evl_base.specs.declared.refusal.Refusal.TheVariants.{Again, Busy, Limit, NotOwner, Raced}
use Rattle.evl_words.specs.declared.gate.StaxPass.{StaxPass}
use Rattle.evl_words.specs.declared.gate.GateCall.TheVariants.{Enter}
use Rattle.evl_words.specs.declared.gate.GateReply.TheVariants.{Entered}
use Rattle.evl_words.specs.GateCalls.{AgreeAtGate, GateState, SeatState, new_seat, IsSeatOf, IsSameSeat, IsPassOf, Tries, Calls, FailsToEnter}
use Rattle.evl_core.specs.words.Homes.{Home, gate_home, stax_home}
use Rattle.evl_core.specs.words.AtSeats.{AtSeat}
use Rattle.evl_machine.specs.stax_locks.StaxSeats.{is_held, stax_passes, AreFresh, AreGatesOf, Leaves, Enters, TriesStax, LeavesSo, LeavesBy, LeavesStax, pass_refusal}
use Rattle.evl_core.proofs.words.DealLaws.{fresh-counted, range-more}
use Rattle.evl_core.proofs.words.SeatLists.{set-same, same-place, same-length}

-- the seat at a place, which is the gate's there
pub found : (xs old : List SeatState) (gs now : List GateState) (i : ℕ) (seat : SeatState) (gate : GateState) → xs ≡ old → gs ≡ now → map stax_home old ≡ map gate_home now
    → i < length gs → seat ≡ get_or xs i seat → gate ≡ get_or gs i gate → (slice_get xs i ≡ Some seat) × IsSeatOf seat gate
found xs old gs now i seat gate same_seats same_gates homes within here there =
    let long = same-length stax_home gate_home old now homes in
    let at = same-place stax_home gate_home xs old gs now i seat gate same_seats same_gates homes (omega (arith, within, long, ap length same_gates)) here there in
    (at.0, record { table = ap (λ (h : Home). h.table) at.1; id = ap (λ (h : Home). record { 0 = h.number }) at.1; limit = ap (λ (h : Home). h.bound) at.1 })

pub home_kept : (was is : SeatState) → IsSameSeat was is → stax_home is ≡ stax_home was
home_kept was is same = λ i. record { table = same.table i; number = (same.gate i).0; bound = same.limit i }

-- how a seat that tries to enter fares
abbrev pub Entering : Stage → Result StaxPass Refusal → SeatState → SeatState → Type 0
Entering stage result was is = Tries was stage is × IfOk result (λ pass. IsPassOf pass was × (was.view.held.stage ≡ None) × Calls was (Enter stage) Entered is (Some stage)) × IfErr result (λ refusal. FailsToEnter was stage is refusal)

pub few_passes : (s : SeatState) → stax_passes s ≤ 255
few_passes s = elim (is_held s) as (λ b. cond {A = ℕ} b 1 0 ≤ 255) [ true ↦ omega arith | false ↦ omega arith ]

abbrev pub passes_of : Bool → ℕ
passes_of b = cond {A = ℕ} b 1 0

-- a truth value as a number
pub byte_passes : (b : Bool) → bool_byte b ≡ passes_of b
byte_passes true = refl
byte_passes false = refl

pub one_at_most : (b : Bool) → bool_byte b ≤ 1
one_at_most true = omega arith
one_at_most false = omega arith

pub has_passes : (s : SeatState) → nat_lt 0 (stax_passes s) ≡ is_held s
has_passes s = elim (is_held s) as (λ b. nat_lt 0 (passes_of b) ≡ b) [ true ↦ refl | false ↦ refl ]

module _ (was : SeatState) (stage : Stage) (is : SeatState) where
  -- a seat that fails to enter holds as many as before, and is refused in its own right only where it holds the gate
  pub fails : (refusal : Refusal) → FailsToEnter was stage is refusal → (stax_passes is ≡ stax_passes was) × MatchOption (if is_held was then Some Busy else None) (Unit {0}) (λ r. (refusal ≡ r) × (is ≡ was))
  fails Again h = (ap (λ held. passes_of (is_some held.stage)) h.1.held ∙ sym (ap (λ o. passes_of (is_some o)) h.0), rw (h.0) tt)
  fails Busy h = (ap stax_passes h.1, rw (h.0) (refl, h.1))
  fails Limit h = (ap (λ held. passes_of (is_some held.stage)) h.1.held ∙ sym (ap (λ o. passes_of (is_some o)) h.0), rw (h.0) tt)
  fails (Raced first second) h = (ap (λ held. passes_of (is_some held.stage)) h.1, rw (h.0) tt)
  fails _ h = absurd h

  -- so it has as many passes more as it is given
  pub entered_passes : (result : Result StaxPass Refusal) → Entering stage result was is → stax_passes is ≡ stax_passes was + passes_of (is_ok result)
  entered_passes (Ok pass) h =
      let now = ap (λ held. passes_of (is_some held.stage)) h.1.2.held in
      let before = ap (λ o. passes_of (is_some o)) h.1.1 in omega (arith, now, before)
  entered_passes (Err refusal) h = let same = (fails refusal h.2).0 in omega (arith, same)

  module _ (xs : List SeatState) (i : ℕ) (there : slice_get xs i ≡ Some was) where
    along : (refusal : Refusal) (o : Option Refusal) → Enters stage (Err refusal) was is → MatchOption o (Unit {0}) (λ r. (refusal ≡ r) × (is ≡ was))
        → MatchOption o (Unit {0} × AtSeat i xs (slice_set xs i is) (Enters stage (Err refusal))) (λ r. (◌≡◌ {A = Result StaxPass Refusal} (Err refusal) (Err r)) × (slice_set xs i is ≡ xs))
    along refusal None does h = (tt, record { was = was; is = is; there = there; changed = refl; does = does })
    along refusal (Some r) does h = (ap Err h.0, ap (slice_set xs i) h.1 ∙ set-same xs i was there)

    pub tried : (result : Result StaxPass Refusal) → was.gate.0 ≡ i → Entering stage result was is → TriesStax xs i stage result (slice_set xs i is)
    tried (Ok pass) placed h = rw (there, h.1.1) (ap (λ g. g.0) h.1.0.0 ∙ placed, record { was = was; is = is; there = there; changed = refl; does = (h.0, h.1.0, h.1.2) })
    tried (Err refusal) placed h = rw there (along refusal (if is_held was then Some Busy else None) (h.0, h.2) (fails refusal h.2).1)

-- whether a seat leaves, and with what it is answered
module _ (pass : StaxPass) (was is : SeatState) where
  left_so : (result : Result Bool (Refusal × StaxPass)) → is_held was ≡ true → LeavesSo result was is → (stax_passes is + passes_of (is_ok result) ≡ stax_passes was)
  left_so (Err refused) held h = absurd h
  left_so (Ok wanted) held h =
      let none = free_after wanted h in
      let before = ap passes_of held in
      let now = ap (λ o. passes_of (is_some o)) none in omega (arith, before, now)
    where
      free_after : (wanted : Bool) → Leaves wanted was is → is.view.held.stage ≡ None
      free_after true h = ap (λ held. held.stage) h.clears.1.held
      free_after false h = ap (λ (s : SeatState). s.view.held.stage) h.clears ∙ ap (λ held. held.stage) h.entry.held

  kept : (result : Result Bool (Refusal × StaxPass)) → (result ≡ Err (NotOwner, pass)) × (is ≡ was) → stax_passes is + passes_of (is_ok result) ≡ stax_passes was
  kept result h = let none = ap (λ r. passes_of (is_ok r)) h.0 in let same = ap stax_passes h.1 in omega (arith, none, same)

  passes_by : (result : Result Bool (Refusal × StaxPass)) (a b held : Bool) → is_held was ≡ held → MatchOption (if a && b && held then None else Some NotOwner) (LeavesSo result was is) (λ r. (result ≡ Err (r, pass)) × (is ≡ was))
      → stax_passes is + passes_of (is_ok result) ≡ stax_passes was
  passes_by result true true true e h = left_so result e h
  passes_by result true true false e h = kept result h
  passes_by result true false held e h = kept result h
  passes_by result false b held e h = kept result h

  -- so it has a pass less where it leaves
  pub left_passes : (result : Result Bool (Refusal × StaxPass)) → LeavesBy pass result was is → stax_passes is + passes_of (is_ok result) ≡ stax_passes was
  left_passes result h = passes_by result (pass.gate.0 == was.gate.0) (pass.seat == was.number) (is_held was) refl h

  module _ (xs : List SeatState) (there : slice_get xs pass.gate.0 ≡ Some was) where
    along_left : (result : Result Bool (Refusal × StaxPass)) (o : Option Refusal) → MatchOption o (LeavesSo result was is) (λ r. (result ≡ Err (r, pass)) × (is ≡ was))
        → MatchOption o (AtSeat pass.gate.0 xs (slice_set xs pass.gate.0 is) (LeavesSo result)) (λ r. (result ≡ Err (r, pass)) × (slice_set xs pass.gate.0 is ≡ xs))
    along_left result None h = record { was = was; is = is; there = there; changed = refl; does = h }
    along_left result (Some r) h = (h.0, ap (slice_set xs pass.gate.0) h.1 ∙ set-same xs pass.gate.0 was there)

    pub left_stax : (result : Result Bool (Refusal × StaxPass)) → LeavesBy pass result was is → LeavesStax xs pass result (slice_set xs pass.gate.0 is)
    left_stax result h = rw there (along_left result (pass_refusal pass was) h)

-- one gate more
pub gates-more : (limits : List ℕ) (i threads : ℕ) (gates : List GateState) (gate : GateState) → i < length limits → AreGatesOf (take i limits) threads gates → gate.id.0 ≡ length gates → gate.limit ≡ get_or limits i 0 → gate.seats ≡ threads
    → AreGatesOf (take (i + 1) limits) threads (gates ++ gate ∷ [])
gates-more limits i threads gates gate within before id limit seats =
    let more : take (i + 1) limits ≡ take i limits ++ get_or limits i 0 ∷ [] = take_more limits i 0 within in
    let long : length gates ≡ length (take i limits) = sym (length-map gates (λ (g : GateState). g.id.0)) ∙ ap length before.numbers ∙ length-range_with_len 0 (length (take i limits)) in
    let longer : length (take (i + 1) limits) ≡ length (take i limits) + 1 = ap length more ∙ length-append (take i limits) (get_or limits i 0 ∷ []) in
    record {
      numbers = map-append (λ (g : GateState). g.id.0) gates (gate ∷ []) ∙ (λ j. before.numbers j ++ (id ∙ long) j ∷ []) ∙ sym (range-more (length (take i limits))) ∙ ap (range_with_len 0) (sym longer);
      bounds = map-append (λ (g : GateState). g.limit) gates (gate ∷ []) ∙ (λ j. before.bounds j ++ limit j ∷ []) ∙ sym more;
      seats = map-append (λ (g : GateState). g.seats) gates (gate ∷ []) ∙ (λ j. before.seats j ++ seats j ∷ []) ∙ sym (map-append (λ (l : ℕ). threads) (take i limits) (get_or limits i 0 ∷ [])) ∙ ap (map (λ l. threads)) (sym more);
    }

-- seats as the gates were made with them
pub fresh : (limits : List ℕ) (threads : ℕ) (gates : List GateState) → length limits ≤ 32 → AreGatesOf limits threads gates → (k : ℕ) → AreFresh (map (λ g. new_seat g k) gates)
fresh limits threads gates few are k =
    let long : length gates ≡ length limits = sym (length-map gates (λ (g : GateState). g.limit)) ∙ ap length are.bounds in
    fresh-counted (λ g n. new_seat g n) (λ (g : GateState). g.id.0) (λ (s : SeatState). s.gate.0) stax_passes (λ g n. refl) (λ g n. refl) k gates (omega (arith, few, long)) (are.numbers ∙ ap (range_with_len 0) (sym long))

-- the seats of two threads agree at one gate more
pub agree_more : (xs ys : List SeatState) (n : ℕ) (s t : SeatState) → ((i : ℕ) (p q : SeatState) → i < n → slice_get xs i ≡ Some p → slice_get ys i ≡ Some q → AgreeAtGate p q) → slice_get xs n ≡ Some s → slice_get ys n ≡ Some t → AgreeAtGate s t
    → (i : ℕ) (p q : SeatState) → i < n + 1 → slice_get xs i ≡ Some p → slice_get ys i ≡ Some q → AgreeAtGate p q
agree_more xs ys n s t before here there agree i p q less at also = dite (ℕ_discrete i n)
    (λ (e : i ≡ n).
    let one : Some s ≡ Some p = sym here ∙ (ap (slice_get xs) (sym e) ∙ at) in
    let other : Some t ≡ Some q = sym there ∙ (ap (slice_get ys) (sym e) ∙ also) in
    let same : s ≡ p = cc in
    let like : t ≡ q = cc in
    subst (λ (z : SeatState × SeatState). AgreeAtGate z.0 z.1) (λ j. (same j, like j)) agree)
    (λ (ne : i ≢ n). before i p q (omega (arith, less, ne)) at also)
