-- A mutex call's effect on the caller's seats at the mutex words of a machine.
use Rattle.std.specs.Prelude.{◌≡◌, ℕ, ◌+◌, ◌<◌, ◌==◌, nat_lt, not, ◌&&◌, if◌then◌else◌, Bool, true, false, Option, Some, None, IsSomeAnd, Result, Ok, Err, MatchBool, MatchOption, List, slice_get}
use Rattle.std.specs.List.{list_any}
use Rattle.std.specs.Option.{option_map_or}
use Rattle.evl_base.specs.declared.mutex_kind.MutexKind.{MutexKind}
use Rattle.evl_base.specs.declared.mutex_kind.MutexKind.TheVariants.{Normal, Recursive, Ceiling}
use Rattle.evl_base.specs.declared.refusal.Refusal.{Refusal}
use Rattle.evl_base.specs.declared.refusal.Refusal.TheVariants.{Again, Busy, Deadlock, Limit, NotOwner, Unknown}
use Rattle.evl_words.specs.declared.mutex.Claim.{Claim}
use Rattle.evl_words.specs.declared.mutex.MutexPass.{MutexPass}
use Rattle.evl_words.specs.declared.mutex.MutexRole.TheVariants.{Bystander, Winner, Owner}
use Rattle.evl_words.specs.declared.mutex.MutexCall.TheVariants.{Try, Claim as Claimed, Settle, Offer, Free, Accept, Forget}
use Rattle.evl_words.specs.declared.mutex.MutexReply.TheVariants.{Passed, Refused, Done}
use Rattle.evl_words.specs.declared.mutex.Unlock.{Unlock}
use Rattle.evl_words.specs.MutexWorld.{tries, unlocks, claims, settles, offers, frees, forgets, role_claimed, forgotten}
use Rattle.evl_words.specs.MutexCalls.{MutexSeatState, IsPassOf, Makes, Accepts, Calls, Unlocks, at_depth, reply_of}
use Rattle.evl_core.specs.words.AtSeats.{AtSeat}

abbrev pub is_recursive : MutexKind → Bool
is_recursive Normal = false
is_recursive Recursive = true
is_recursive (Ceiling prio) = false

-- how many passes the seat has
abbrev pub mutex_passes : MutexSeatState → ℕ
mutex_passes seat = seat.depth

abbrev pub is_owner : MutexSeatState → Bool
is_owner seat = nat_lt 0 seat.depth

-- some mutex is held
abbrev pub holds_mutex : List MutexSeatState → Bool
holds_mutex seats = list_any is_owner seats

-- how often mutex i is held
abbrev pub depth_at : List MutexSeatState → ℕ → ℕ
depth_at seats i = option_map_or mutex_passes (slice_get seats i) 0

-- what refuses an owner that tries again: the mutex doesn't nest, or is held 255 times
abbrev pub owner_refusal : MutexKind → ℕ → Option Refusal
owner_refusal kind depth = if depth == 0 then None else if not (is_recursive kind) then Some Deadlock else if depth == 255 then Some Limit else None

-- what refuses a try with no step
abbrev pub mutex_refusal : List MutexKind → List MutexSeatState → ℕ → Option Refusal
mutex_refusal kinds seats i = option_map_or (λ kind. option_map_or (λ seat. owner_refusal kind seat.depth) (slice_get seats i) (Some Unknown)) (slice_get kinds i) (Some Unknown)

-- a seat that holds nothing takes the mutex, and an owner has it once more with no step
abbrev pub Gains : MutexSeatState → MutexSeatState → Type 0
Gains was is = MatchBool (was.depth == 0) (Makes was tries is × Calls was Try Passed is Owner 1) (is ≡ at_depth (was.depth + 1) was)

-- what a seat does that tries, and was answered so
abbrev pub Tries : Result MutexPass Refusal → MutexSeatState → MutexSeatState → Type 0
Tries (Ok pass) was is = IsPassOf pass was × Gains was is
Tries (Err refusal) was is = (refusal ≡ Busy) × (was.depth ≡ 0) × Makes was tries is × Calls was Try (Refused Busy) is was.view.held.role 0

-- a pass is of mutex i
abbrev pub IsOfMutex : ℕ → Result MutexPass Refusal → Type 0
IsOfMutex i (Ok pass) = pass.mutex.0 ≡ i
IsOfMutex i (Err refusal) = Unit {0}

abbrev pub TriesMutex : List MutexKind → List MutexSeatState → ℕ → Result MutexPass Refusal → List MutexSeatState → Type 0
TriesMutex kinds old i result new = MatchOption (mutex_refusal kinds old i) (IsOfMutex i result × AtSeat i old new (Tries result)) (λ refusal. (result ≡ Err refusal) × (new ≡ old))

-- what refuses an unlocking by a pass with no step: it isn't of this seat, or the seat holds nothing
abbrev pub pass_refusal : MutexPass → MutexSeatState → Option Refusal
pass_refusal pass seat = if pass.mutex.0 == seat.mutex.0 && pass.seat == seat.number && is_owner seat then None else Some NotOwner

abbrev pub unlock_refusal : List MutexSeatState → MutexPass → Option Refusal
unlock_refusal seats pass = option_map_or (pass_refusal pass) (slice_get seats pass.mutex.0) (Some NotOwner)

-- only at depth 1 an unlocking is a step
abbrev pub UnlocksSo : MutexPass → Result Unlock (Refusal × MutexPass) → MutexSeatState → MutexSeatState → Type 0
UnlocksSo pass (Ok done) was is = MatchBool (was.depth == 1) (Makes was unlocks is) (is.view ≡ was.view) × Unlocks was is pass done
UnlocksSo pass (Err refused) was is = ⊥

-- of one seat
abbrev pub UnlocksBy : MutexPass → Result Unlock (Refusal × MutexPass) → MutexSeatState → MutexSeatState → Type 0
UnlocksBy pass result was is = MatchOption (pass_refusal pass was) (UnlocksSo pass result was is) (λ refusal. (result ≡ Err (refusal, pass)) × (is ≡ was))

abbrev pub UnlocksMutex : List MutexSeatState → MutexPass → Result Unlock (Refusal × MutexPass) → List MutexSeatState → Type 0
UnlocksMutex old pass result new = MatchOption (unlock_refusal old pass) (AtSeat pass.mutex.0 old new (UnlocksSo pass result)) (λ refusal. (result ≡ Err (refusal, pass)) × (new ≡ old))

-- the seat has won mutex i, and not yet settled
abbrev pub HasWon : List MutexSeatState → ℕ → Type 0
HasWon seats i = IsSomeAnd (slice_get seats i) (λ s. s.view.held.role ≡ Winner)

-- the pass is of its mutex's seat, which has it once
abbrev pub HasOnce : List MutexSeatState → MutexPass → Type 0
HasOnce seats pass = IsSomeAnd (slice_get seats pass.mutex.0) (λ s. IsPassOf pass s × (s.depth ≡ 1))

-- mutex i has a seat of this number
abbrev pub HasSeat : List MutexSeatState → ℕ → ℕ → Type 0
HasSeat seats i number = IsSomeAnd (slice_get seats i) (λ s. number < s.view.held.seats)

abbrev pub Claims : Claim → MutexSeatState → MutexSeatState → Type 0
Claims told was is = Makes was claims is × Calls was Claimed (reply_of told) is (role_claimed (reply_of told) was.view.held.role) was.depth

abbrev pub Settles : MutexPass → MutexSeatState → MutexSeatState → Type 0
Settles pass was is = IsPassOf pass was × Makes was settles is × Calls was Settle Passed is Owner 1

abbrev pub Offers : ℕ → Bool → MutexSeatState → MutexSeatState → Type 0
Offers next more was is = Makes was (offers next more) is × Calls was (Offer next more) Done is Bystander 0

abbrev pub Frees : MutexSeatState → MutexSeatState → Type 0
Frees was is = Makes was frees is × Calls was Free Done is Bystander 0

abbrev pub AcceptsSo : Result MutexPass Refusal → MutexSeatState → MutexSeatState → Type 0
AcceptsSo (Ok pass) was is = Accepts was is × IsPassOf pass was × Calls was Accept Passed is Owner 1
AcceptsSo (Err refusal) was is = Accepts was is × (refusal ≡ Again) × Calls was Accept (Refused Again) is was.view.held.role was.depth

abbrev pub ForgetsSo : Result (Unit {0}) Refusal → MutexSeatState → MutexSeatState → Type 0
ForgetsSo (Ok done) was is = Makes was forgets is × Calls was Forget Done is (forgotten was.view.held.role) was.depth
ForgetsSo (Err refusal) was is = Makes was forgets is × (refusal ≡ Busy) × Calls was Forget (Refused Busy) is was.view.held.role was.depth
