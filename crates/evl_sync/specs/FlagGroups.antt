-- One flag group by itself: its bits and its waiters.
use Rattle.std.specs.Prelude.{ℕ, ◌≡◌, ◌==◌, bit_and, bit_or, bit_xor, Bool, false, List, [], ◌∷◌, ◌++◌, map, Option, Some, None, Result, Ok, Err, if◌then◌else◌}
use Rattle.std.specs.List.{AllByRecursion}
use Rattle.std.specs.Option.{option_map_or}
use Rattle.evl_base.specs.declared.refusal.Refusal.{Refusal}
use Rattle.evl_base.specs.declared.refusal.Refusal.TheVariants.{Invalid, Again}
use Rattle.evl_base.specs.declared.take.Take.{Take}
use Rattle.evl_base.specs.declared.take.Take.TheVariants.{Any, Of, Exact}
use Rattle.evl_sync.specs.declared.flag_waiter.FlagWaiter.{FlagWaiter}
use Rattle.evl_sync.specs.declared.flag_waiter.TakenBits.{TakenBits}
use Rattle.evl_sync.specs.Queues.{enqueued_by, dropped_by, IsKept}
use Rattle.evl_sync.specs.Steps.{unless}

pub record FlagGroup : Type 0 where
  pub bits : ℕ
  pub waiters : List FlagWaiter

abbrev pub opened_group : ℕ → FlagGroup
opened_group bits = record { bits = bits; waiters = [] }

-- a mask without bits is not allowed
abbrev pub is_empty_mask : Take → Bool
is_empty_mask Any = false
is_empty_mask (Of mask) = mask == 0
is_empty_mask (Exact mask) = mask == 0

-- rule: A mask without bits and a post of no bits are `Invalid`, before `Again`.
--   also: FlagGroups.{post_refusal, try_take}
--   rows: flags_and_buffers_3; empty_mask
abbrev pub take_refusal : Take → Option Refusal
take_refusal kind = if is_empty_mask kind then Some Invalid else None

-- refusals: FlagGroup::post, begin_take
--   order: Invalid
--   also: FlagGroups.take_refusal
abbrev pub post_refusal : ℕ → Option Refusal
post_refusal bits = if bits == 0 then Some Invalid else None

abbrev pub some_bits : ℕ → Option ℕ
some_bits got = if got == 0 then None else Some got

-- rule: `Any` takes all bits, `Of` those of its mask, if there are any; `Exact` its whole mask, if it is there.
--   rows: flags_and_buffers_3; half; any; any_or_all_of_the_bits; exact_mask_in_two_posts
-- which of the bits the kind takes, if it is satisfied
abbrev pub bits_taken : Take → ℕ → Option ℕ
bits_taken Any bits = some_bits bits
bits_taken (Of mask) bits = some_bits (bit_and bits mask)
bits_taken (Exact mask) bits = if bit_and bits mask == mask then Some mask else None

abbrev pub left_of : ℕ → Option ℕ → ℕ
left_of bits got = option_map_or (λ g. bit_xor bits g) got bits

abbrev pub without_bits : FlagGroup → ℕ → FlagGroup
without_bits f got = record f { bits = bit_xor f.bits got }

-- rule: A take that can be served passes all waiters.
--   also: FlagGroups.begin_take
--   rows: past_waiters; a_take_goes_past_waiters; takes_go_past_waiters
-- refusals: FlagGroup::try_take
--   order: Invalid, Again
-- past all waiters
abbrev pub try_take : Take → FlagGroup → Result (ℕ × FlagGroup) Refusal
try_take kind f = unless (take_refusal kind) (option_map_or (λ got. Ok (got, without_bits f got)) (bits_taken kind f.bits) (Err Again))

-- a walk through waiters: whom it serves with which bits, who goes on waiting, and which bits are left
pub record Walk : Type 0 where
  pub served : List (ℕ × ℕ)
  pub waiting : List FlagWaiter
  pub left : ℕ

abbrev pub waiter_passed : FlagWaiter → Option ℕ → Walk → Walk
waiter_passed w None walk = record walk { waiting = w ∷ walk.waiting }
waiter_passed w (Some got) walk = record walk { served = (w.thread, got) ∷ walk.served }

-- each waiter takes from what the ones before it left
abbrev pub walk_of : List FlagWaiter → ℕ → Walk
walk_of [] bits = record { served = []; waiting = []; left = bits }
walk_of (w ∷ ws) bits = let got = bits_taken w.kind bits in waiter_passed w got (walk_of ws (left_of bits got))

-- rule: A post walks once through the waiters; each takes what it wants of what those before it left, or stays. Bits
--   that nobody takes stay. Each call is one step of the group's machine.
--   also: FlagGroups.walk_of
--   clauses: FlagGroup::{new, try_take, post, begin_take, drop_waiter, peek, post_telling, waiter}
--   rows: flag_waiters; one_walk; kept_bits
-- rule: A post adds its bits to the group's 32.
-- the bits are ored in, and one walk goes through the waiters
abbrev pub post : ℕ → FlagGroup → Walk
post bits f = walk_of f.waiters (bit_or f.bits bits)

abbrev pub after_walk : Walk → FlagGroup
after_walk walk = record { bits = walk.left; waiters = walk.waiting }

abbrev pub with_waiter : FlagWaiter → FlagGroup → FlagGroup
with_waiter w f = record f { waiters = enqueued_by (λ v. v.rank) w f.waiters }

-- what the thread is served with at once, if it is; else it waits
abbrev pub begin_take : FlagWaiter → FlagGroup → Option ℕ × FlagGroup
begin_take w f = let got = bits_taken w.kind f.bits in (got, option_map_or (without_bits f) got (with_waiter w f))

abbrev pub drop_waiter : ℕ → FlagGroup → FlagGroup
drop_waiter thread f = record f { waiters = dropped_by (λ w. w.thread) thread f.waiters }

-- whom a post served, by number, with which bits
abbrev pub pairs : List TakenBits → List (ℕ × ℕ)
pairs served = map (λ s. (s.thread.0, s.bits)) served

-- the served and the group after one walk
abbrev pub walk_waiters : Walk → List (ℕ × ℕ) × FlagGroup
walk_waiters walk = (walk.served, after_walk walk)

-- what a walk says after a stretch that served and passed these
abbrev pub walk_after : List (ℕ × ℕ) → List FlagWaiter → Walk → Walk
walk_after served waiting walk = record { served = served ++ walk.served; waiting = waiting ++ walk.waiting; left = walk.left }

-- rule: Nobody waits for bits that are there.
--   clauses: FlagGroup::peek: sound
-- who waits isn't satisfied by the bits that are there
abbrev pub Rests : ℕ → List FlagWaiter → Type 0
Rests bits waiters = AllByRecursion (λ w. bits_taken w.kind bits ≡ None) waiters

-- what is known of a flag group
pub record IsSoundGroup (f : FlagGroup) : Type 0 where
  pub rests : Rests f.bits f.waiters
  pub queue : IsKept (λ w. w.thread) (λ w. w.rank) f.waiters
