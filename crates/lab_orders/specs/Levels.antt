-- The places at which the nodes of one number of steps are found again.
use Rattle.std.specs.Prelude.{ℕ, zero, suc, ◌≡◌, ◌<◌, nat_eq, cond, List, Option, Some, None, length, map, slice_get, slice_index_or}
use Rattle.std.specs.HashMap.{get}
use Rattle.lab_orders.specs.Fronts.{AreApart, states}
use Rattle.lab_orders.specs.declared.levels.Level.{Level}

-- the last place below n at which this digest is
abbrev pub newest : List ℕ → ℕ → ℕ → Option ℕ
newest digests digest zero = None
newest digests digest (suc n) = cond (nat_eq (slice_index_or digests n 0) digest) (Some n) (newest digests digest n)

-- the nodes have these digests: of each digest the newest node is known, and of each node the next older one of its digest
pub record IsIndexed {M : Type 0} (digests : List ℕ) (level : Level M) : Type 0 where
  pub places : (digest : ℕ) → get nat_eq level.places digest ≡ newest digests digest (length digests)
  pub older : (i : ℕ) → i < length digests → slice_index_or level.older.items i None ≡ newest digests (slice_index_or digests i 0) i
  pub each : length level.older.items ≡ length digests

-- no two nodes are at one state, and each is found by the digest of its state
pub record IsApart {M S : Type 0} (state : M → S) (digest : S → ℕ) (level : Level M) : Type 0 where
  pub apart : AreApart state level.nodes.items
  pub indexed : IsIndexed (map digest (states state level.nodes.items)) level
