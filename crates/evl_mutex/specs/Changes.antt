-- The threads whose number may have changed are noted.
use Rattle.std.specs.Prelude.{ℕ, ◌≡◌, Bool, true, false}

-- rule: A noting call notes every thread whose effective rank it changes, and otherwise does what the call without
--   notes does.
--   clauses: Owners::{claim_noting, release_noting, raise_noting, leave_noting, set_base_noting}; RankChanges::note
-- a thread that isn't noted has the number that it had, and a thread that was noted still is
pub record ChangesAreNoted (was now : ℕ → Bool) (old new : ℕ → ℕ) : Type 0 where
  pub same : (thread : ℕ) → now thread ≡ false → new thread ≡ old thread
  pub more : (thread : ℕ) → was thread ≡ true → now thread ≡ true
