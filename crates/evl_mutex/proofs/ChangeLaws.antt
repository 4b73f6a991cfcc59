-- All that is noted of changes, one after another.
use Rattle.std.proofs.Common.{◌≡◌, ℕ, max, Bool, true, false, List, Option, slice_index, refl, sym, ◌∙◌}
use Rattle.std.proofs.lemmas.Bool.{false≢true}
use Rattle.evl_mutex.specs.Changes.{ChangesAreNoted}
use Rattle.evl_mutex.specs.Owners.{Owners, IsSound, rank_of}
use Rattle.evl_mutex.specs.Views.{AreNoted, AreStored}
use Rattle.evl_mutex.proofs.StoredLaws.{rank-stored}

pub noted-none : {was : ℕ → Bool} {old new : ℕ → ℕ} → ((t : ℕ) → new t ≡ old t) → ChangesAreNoted was was old new
noted-none alike = record { same = λ t _. alike t; more = λ t e. e }

-- who isn't noted now wasn't before
not_before : {was now : ℕ → Bool} {old new : ℕ → ℕ} → ChangesAreNoted was now old new → (t : ℕ) → now t ≡ false → was t ≡ false
not_before {was = was} noted t e = by (was t) refl
  where
    by : (b : Bool) → was t ≡ b → b ≡ false
    by true is = absurd (false≢true (sym e ∙ noted.more t is))
    by false is = refl

-- what one step and a second one noted
pub noted-both : {first second third : ℕ → Bool} {old mid new : ℕ → ℕ} → ChangesAreNoted first second old mid → ChangesAreNoted second third mid new → ChangesAreNoted first third old new
noted-both a b = record { same = λ t e. b.same t e ∙ a.same t (not_before b t e); more = λ t e. b.more t (a.more t e) }

-- the ranks that are kept are noted where what is lent and then the ceilings are
pub ranks-noted : (o p : Owners) (ahead left : List (Option ℕ)) (lent lends raised raises : List ℕ)
    → IsSound o → AreNoted ahead o.mutexes → AreStored o.base o.mutexes ahead lent raised
    → IsSound p → AreNoted left p.mutexes → AreStored p.base p.mutexes left lends raises
    → (first second third : ℕ → Bool) → ChangesAreNoted first second (slice_index lent) (slice_index lends) → ChangesAreNoted second third (slice_index raised) (slice_index raises)
    → ChangesAreNoted first third (rank_of o) (rank_of p)
ranks-noted o p ahead left lent lends raised raises is noted stored is' noted' stored' first second third a b =
    record {
      same = λ t e.
          let lent_same : slice_index lends t ≡ slice_index lent t = a.same t (not_before b t e) in
          sym (rank-stored p left lends raises is' noted' stored' t)
          ∙ (λ i. max (lent_same i) (b.same t e i))
          ∙ rank-stored o ahead lent raised is noted stored t;
      more = λ t e. b.more t (a.more t e);
    }
