-- All that is on the lines after a change was there before, but for what a request brings.
use Rattle.std.proofs.Common.{◌≡◌, ℕ, zero, suc, ◌⊎◌, inl, inr, Bool, true, false, List, [], ◌∷◌, Option, Some, None, slice_set, slice_index_or, if◌then◌else◌, refl, sym, ap, subst}
use Rattle.std.proofs.lemmas.Option.{none-some, same_Some}
use Rattle.evl_base.specs.declared.stage.Stage.{Stage}
use Rattle.evl_base.specs.declared.stage.Stage.TheVariants.{Inband, Oob}
use Rattle.evl_pipeline.specs.Counts.{count_raised}
use Rattle.evl_pipeline.specs.Lines.{Pipeline, Side, Installed, side, with_side, installed_at, has_callback, callback_on, logged, cleared, posted, arrived, stalled, unstalled, requested, freed, played}

-- what a table has after an entry was set: that entry, or what it had
pub set-lookup : {A : Type 0} (xs : List (Option A)) (i q : ℕ) (x : Option A) (a : A) → slice_index_or (slice_set xs i x) q None ≡ Some a
    → (slice_index_or xs q None ≡ Some a) ⊎ ((q ≡ i) × (x ≡ Some a))
set-lookup [] i q x a h = inl h
set-lookup (y ∷ ys) zero zero x a h = inr (refl, h)
set-lookup (y ∷ ys) zero (suc q) x a h = inl h
set-lookup (y ∷ ys) (suc i) zero x a h = inl h
set-lookup (y ∷ ys) (suc i) (suc q) x a h = later (set-lookup ys i q x a h)
  where
    later : (slice_index_or ys q None ≡ Some a) ⊎ ((q ≡ i) × (x ≡ Some a)) → (slice_index_or ys q None ≡ Some a) ⊎ ((suc q ≡ suc i) × (x ≡ Some a))
    later (inl old) = inl old
    later (inr (same, is)) = inr (ap suc same, is)

module _ {X : Type 0} where
  -- the same callback stood there
  abbrev pub Stood : Pipeline X → Stage → ℕ → Installed X → Type 0
  Stood p stage line at = (was : Installed X) × (installed_at p stage line ≡ Some was) × (at.callback ≡ was.callback)

  abbrev pub OnlyOld : Pipeline X → Pipeline X → Type 0
  OnlyOld p q = (stage : Stage) (line : ℕ) (at : Installed X) → installed_at q stage line ≡ Some at → Stood p stage line at

  -- a side with nothing else on it
  old-with : (p : Pipeline X) (stage : Stage) (s : Side X) → ((line : ℕ) (at : Installed X) → callback_on s line ≡ Some at → Stood p stage line at) → OnlyOld p (with_side p stage s)
  old-with p Oob s only Oob line at h = only line at h
  old-with p Oob s only Inband line at h = (at, h, refl)
  old-with p Inband s only Oob line at h = (at, h, refl)
  old-with p Inband s only Inband line at h = only line at h

  on-side : (p : Pipeline X) (stage : Stage) (line : ℕ) (at : Installed X) → callback_on (side p stage) line ≡ Some at → Stood p stage line at
  on-side p stage line at h = (at, h, refl)

  pub old-posted : (p : Pipeline X) (stage : Stage) (line : ℕ) → OnlyOld p (posted p stage line)
  old-posted p stage line = by (has_callback p stage line)
    where
      by : (b : Bool) → OnlyOld p (if b then with_side p stage (logged (side p stage) line) else record p { spurious = count_raised p.spurious line })
      by true other_stage other at h = old-with p stage (logged (side p stage) line) (on-side p stage) other_stage other at h
      by false Oob other at h = (at, h, refl)
      by false Inband other at h = (at, h, refl)

  pub old-arrived : (p : Pipeline X) (line : ℕ) → OnlyOld p (arrived p line)
  old-arrived p line = by (has_callback p Oob line)
    where
      by : (b : Bool) → OnlyOld p (if b then posted p Oob line else posted p Inband line)
      by true = old-posted p Oob line
      by false = old-posted p Inband line

  pub old-stalled : (p : Pipeline X) (stage : Stage) → OnlyOld p (stalled p stage)
  old-stalled p stage = old-with p stage (record (side p stage) { stalled = true }) (on-side p stage)

  pub old-unstalled : (p : Pipeline X) (stage : Stage) → OnlyOld p (unstalled p stage)
  old-unstalled p stage = old-with p stage (record (side p stage) { stalled = false }) (on-side p stage)

  pub old-cleared : (p : Pipeline X) (stage : Stage) (line : ℕ) → OnlyOld p (with_side p stage (cleared (side p stage) line))
  old-cleared p stage line = old-with p stage (cleared (side p stage) line) (on-side p stage)

  pub old-freed : (p : Pipeline X) (line : ℕ) (stage : Stage) → OnlyOld p (freed p line stage)
  old-freed p line stage = old-with p stage _ (λ other at h. by other at (set-lookup (side p stage).installed line other None at h))
    where
      by : (other : ℕ) (at : Installed X) → (callback_on (side p stage) other ≡ Some at) ⊎ ((other ≡ line) × (None ≡ Some at)) → Stood p stage other at
      by other at (inl old) = (at, old, refl)
      by other at (inr (same, is)) = absurd (none-some _ is)

  pub old-played : (p : Pipeline X) (stage : Stage) (line : ℕ) (at : Installed X) (handled : Bool) → installed_at p stage line ≡ Some at → OnlyOld p (played p stage line at handled)
  old-played p stage line at handled here = old-with p stage _ (λ other now h. by other now (set-lookup (side p stage).installed line other _ now h))
    where
      by : (other : ℕ) (now : Installed X) → (callback_on (side p stage) other ≡ Some now) ⊎ ((other ≡ line) × (Some (record at { count = Rattle.evl_pipeline.specs.Counts.one_more at.count }) ≡ Some now)) → Stood p stage other now
      by other now (inl old) = (now, old, refl)
      by other now (inr (same, is)) = (at, subst (λ (n : ℕ). installed_at p stage n ≡ Some at) (sym same) here, ap (λ (x : Installed X). x.callback) (sym (same_Some _ _ is)))

  -- what is on the lines after a request is what it brought, or was there
  pub new-requested : (p : Pipeline X) (line : ℕ) (stage : Stage) (callback : X) (tag : ℕ) (other_stage : Stage) (other : ℕ) (at : Installed X)
      → installed_at (requested p line stage callback tag) other_stage other ≡ Some at
      → Stood p other_stage other at ⊎ ((other_stage ≡ stage) × (at.callback ≡ callback))
  new-requested p line Oob callback tag Oob other at h = came (set-lookup p.oob.installed line other _ at h)
    where
      came : (callback_on p.oob other ≡ Some at) ⊎ ((other ≡ line) × (Some (record { callback = callback; tag = tag; count = 0 }) ≡ Some at)) → Stood p Oob other at ⊎ ((Oob ≡ Oob) × (at.callback ≡ callback))
      came (inl old) = inl (at, old, refl)
      came (inr (same, is)) = inr (refl, ap (λ (x : Installed X). x.callback) (sym (same_Some _ _ is)))
  new-requested p line Oob callback tag Inband other at h = inl (at, h, refl)
  new-requested p line Inband callback tag Oob other at h = inl (at, h, refl)
  new-requested p line Inband callback tag Inband other at h = came (set-lookup p.inband.installed line other _ at h)
    where
      came : (callback_on p.inband other ≡ Some at) ⊎ ((other ≡ line) × (Some (record { callback = callback; tag = tag; count = 0 }) ≡ Some at)) → Stood p Inband other at ⊎ ((Inband ≡ Inband) × (at.callback ≡ callback))
      came (inl old) = inl (at, old, refl)
      came (inr (same, is)) = inr (refl, ap (λ (x : Installed X). x.callback) (sym (same_Some _ _ is)))
