-- Other names for what is on the lines: each change comes to the same before and after the renaming.
use Rattle.std.proofs.Common.{◌≡◌, ℕ, zero, suc, Bool, ◌||◌, ◌==◌, List, [], ◌∷◌, map, Option, Some, None, is_some, slice_index_or, refl, sym, ap, ◌∙◌}
use Rattle.std.proofs.lemmas.List.{map-set}
use Rattle.std.specs.Option.{option_map}
use Rattle.evl_base.specs.declared.stage.Stage.{Stage}
use Rattle.evl_base.specs.declared.stage.Stage.TheVariants.{Inband, Oob}
use Rattle.evl_pipeline.specs.Counts.{one_more}
use Rattle.evl_pipeline.specs.Lines.{Pipeline, Side, Installed, with_side, installed_at, requested, request_refusal, freed, free_refusal, played}
use Rattle.evl_kernel.specs.state.Renamed.{named, renamed, renamed_side}
use Rattle.evl_kernel.proofs.waiting.StandingLaws.{OnlyOld}

-- a table of optional entries under a function
pub lookup-map : {A B : Type 0} (f : A → B) (xs : List (Option A)) (n : ℕ) → slice_index_or (map (option_map f) xs) n None ≡ option_map f (slice_index_or xs n None)
lookup-map f [] n = refl
lookup-map f (x ∷ xs) zero = refl
lookup-map f (x ∷ xs) (suc n) = lookup-map f xs n

is_some-map : {A B : Type 0} (f : A → B) (o : Option A) → is_some (option_map f o) ≡ is_some o
is_some-map f None = refl
is_some-map f (Some x) = refl

module _ {X Y : Type 0} (name : X → Y) where
  pub installed-renamed : (p : Pipeline X) (stage : Stage) (line : ℕ) → installed_at (renamed name p) stage line ≡ option_map (named name) (installed_at p stage line)
  installed-renamed p Oob line = lookup-map (named name) p.oob.installed line
  installed-renamed p Inband line = lookup-map (named name) p.inband.installed line

  pub stands-renamed : (p : Pipeline X) (stage : Stage) (line : ℕ) → is_some (installed_at (renamed name p) stage line) ≡ is_some (installed_at p stage line)
  stands-renamed p stage line = ap is_some (installed-renamed p stage line) ∙ is_some-map (named name) (installed_at p stage line)

  with-renamed : (p : Pipeline X) (stage : Stage) (s : Side X) → renamed name (with_side p stage s) ≡ with_side (renamed name p) stage (renamed_side name s)
  with-renamed p Oob s = refl
  with-renamed p Inband s = refl

  pub request_refusal-renamed : (p : Pipeline X) (line : ℕ) (stage : Stage) (kinds : ℕ) → request_refusal (renamed name p) line stage kinds ≡ request_refusal p line stage kinds
  request_refusal-renamed p line stage kinds = rw (stands-renamed p stage line) refl

  pub free_refusal-renamed : (p : Pipeline X) (line : ℕ) (stage : Stage) → free_refusal (renamed name p) line stage ≡ free_refusal p line stage
  free_refusal-renamed p line stage = rw (stands-renamed p stage line) refl

  pub requested-renamed : (p : Pipeline X) (line : ℕ) (stage : Stage) (callback : X) (tag : ℕ) → renamed name (requested p line stage callback tag) ≡ requested (renamed name p) line stage (name callback) tag
  requested-renamed p line Oob callback tag = rw (map-set (option_map (named name)) p.oob.installed line (Some (record { callback = callback; tag = tag; count = 0 }))) refl
  requested-renamed p line Inband callback tag = rw (map-set (option_map (named name)) p.inband.installed line (Some (record { callback = callback; tag = tag; count = 0 }))) refl

  pub freed-renamed : (p : Pipeline X) (line : ℕ) (stage : Stage) → renamed name (freed p line stage) ≡ freed (renamed name p) line stage
  freed-renamed p line Oob = rw (map-set (option_map (named name)) p.oob.installed line None) refl
  freed-renamed p line Inband = rw (map-set (option_map (named name)) p.inband.installed line None) refl

  pub played-renamed : (p : Pipeline X) (stage : Stage) (line : ℕ) (at : Installed X) (handled : Bool) → renamed name (played p stage line at handled) ≡ played (renamed name p) stage line (named name at) handled
  played-renamed p Oob line at handled = rw (map-set (option_map (named name)) p.oob.installed line (Some (record at { count = one_more at.count }))) refl
  played-renamed p Inband line at handled = rw (map-set (option_map (named name)) p.inband.installed line (Some (record at { count = one_more at.count }))) refl

  some_map : (o : Option (Installed X)) (now : Installed Y) → option_map (named name) o ≡ Some now → (at : Installed X) × (o ≡ Some at) × (now ≡ named name at)
  some_map None now h = absurd (none_some h)
    where
      none_some : None ≡ Some now → ⊥
      none_some e = cc
  some_map (Some at) now h = (at, refl, some_is h)
    where
      some_is : Some (named name at) ≡ Some now → now ≡ named name at
      some_is e = cc

  pub old-renamed : (p q : Pipeline X) → OnlyOld p q → OnlyOld (renamed name p) (renamed name q)
  old-renamed p q only stage line now h =
      let found = some_map (installed_at q stage line) now (sym (installed-renamed q stage line) ∙ h) in
      let was = only stage line found.0 found.1 in
      (named name was.0, installed-renamed p stage line ∙ ap (option_map (named name)) was.1, ap (λ (x : Installed Y). x.callback) found.2 ∙ ap name was.2)
