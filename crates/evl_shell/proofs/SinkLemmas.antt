-- Bytes that a sink got in parts.
use Rattle.std.proofs.Common.{◌≡◌, inl, Bool, true, false, subst, ℕ, ◌-◌, List, [], ◌++◌, take, drop, length, length-drop, Option, Some, None, Result, Ok, Err, ◌∙◌, sym, ap, append_assoc, append-nil, refl}
use Rattle.std.proofs.Math.Seq.{take-length}
use Rattle.std.proofs.lemmas.List.{take-append-drop}
use Rattle.std.proofs.lemmas.Bool.{ne_eqb}
use Rattle.std.specs.Io.KnownBytes.{Appends}
use Rattle.evl_scenario.specs.declared.faults.Fault.{Fault}
use Rattle.evl_shell.specs.Faults.{WritesPart, WritesLines}
use Rattle.evl_shell.specs.Sinks.{TakesPrefix, Takes, failed_after}

-- two parts in turn
pub Appends-append : (old between new : Option (List ℕ)) (xs ys : List ℕ) → Appends old between xs → Appends between new ys → Appends old new (xs ++ ys)
Appends-append None between new xs ys h k = tt
Appends-append (Some a) None new xs ys h k = absurd h
Appends-append (Some a) (Some b) None xs ys h k = absurd k
Appends-append (Some a) (Some b) (Some c) xs ys h k = k ∙ ap (λ (s : List ℕ). s ++ ys) h ∙ append_assoc a xs ys

-- nothing was written
pub Appends-nil : (told : Option (List ℕ)) → Appends told told []
Appends-nil None = tt
Appends-nil (Some bytes) = sym (append-nil bytes)

-- a part more moves from the back to the front
pub take-append-rest : (front back all : List ℕ) (n : ℕ) → front ++ back ≡ all → (front ++ take n back) ++ take (length back - n) (drop n back) ≡ all
take-append-rest front back all n e =
    rw (← length-drop n back, take-length (drop n back), append_assoc, take-append-drop n back) e

-- a sink that stops after a part more took a front part
pub TakesPrefix-stopped : (old between new : Option (List ℕ)) (front back all : List ℕ) (n : ℕ) → front ++ back ≡ all
    → Appends old between front → Appends between new (take n back) → TakesPrefix old new all
TakesPrefix-stopped old between new front back all n e h k = record {
  front = front ++ take n back;
  back = drop n back;
  whole = append_assoc front (take n back) (drop n back) ∙ ap (λ (s : List ℕ). front ++ s) (take-append-drop n back) ∙ e;
  tells = Appends-append old between new front (take n back) h k;
}

-- nothing is a front part
pub TakesPrefix-nil : (told : Option (List ℕ)) (bytes : List ℕ) → TakesPrefix told told bytes
TakesPrefix-nil told bytes = record { front = []; back = bytes; whole = refl; tells = Appends-nil told }

-- a front part of the first of two texts
pub TakesPrefix-more : (old new : Option (List ℕ)) (shown xs ys : List ℕ) → shown ≡ xs → TakesPrefix old new shown → TakesPrefix old new (xs ++ ys)
TakesPrefix-more old new shown xs ys is took = record {
  front = took.front;
  back = took.back ++ ys;
  whole = sym (append_assoc took.front took.back ys) ∙ ap (λ (s : List ℕ). s ++ ys) (took.whole ∙ is);
  tells = took.tells;
}

-- the first of two texts, and a front part of the second
pub TakesPrefix-next : (old mid new : Option (List ℕ)) (shown xs ys : List ℕ) → shown ≡ xs → Appends old mid shown → TakesPrefix mid new ys
    → TakesPrefix old new (xs ++ ys)
TakesPrefix-next old mid new shown xs ys is h took = record {
  front = shown ++ took.front;
  back = took.back;
  whole = append_assoc shown took.front took.back ∙ (λ i. is i ++ took.whole i);
  tells = Appends-append old mid new shown took.front h took.tells;
}

-- nothing is a part of any trace
pub WritesPart-nothing : (told : Option (List ℕ)) (trace : Result (List ℕ) Fault) → WritesPart told told trace
WritesPart-nothing told (Ok trace) = TakesPrefix-nil told trace
WritesPart-nothing told (Err e) = refl

-- no line is the front of any trace
pub WritesLines-nothing : (told : Option (List ℕ)) (trace : Result (List ℕ) Fault) → WritesLines told told trace
WritesLines-nothing told (Ok trace) = record { lines = []; back = trace; whole = refl; ends = inl refl; tells = Appends-nil told }
WritesLines-nothing told (Err e) = refl

-- a sink that took some of the bytes has failed only where it had failed before
pub still_working : (failed : Bool) (bytes : List ℕ) (taken : ℕ) → (taken ≡ 0 → ⊥) → failed_after failed bytes taken ≡ failed
still_working failed bytes taken some = rw (ne_eqb taken 0 some) refl

-- all of the bytes were taken by a sink that hasn't failed
pub Takes-all : (old new : Option (List ℕ)) (bytes : List ℕ) (failed : Bool) → failed ≡ false → Appends old new bytes → Takes old new bytes failed
Takes-all old new bytes failed working h = let P : Bool → Type 0 = λ b. Takes old new bytes b in subst P (sym working) h

-- a front part was taken by one that has
pub Takes-part : (old new : Option (List ℕ)) (bytes : List ℕ) (failed : Bool) → failed ≡ true → TakesPrefix old new bytes → Takes old new bytes failed
Takes-part old new bytes failed broken h = let P : Bool → Type 0 = λ b. Takes old new bytes b in subst P (sym broken) h

-- the first of two texts, and then the second
pub Takes-next : (old mid new : Option (List ℕ)) (shown xs ys : List ℕ) (failed : Bool) → shown ≡ xs → Appends old mid shown → Takes mid new ys failed
    → Takes old new (xs ++ ys) failed
Takes-next old mid new shown xs ys false is h took =
    let P : List ℕ → Type 0 = λ s. Appends old new (s ++ ys) in subst P is (Appends-append old mid new shown ys h took)
Takes-next old mid new shown xs ys true is h took = TakesPrefix-next old mid new shown xs ys is h took
