-- Bytes that wait for a sink, and are handed on in parts.
use Rattle.std.proofs.Common.{◌≡◌, ℕ, List, [], ◌++◌, Bool, true, false, Option, Err, ◌∙◌, sym, ap, append_assoc, append-nil, subst, refl}
use Rattle.std.specs.Io.KnownBytes.{Appends}
use Rattle.evl_scenario.proofs.LineLemmas.{lines-append}
use Rattle.evl_scenario.specs.Faults.{IsRefusal}
use Rattle.evl_scenario.specs.Lines.{AreLines}
use Rattle.evl_scenario.specs.declared.faults.Fault.{Fault}
use Rattle.evl_scenario.specs.declared.faults.Fault.TheVariants.{Text, Board, Step, Memory, Write}
use Rattle.evl_shell.specs.Faults.{Stopped, is_write_fault}
use Rattle.evl_shell.specs.Sinks.{TakesPrefix, Passes, HandsOn}
use Rattle.evl_shell.proofs.SinkLemmas.{Appends-append, Appends-nil}

-- no bytes
pub Passes-nil : (told : Option (List ℕ)) (waited : List ℕ) → Passes told waited told waited []
Passes-nil told waited = record { front = []; whole = sym (append-nil waited); tells = Appends-nil told }

-- some bytes and then more
pub Passes-append : (old mid new : Option (List ℕ)) (waited between waiting xs ys : List ℕ)
    → Passes old waited mid between xs → Passes mid between new waiting ys → Passes old waited new waiting (xs ++ ys)
Passes-append old mid new waited between waiting xs ys h k = record {
  front = h.front ++ k.front;
  whole = append_assoc h.front k.front waiting ∙ ap (λ (s : List ℕ). h.front ++ s) k.whole ∙ sym (append_assoc h.front between ys)
      ∙ ap (λ (s : List ℕ). s ++ ys) h.whole ∙ append_assoc waited xs ys;
  tells = Appends-append old mid new h.front k.front h.tells k.tells;
}

-- some bytes, and then the next ones
pub Passes-on : (old mid new : Option (List ℕ)) (waited between waiting done line rest all : List ℕ) → done ++ (line ++ rest) ≡ all
    → Passes old waited mid between done → Passes mid between new waiting line
    → (more : List ℕ) × (more ++ rest ≡ all) × Passes old waited new waiting more × (AreLines done → AreLines line → AreLines more)
Passes-on old mid new waited between waiting done line rest all e h k =
    (done ++ line, append_assoc done line rest ∙ e, Passes-append old mid new waited between waiting done line h k, lines-append done line)

-- all of the bytes, and then all that still waits
pub Appends-flush : (old mid new : Option (List ℕ)) (waited waiting bytes : List ℕ) → waited ≡ [] → Passes old waited mid waiting bytes → Appends mid new waiting
    → Appends old new bytes
Appends-flush old mid new waited waiting bytes none h k =
    let P : List ℕ → Type 0 = λ s. Appends old new s in
    subst P (h.whole ∙ ap (λ (s : List ℕ). s ++ bytes) none) (Appends-append old mid new h.front waiting h.tells k)

-- both texts
pub Passes-both : (old mid new : Option (List ℕ)) (waited between waiting head rest all : List ℕ) → head ++ rest ≡ all
    → Passes old waited mid between head → Passes mid between new waiting rest → Passes old waited new waiting all
Passes-both old mid new waited between waiting head rest all e h k =
    let P : List ℕ → Type 0 = λ s. Passes old waited new waiting s in
    subst P e (Passes-append old mid new waited between waiting head rest h k)

-- what stopped some bytes stopped more
pub Stopped-more : (old new : Option (List ℕ)) (waited xs ys : List ℕ) (failed : Bool) (fault : Fault) → Stopped old waited new xs failed fault
    → Stopped old waited new (xs ++ ys) failed fault
Stopped-more old new waited xs ys failed Text h = absurd h
Stopped-more old new waited xs ys failed Board h = absurd h
Stopped-more old new waited xs ys failed (Step n) h = absurd h
Stopped-more old new waited xs ys failed Memory h = (
  record {
    lines = h.0.lines;
    back = h.0.back ++ ys;
    whole = sym (append_assoc h.0.lines h.0.back ys) ∙ ap (λ (s : List ℕ). s ++ ys) h.0.whole;
    ends = h.0.ends;
    tells = h.0.tells;
  },
  h.1,
)
Stopped-more old new waited xs ys failed Write h = (
  record {
    front = h.0.front;
    back = h.0.back ++ ys;
    whole = sym (append_assoc h.0.front h.0.back ys) ∙ ap (λ (s : List ℕ). s ++ ys) h.0.whole ∙ append_assoc waited xs ys;
    tells = h.0.tells;
  },
  h.1,
)

-- what stopped the first of two texts stopped both
pub Stopped-front : (old new : Option (List ℕ)) (waited head rest all : List ℕ) (failed : Bool) (fault : Fault) → head ++ rest ≡ all
    → Stopped old waited new head failed fault → Stopped old waited new all failed fault
Stopped-front old new waited head rest all failed fault e h =
    let P : List ℕ → Type 0 = λ s. Stopped old waited new s failed fault in subst P e (Stopped-more old new waited head rest failed fault h)

-- whole lines passed, and what waited after them was written with whole lines at the front of the next ones
lines-after : (old mid new : Option (List ℕ)) (waited between done line rest all : List ℕ) → done ++ (line ++ rest) ≡ all → Passes old waited mid between done → AreLines done
    → HandsOn mid between new line → HandsOn old waited new all
lines-after old mid new waited between done line rest all e h ends k =
    let P : List ℕ → Type 0 = λ s. Appends old new s in
    record {
      lines = done ++ k.lines;
      back = k.back ++ rest;
      whole = append_assoc done k.lines (k.back ++ rest)
          ∙ ap (λ (s : List ℕ). done ++ s) (sym (append_assoc k.lines k.back rest) ∙ ap (λ (s : List ℕ). s ++ rest) k.whole) ∙ e;
      ends = lines-append done k.lines ends k.ends;
      tells = subst P (sym (append_assoc h.front between k.lines) ∙ ap (λ (s : List ℕ). s ++ k.lines) h.whole ∙ append_assoc waited done k.lines)
          (Appends-append old mid new h.front (between ++ k.lines) h.tells k.tells);
    }

-- some bytes passed, and then a front part of what waited after them and of the next ones was written
part-after : (old mid new : Option (List ℕ)) (waited between done line rest all : List ℕ) → done ++ (line ++ rest) ≡ all → Passes old waited mid between done
    → TakesPrefix mid new (between ++ line) → TakesPrefix old new (waited ++ all)
part-after old mid new waited between done line rest all e h k = record {
  front = h.front ++ k.front;
  back = k.back ++ rest;
  whole = append_assoc h.front k.front (k.back ++ rest)
      ∙ ap (λ (s : List ℕ). h.front ++ s) (sym (append_assoc k.front k.back rest) ∙ ap (λ (s : List ℕ). s ++ rest) k.whole ∙ append_assoc between line rest)
      ∙ sym (append_assoc h.front between (line ++ rest)) ∙ ap (λ (s : List ℕ). s ++ (line ++ rest)) h.whole ∙ append_assoc waited done (line ++ rest)
      ∙ ap (λ (s : List ℕ). waited ++ s) e;
  tells = Appends-append old mid new h.front k.front h.tells k.tells;
}

-- whole lines passed, and then the next ones stopped
pub Stopped-after : (old mid new : Option (List ℕ)) (waited between done line rest all : List ℕ) (failed : Bool) (fault : Fault) → done ++ (line ++ rest) ≡ all
    → Passes old waited mid between done → AreLines done → Stopped mid between new line failed fault → Stopped old waited new all failed fault
Stopped-after old mid new waited between done line rest all failed Text e h ends k = absurd k
Stopped-after old mid new waited between done line rest all failed Board e h ends k = absurd k
Stopped-after old mid new waited between done line rest all failed (Step n) e h ends k = absurd k
Stopped-after old mid new waited between done line rest all failed Memory e h ends k =
    (lines-after old mid new waited between done line rest all e h ends k.0, k.1)
Stopped-after old mid new waited between done line rest all failed Write e h ends k =
    (part-after old mid new waited between done line rest all e h k.0, k.1)

-- the first of two texts passed, and then the second stopped
pub Stopped-second : (old mid new : Option (List ℕ)) (waited between head rest all : List ℕ) (failed : Bool) (fault : Fault) → head ++ rest ≡ all
    → Passes old waited mid between head → AreLines head → Stopped mid between new rest failed fault → Stopped old waited new all failed fault
Stopped-second old mid new waited between head rest all failed fault e h ends k =
    let P : List ℕ → Type 0 = λ s. head ++ s ≡ all in
    Stopped-after old mid new waited between head rest [] all failed fault (subst P (sym (append-nil rest)) e) h ends k

-- all of the bytes passed, and then the sink failed at what still waited
pub Stopped-flush : (old mid new : Option (List ℕ)) (waited waiting bytes : List ℕ) (failed : Bool) → waited ≡ [] → Passes old waited mid waiting bytes
    → TakesPrefix mid new waiting → failed ≡ true → Stopped old [] new bytes failed Write
Stopped-flush old mid new waited waiting bytes failed none h k broken = (
  record {
    front = h.front ++ k.front;
    back = k.back;
    whole = append_assoc h.front k.front k.back ∙ ap (λ (s : List ℕ). h.front ++ s) k.whole ∙ h.whole ∙ ap (λ (s : List ℕ). s ++ bytes) none;
    tells = Appends-append old mid new h.front k.front h.tells k.tells;
  },
  broken,
)

-- nothing waited
pub Stopped-none : (old new : Option (List ℕ)) (waited bytes : List ℕ) (failed : Bool) (fault : Fault) → waited ≡ [] → Stopped old waited new bytes failed fault
    → Stopped old [] new bytes failed fault
Stopped-none old new waited bytes failed fault none h = let P : List ℕ → Type 0 = λ s. Stopped old s new bytes failed fault in subst P none h

-- nor at a fault of the text
pub refused-fails : (fault : Fault) → IsRefusal fault → is_write_fault (Err fault) ≡ false
refused-fails Text refusal = refl
refused-fails Board refusal = refl
refused-fails (Step n) refusal = refl
refused-fails Memory refusal = absurd refusal
refused-fails Write refusal = absurd refusal
