-- Services one after another, and their bytes in the same order.
use Rattle.std.proofs.Common.{◌≡◌, ℕ, ◌≤◌, ◌-◌, Bool, true, false, List, [], ◌∷◌, ◌++◌, length, take, drop, slice_range, if◌then◌else◌, refl, sym, ap, ◌∙◌, append_assoc, append-nil, length-append, length-drop, arith}
use Rattle.std.specs.List.{AllByRecursion}
use Rattle.std.proofs.lemmas.List.{take-append-le, drop-append-le, map-append}
use Rattle.std.proofs.Math.Seq.{take-append_seam, drop-append_seam}
use Rattle.evl_xbuf.specs.declared.services.Turn.{Turn}
use Rattle.evl_xbuf.specs.Streams.{Service, Wrote, Got}
use Rattle.evl_xbuf.specs.Services.{read_by, service_of, services, AreTurns}

pub read_by-append : (xs ys : List Service) → read_by (xs ++ ys) ≡ read_by xs ++ read_by ys
read_by-append [] ys = refl
read_by-append (Wrote thread ∷ xs) ys = read_by-append xs ys
read_by-append (Got thread bytes ∷ xs) ys = ap (λ rest. bytes ++ rest) (read_by-append xs ys) ∙ sym (append_assoc bytes (read_by xs) (read_by ys))

abbrev Lies : List ℕ → Turn → Type 0
Lies bytes turn = (turn.start ≤ turn.end) × (turn.end ≤ length bytes)

all-last : {A : Type 0} (P : A → Type 0) (xs : List A) (x : A) → AllByRecursion P xs → P x → AllByRecursion P (xs ++ x ∷ [])
all-last P [] x h p = (p, tt)
all-last P (y ∷ ys) x h p = (h.0, all-last P ys x h.1 p)

-- what is there stays as it is when bytes are put after it
same_range : (bytes more : List ℕ) (a b : ℕ) → a ≤ b → b ≤ length bytes → slice_range (bytes ++ more) a b ≡ slice_range bytes a b
same_range bytes more a b l h =
    let short : b - a ≤ length (drop a bytes) = omega (arith, length-drop a bytes) in
    ap (take (b - a)) (drop-append-le a bytes more (omega arith)) ∙ take-append-le (b - a) (drop a bytes) more short

same_service : (bytes more : List ℕ) (turn : Turn) → Lies bytes turn → service_of (bytes ++ more) turn ≡ service_of bytes turn
same_service bytes more turn l = by turn.reads
  where
    by : (b : Bool) → (if b then Got turn.thread (slice_range (bytes ++ more) turn.start turn.end) else Wrote turn.thread)
        ≡ (if b then Got turn.thread (slice_range bytes turn.start turn.end) else Wrote turn.thread)
    by true = ap (Got turn.thread) (same_range bytes more turn.start turn.end l.0 l.1)
    by false = refl

same_services : (bytes more : List ℕ) (turns : List Turn) → AllByRecursion (Lies bytes) turns → services (bytes ++ more) turns ≡ services bytes turns
same_services bytes more [] l = refl
same_services bytes more (turn ∷ turns) l = ap (λ x. x ∷ services (bytes ++ more) turns) (same_service bytes more turn l.0) ∙ ap (λ xs. service_of bytes turn ∷ xs) (same_services bytes more turns l.1)

longer : (bytes more : List ℕ) (turns : List Turn) → AllByRecursion (Lies bytes) turns → AllByRecursion (Lies (bytes ++ more)) turns
longer bytes more [] l = tt
longer bytes more (turn ∷ turns) l = ((l.0.0, omega (arith, l.0.1, length-append bytes more)), longer bytes more turns l.1)

-- a writer was served
abbrev writes : ℕ → Turn
writes thread = record { thread = thread; reads = false; start = 0; end = 0 }

pub services-wrote : (bytes : List ℕ) (turns : List Turn) (thread : ℕ) → services bytes (turns ++ writes thread ∷ []) ≡ services bytes turns ++ Wrote thread ∷ []
services-wrote bytes turns thread = map-append (service_of bytes) turns (writes thread ∷ [])

pub turns-wrote : (bytes : List ℕ) (turns : List Turn) (thread : ℕ) → AreTurns bytes turns → AreTurns bytes (turns ++ writes thread ∷ [])
turns-wrote bytes turns thread h = record {
  within = all-last (Lies bytes) turns (writes thread) h.within (omega arith, omega arith);
  whole = ap read_by (services-wrote bytes turns thread) ∙ read_by-append (services bytes turns) (Wrote thread ∷ []) ∙ append-nil (read_by (services bytes turns)) ∙ h.whole;
}

-- a reader was served with the bytes that are now after the others
abbrev reads : ℕ → ℕ → ℕ → Turn
reads thread start end = record { thread = thread; reads = true; start = start; end = end }

last_range : (bytes more : List ℕ) (start end : ℕ) → start ≡ length bytes → end ≡ length (bytes ++ more) → slice_range (bytes ++ more) start end ≡ more
last_range bytes more start end s e =
    let n : end - start ≡ length more = omega (arith, s, e, length-append bytes more) in
    rw (n, s) (ap (take (length more)) (drop-append_seam bytes more) ∙ ap (take (length more)) (sym (append-nil more)) ∙ take-append_seam more [])

pub services-got : (bytes more : List ℕ) (turns : List Turn) (thread start end : ℕ) → start ≡ length bytes → end ≡ length (bytes ++ more) → AllByRecursion (Lies bytes) turns
    → services (bytes ++ more) (turns ++ reads thread start end ∷ []) ≡ services bytes turns ++ Got thread more ∷ []
services-got bytes more turns thread start end s e l =
    map-append (service_of (bytes ++ more)) turns (reads thread start end ∷ [])
    ∙ ap (λ xs. services (bytes ++ more) turns ++ Got thread xs ∷ []) (last_range bytes more start end s e)
    ∙ ap (λ xs. xs ++ Got thread more ∷ []) (same_services bytes more turns l)

pub turns-got : (bytes more : List ℕ) (turns : List Turn) (thread start end : ℕ) → start ≡ length bytes → end ≡ length (bytes ++ more) → AreTurns bytes turns
    → AreTurns (bytes ++ more) (turns ++ reads thread start end ∷ [])
turns-got bytes more turns thread start end s e h = record {
  within = all-last (Lies (bytes ++ more)) turns (reads thread start end) (longer bytes more turns h.within) (omega (arith, s, e, length-append bytes more), omega (arith, e));
  whole = ap read_by (services-got bytes more turns thread start end s e h.within) ∙ read_by-append (services bytes turns) (Got thread more ∷ [])
      ∙ ap (λ xs. read_by (services bytes turns) ++ xs) (append-nil more) ∙ ap (λ xs. xs ++ more) h.whole;
}
