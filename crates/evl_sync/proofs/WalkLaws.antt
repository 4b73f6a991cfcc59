-- One walk through the waiters, as it goes on from place to place.
use Rattle.std.proofs.Common.{◌≡◌, ◌<◌, ℕ, zero, suc, ◌+◌, bit_xor, List, [], ◌∷◌, ◌++◌, length, map, take, drop, remove, get_or, Option, Some, None, refl, sym, ap, ◌∙◌, arith}
use Rattle.std.proofs.lemmas.List.{append-nil, append_assoc, drop_more, map-append, take_more, take-append-drop}
use Rattle.evl_base.specs.declared.numbers.ThreadId.{ThreadId}
use Rattle.evl_sync.specs.declared.flag_waiter.FlagWaiter.{FlagWaiter}
use Rattle.evl_sync.specs.declared.flag_waiter.TakenBits.{TakenBits}
use Rattle.evl_sync.specs.FlagGroups.{Rests, Walk, left_of, pairs, waiter_passed, bits_taken, walk_after, walk_of}

pub by_suc : (n : ℕ) → n + 1 ≡ suc n
by_suc n = omega arith

module _ {A : Type 0} where
  -- a waiter that leaves a place leaves those before it there, and those after it move up
  take-removed : (n : ℕ) (ws : List A) → take n (remove ws n) ≡ take n ws
  take-removed zero ws = refl
  take-removed (suc n) [] = refl
  take-removed (suc n) (w ∷ ws) = ap (λ xs. w ∷ xs) (take-removed n ws)

  drop-removed : (n : ℕ) (ws : List A) → drop n (remove ws n) ≡ drop (suc n) ws
  drop-removed zero [] = refl
  drop-removed zero (w ∷ ws) = refl
  drop-removed (suc n) [] = refl
  drop-removed (suc n) (w ∷ ws) = drop-removed n ws

-- what is said so far of a walk from a place on
abbrev pub walking : List TakenBits → List FlagWaiter → ℕ → ℕ → Walk
walking served ws place left = walk_after (pairs served) (take place ws) (walk_of (drop place ws) left)

module _ (served : List TakenBits) (ws : List FlagWaiter) (place left : ℕ) (w : FlagWaiter) (is : drop place ws ≡ w ∷ drop (suc place) ws) where
  abbrev rest : Option ℕ → Walk
  rest got = walk_of (drop (suc place) ws) (left_of left got)

  here : (got : Option ℕ) → got ≡ bits_taken w.kind left → walking served ws place left ≡ walk_after (pairs served) (take place ws) (waiter_passed w got (rest got))
  here got e = ap (λ xs. walk_after (pairs served) (take place ws) (walk_of xs left)) is ∙ ap (λ o. walk_after (pairs served) (take place ws) (waiter_passed w o (rest o))) (sym e)

  pub walk-served : (got : ℕ) (one : TakenBits) (after : List FlagWaiter) → Some got ≡ bits_taken w.kind left → one ≡ record { thread = record { 0 = w.thread }; bits = got } → after ≡ remove ws place
      → walking (served ++ one ∷ []) after place (bit_xor left got) ≡ walking served ws place left
  walk-served got one after e o r =
      (λ i. walk_after (pairs (served ++ o i ∷ [])) (take place (r i)) (walk_of (drop place (r i)) (bit_xor left got)))
      ∙ (λ i. walk_after (map-append (λ (s : TakenBits). (s.thread.0, s.bits)) served (record { thread = record { 0 = w.thread }; bits = got } ∷ []) i) (take-removed place ws i) (walk_of (drop-removed place ws i) (bit_xor left got)))
      ∙ (λ i. record { served = append_assoc (pairs served) ((w.thread, got) ∷ []) (rest (Some got)).served i; waiting = take place ws ++ (rest (Some got)).waiting; left = (rest (Some got)).left })
      ∙ sym (here (Some got) e)

-- a thread that leaves takes nobody's rest away
pub rests-removed : (bits n : ℕ) (ws : List FlagWaiter) → Rests bits ws → Rests bits (remove ws n)
rests-removed bits zero [] rests = tt
rests-removed bits zero (w ∷ ws) rests = rests.1
rests-removed bits (suc n) [] rests = tt
rests-removed bits (suc n) (w ∷ ws) rests = (rests.0, rests-removed bits n ws rests.1)

rests-dropped : (bits n : ℕ) (ws : List FlagWaiter) → Rests bits ws → Rests bits (drop n ws)
rests-dropped bits zero ws rests = rests
rests-dropped bits (suc n) [] rests = tt
rests-dropped bits (suc n) (w ∷ ws) rests = rests-dropped bits n ws rests.1

-- with no bits left nobody is served
walk-nothing : (ws : List FlagWaiter) → Rests 0 ws → walk_of ws 0 ≡ record { served = []; waiting = ws; left = 0 }
walk-nothing [] rests = refl
walk-nothing (w ∷ ws) rests =
    ap (λ (o : Option ℕ). waiter_passed w o (walk_of ws (left_of 0 o))) rests.0 ∙ ap (λ (rest : Walk). waiter_passed w None rest) (walk-nothing ws rests.1)

pub walking-nothing : (served : List TakenBits) (ws : List FlagWaiter) (place : ℕ) → Rests 0 ws → walking served ws place 0 ≡ record { served = pairs served; waiting = ws; left = 0 }
walking-nothing served ws place rests =
    ap (walk_after (pairs served) (take place ws)) (walk-nothing (drop place ws) (rests-dropped 0 place ws rests))
    ∙ (λ i. record { served = append-nil (pairs served) i; waiting = take-append-drop place ws i; left = 0 })

-- so the walk has ended there
pub walk-ended : (served : List TakenBits) (ws : List FlagWaiter) (place left : ℕ) (all : Walk) → Rests 0 ws → left ≡ 0 → walking served ws place left ≡ all → record { served = pairs served; waiting = ws; left = 0 } ≡ all
walk-ended served ws place left all rests none whole = sym (walking-nothing served ws place rests) ∙ (ap (λ (n : ℕ). walking served ws place n) (sym none) ∙ whole)
