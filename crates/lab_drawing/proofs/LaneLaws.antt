-- Lanes are put among sorted ones.
use Rattle.std.proofs.Common.{arith, ◌≡◌, ◌<◌, ◌≤◌, ℕ, suc, ◌+◌, ◌==◌, nat_lt, Bool, true, false, ◌&&◌, ◌||◌, not, List, [], ◌∷◌, if◌then◌else◌, cond, length, drop, get_or, slice_get, Option, Some, None, refl, sym, ap, subst, ◌∙◌}
use Rattle.std.specs.List.{AllByRecursion, insert, list_any, prefix_len}
use Rattle.std.specs.Option.{option_map_or}
use Rattle.std.proofs.lemmas.Bool.{false≢true}
use Rattle.std.proofs.lemmas.List.{drop_more}
use Rattle.lab_drawing.proofs.PageLaws.{drop_short}
use Rattle.lab_drawing.specs.Lanes.{AreSorted, is_above, is_lane, place, with_lane, put_named, put_touched, touches}
use Rattle.lab_drawing.specs.declared.lanes.Lane.{Lane}
use Rattle.lab_drawing.specs.declared.marks.Mark.{Mark}

before_both : (a b c d e f : ℕ) → (nat_lt a c || (a == c && nat_lt b d)) ≡ true → (nat_lt c e || (c == e && nat_lt d f)) ≡ true → (nat_lt a e || (a == e && nat_lt b f)) ≡ true
before_both a b c d e f h k = grind (arith)

same_here : (a b c d e f : ℕ) → (nat_lt a c || (a == c && nat_lt b d)) ≡ false → (nat_lt c a || (c == a && nat_lt d b)) ≡ false → (e == c && f == d) ≡ (e == a && f == b)
same_here a b c d e f h k = grind (arith)

above_both : (a b c : Lane) → is_above a b ≡ true → is_above b c ≡ true → is_above a c ≡ true
above_both a b c h k = before_both (place a).0 (place a).1 (place b).0 (place b).1 (place c).0 (place c).1 h k

all_below : (a b : Lane) (rest : List Lane) → is_above a b ≡ true → AllByRecursion (λ other. is_above b other ≡ true) rest → AllByRecursion (λ other. is_above a other ≡ true) rest
all_below a b [] h all = all
all_below a b (first ∷ rest) h all = (above_both a b first h all.0, all_below a b rest h all.1)

or_swap : (a b c : Bool) → (a || (b || c)) ≡ (b || (a || c))
or_swap true true c = refl
or_swap true false c = refl
or_swap false true c = refl
or_swap false false c = refl

or_twice : (a b c : Bool) → a ≡ b → (b || c) ≡ (a || (b || c))
or_twice true true c e = refl
or_twice true false c e = cc
or_twice false true c e = cc
or_twice false false c e = refl

module _ (lane : Lane) where
  put_below : (a : Lane) (lanes : List Lane) → is_above a lane ≡ true → AllByRecursion (λ other. is_above a other ≡ true) lanes → AllByRecursion (λ other. is_above a other ≡ true) (with_lane lane lanes)
  put_below a [] h all = (h, all)
  put_below a (first ∷ rest) h all = by (is_above first lane) (is_above lane first) (put_below a rest h all.1)
    where
      by : (x y : Bool) → AllByRecursion (λ other. is_above a other ≡ true) (with_lane lane rest)
          → AllByRecursion (λ other. is_above a other ≡ true) (if x then first ∷ with_lane lane rest else if y then lane ∷ first ∷ rest else first ∷ rest)
      by true y more = (all.0, more)
      by false true more = (h, all)
      by false false more = all

  pub put_sorted : (lanes : List Lane) → AreSorted lanes → AreSorted (with_lane lane lanes)
  put_sorted [] s = (tt, tt)
  put_sorted (first ∷ rest) s = by (is_above first lane) (is_above lane first) refl refl (put_sorted rest s.1)
    where
      by : (x y : Bool) → is_above first lane ≡ x → is_above lane first ≡ y → AreSorted (with_lane lane rest)
          → AreSorted (if x then first ∷ with_lane lane rest else if y then lane ∷ first ∷ rest else first ∷ rest)
      by true y e f more = (put_below first rest e s.0, more)
      by false true e f more = ((f, all_below lane first rest f s.0), s)
      by false false e f more = s

  pub put_lanes : (l : Lane) (lanes : List Lane) → list_any (is_lane l) (with_lane lane lanes) ≡ (is_lane l lane || list_any (is_lane l) lanes)
  put_lanes l [] = refl
  put_lanes l (first ∷ rest) = by (is_above first lane) (is_above lane first) refl refl (put_lanes l rest)
    where
      by : (x y : Bool) → is_above first lane ≡ x → is_above lane first ≡ y → list_any (is_lane l) (with_lane lane rest) ≡ (is_lane l lane || list_any (is_lane l) rest)
          → list_any (is_lane l) (if x then first ∷ with_lane lane rest else if y then lane ∷ first ∷ rest else first ∷ rest) ≡ (is_lane l lane || (is_lane l first || list_any (is_lane l) rest))
      by true y e f more = ap (λ (b : Bool). is_lane l first || b) more ∙ or_swap (is_lane l first) (is_lane l lane) (list_any (is_lane l) rest)
      by false true e f more = refl
      by false false e f more =
          or_twice (is_lane l lane) (is_lane l first) (list_any (is_lane l) rest)
          (same_here (place first).0 (place first).1 (place lane).0 (place lane).1 (place l).0 (place l).1 e f)

  pub put_found : (lanes : List Lane) → option_map_or (λ other. not (is_above lane other)) (slice_get lanes (prefix_len (λ other. is_above other lane) lanes)) false ≡ true → lanes ≡ with_lane lane lanes
  put_found [] h = absurd (false≢true h)
  put_found (first ∷ rest) h = by (is_above first lane) (is_above lane first) (1 + n) (omega arith) refl (λ k. put_found rest k) h
    where
      n : ℕ
      n = prefix_len (λ other. is_above other lane) rest

      by : (x y : Bool) (m : ℕ) → m ≡ suc n → is_above lane first ≡ y → (option_map_or (λ other. not (is_above lane other)) (slice_get rest n) false ≡ true → rest ≡ with_lane lane rest)
          → option_map_or (λ other. not (is_above lane other)) (slice_get (first ∷ rest) (cond x m 0)) false ≡ true
          → first ∷ rest ≡ (if x then first ∷ with_lane lane rest else if y then lane ∷ first ∷ rest else first ∷ rest)
      by true y m e f more k =
          ap (λ (r : List Lane). first ∷ r) (more (sym (ap (λ (i : ℕ). option_map_or (λ other. not (is_above lane other)) (slice_get (first ∷ rest) i) false) e) ∙ k))
      by false true m e f more k = absurd (false≢true (sym (ap not f) ∙ k))
      by false false m e f more k = refl

  pub put_new : (lanes : List Lane) → option_map_or (λ other. not (is_above lane other)) (slice_get lanes (prefix_len (λ other. is_above other lane) lanes)) false ≡ false
      → insert lanes (prefix_len (λ other. is_above other lane) lanes) lane ≡ with_lane lane lanes
  put_new [] h = refl
  put_new (first ∷ rest) h = by (is_above first lane) (is_above lane first) (1 + n) (omega arith) refl (λ k. put_new rest k) h
    where
      n : ℕ
      n = prefix_len (λ other. is_above other lane) rest

      by : (x y : Bool) (m : ℕ) → m ≡ suc n → is_above lane first ≡ y → (option_map_or (λ other. not (is_above lane other)) (slice_get rest n) false ≡ false → insert rest n lane ≡ with_lane lane rest)
          → option_map_or (λ other. not (is_above lane other)) (slice_get (first ∷ rest) (cond x m 0)) false ≡ false
          → insert (first ∷ rest) (cond x m 0) lane ≡ (if x then first ∷ with_lane lane rest else if y then lane ∷ first ∷ rest else first ∷ rest)
      by true y m e f more k =
          ap (λ (i : ℕ). insert (first ∷ rest) i lane) e
          ∙ ap (λ (r : List Lane). first ∷ r) (more (sym (ap (λ (i : ℕ). option_map_or (λ other. not (is_above lane other)) (slice_get (first ∷ rest) i) false) e) ∙ k))
      by false true m e f more k = refl
      by false false m e f more k = absurd (false≢true (sym k ∙ ap not f))

  -- whether the lane is at an index of a list that was looked at
  found_at : (lanes seen other : List Lane) (at : ℕ) (r b : Bool) → seen ≡ lanes → other ≡ lanes → at ≡ prefix_len (λ l. is_above l lane) seen
      → r ≡ option_map_or (λ l. not (is_above lane l)) (slice_get other at) false → r ≡ b
      → option_map_or (λ l. not (is_above lane l)) (slice_get lanes (prefix_len (λ l. is_above l lane) lanes)) false ≡ b
  found_at lanes seen other at r b s o a e t =
      sym (e ∙ ap (λ (i : ℕ). option_map_or (λ l. not (is_above lane l)) (slice_get other i) false) (a ∙ ap (prefix_len (λ l. is_above l lane)) s)
      ∙ ap (λ (xs : List Lane). option_map_or (λ l. not (is_above lane l)) (slice_get xs (prefix_len (λ l. is_above l lane) lanes)) false) o) ∙ t

  pub put_stays : (lanes seen other : List Lane) (at : ℕ) (r : Bool) → seen ≡ lanes → other ≡ lanes → at ≡ prefix_len (λ l. is_above l lane) seen
      → r ≡ option_map_or (λ l. not (is_above lane l)) (slice_get other at) false → r ≡ true → lanes ≡ with_lane lane lanes
  put_stays lanes seen other at r s o a e t = put_found lanes (found_at lanes seen other at r true s o a e t)

  pub put_inserts : (lanes seen other new : List Lane) (at : ℕ) (r : Bool) → seen ≡ lanes → other ≡ lanes → at ≡ prefix_len (λ l. is_above l lane) seen
      → r ≡ option_map_or (λ l. not (is_above lane l)) (slice_get other at) false → r ≡ false → new ≡ insert lanes at lane → new ≡ with_lane lane lanes
  put_inserts lanes seen other new at r s o a e t n =
      n ∙ ap (λ (i : ℕ). insert lanes i lane) (a ∙ ap (prefix_len (λ l. is_above l lane)) s) ∙ put_new lanes (found_at lanes seen other at r false s o a e t)

-- ---- the lanes that a mark touches

put_named_sorted : (names : Option Lane) (lanes : List Lane) → AreSorted lanes → AreSorted (put_named names lanes)
put_named_sorted None lanes s = s
put_named_sorted (Some lane) lanes s = put_sorted lane lanes s

pub touched_sorted : (marks : List Mark) (i : ℕ) (d : Mark) (lanes new : List Lane) → new ≡ put_touched (get_or marks i d) lanes → AreSorted lanes → AreSorted new
touched_sorted marks i d lanes new e s =
    let mark = get_or marks i d in
    subst AreSorted (sym e) (put_named_sorted mark.names (with_lane mark.lane lanes) (put_sorted mark.lane lanes s))

named_lanes : (l lane : Lane) (names : Option Lane) (lanes : List Lane)
    → list_any (is_lane l) (put_named names (with_lane lane lanes)) ≡ ((is_lane l lane || option_map_or (is_lane l) names false) || list_any (is_lane l) lanes)
named_lanes l lane None lanes = put_lanes lane l lanes ∙ none (is_lane l lane) (list_any (is_lane l) lanes)
  where
    none : (a b : Bool) → (a || b) ≡ ((a || false) || b)
    none true b = refl
    none false b = refl
named_lanes l lane (Some other) lanes =
    put_lanes other l (with_lane lane lanes) ∙ ap (λ (b : Bool). is_lane l other || b) (put_lanes lane l lanes) ∙ both (is_lane l other) (is_lane l lane) (list_any (is_lane l) lanes)
  where
    both : (a b c : Bool) → (a || (b || c)) ≡ ((b || a) || c)
    both true true c = refl
    both true false c = refl
    both false true c = refl
    both false false c = refl

pub touched_lanes : (l : Lane) (mark : Mark) (lanes : List Lane) → list_any (is_lane l) (put_touched mark lanes) ≡ (touches l mark || list_any (is_lane l) lanes)
touched_lanes l mark lanes = named_lanes l mark.lane mark.names lanes

-- one mark more
pub one_touched : (marks : List Mark) (i : ℕ) (d : Mark) (lanes new : List Lane) → i < length marks → new ≡ put_touched (get_or marks i d) lanes
    → ((l : Lane) → (list_any (is_lane l) lanes || list_any (touches l) (drop i marks)) ≡ list_any (touches l) marks)
    → (l : Lane) → (list_any (is_lane l) new || list_any (touches l) (drop (i + 1) marks)) ≡ list_any (touches l) marks
one_touched marks i d lanes new h e all l =
    ap (λ (ls : List Lane). list_any (is_lane l) ls || list_any (touches l) (drop (i + 1) marks)) e
    ∙ ap (λ (b : Bool). b || list_any (touches l) (drop (i + 1) marks)) (touched_lanes l (get_or marks i d) lanes)
    ∙ move (touches l (get_or marks i d)) (list_any (is_lane l) lanes) (list_any (touches l) (drop (i + 1) marks))
    ∙ ap (λ (ms : List Mark). list_any (is_lane l) lanes || list_any (touches l) ms) (sym (drop_more marks i d h))
    ∙ all l
  where
    move : (a b c : Bool) → ((a || b) || c) ≡ (b || (a || c))
    move true true c = refl
    move true false c = refl
    move false true c = refl
    move false false c = refl

or_false : (a : Bool) → a ≡ (a || false)
or_false true = refl
or_false false = refl

-- no mark is left
pub all_touched : (marks : List Mark) (i : ℕ) (lanes : List Lane) → length marks ≤ i → ((l : Lane) → (list_any (is_lane l) lanes || list_any (touches l) (drop i marks)) ≡ list_any (touches l) marks)
    → (l : Lane) → list_any (is_lane l) lanes ≡ list_any (touches l) marks
all_touched marks i lanes h all l =
    or_false (list_any (is_lane l) lanes) ∙ ap (λ (ms : List Mark). list_any (is_lane l) lanes || list_any (touches l) ms) (sym (drop_short marks i h)) ∙ all l
