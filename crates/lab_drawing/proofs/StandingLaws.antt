-- Moments come one after the other.
use Rattle.std.proofs.Common.{arith, ◌≡◌, ◌<◌, ℕ, ◌+◌, ◌-◌, Bool, true, false, List, [], ◌∷◌, ◌++◌, append_assoc, append-nil, length, map, filter, drop, get_or, slice_get, if◌then◌else◌, Option, Some, None, option_map, unwrap_or, refl, sym, ap, ◌∙◌}
use Rattle.std.proofs.lemmas.List.{drop_more}
use Rattle.std.specs.List.{last_or}
use Rattle.std.specs.Option.{option_map_or}
use Rattle.lab_drawing.specs.Marks.{is_entry, line_of}
use Rattle.lab_drawing.specs.Standings.{Told, all_told, at_first, entry_lines, last_told, told_after, told_at, told_behind}
use Rattle.lab_drawing.specs.declared.marks.Mark.{Mark}
use Rattle.lab_drawing.specs.declared.moments.Moment.{Moment}

-- ---- the last of some

last_at : {X : Type 0} (xs : List X) → last_or None xs ≡ slice_get xs (length xs - 1)
last_at [] = refl
last_at (x ∷ xs) =
    let size : length xs ≡ length (x ∷ xs) - 1 = omega arith in
    by x xs ∙ ap (slice_get (x ∷ xs)) size
  where
    by : {X : Type 0} (x : X) (xs : List X) → last_or (Some x) xs ≡ slice_get (x ∷ xs) (length xs)
    by x [] = refl
    by x (y ∷ xs) = by y xs

last_mapped : {X Y : Type 0} (f : X → Y) (o : Option X) (xs : List X) → last_or (option_map f o) (map f xs) ≡ option_map f (last_or o xs)
last_mapped f o [] = refl
last_mapped f o (x ∷ xs) = last_mapped f (Some x) xs

last_pushed : {X : Type 0} (o : Option X) (xs : List X) (x : X) → last_or o (xs ++ x ∷ []) ≡ Some x
last_pushed o [] x = refl
last_pushed o (y ∷ xs) x = last_pushed (Some y) xs x

-- the last of some moments, where it was read
pub last_is : (moments : List Moment) (o : Option Moment) → o ≡ slice_get moments (length moments - 1) → last_told (map told_at moments) ≡ option_map_or told_at o at_first
last_is moments o e =
    ap (λ (l : Option Told). unwrap_or l at_first) (last_mapped told_at None moments ∙ ap (option_map told_at) (last_at moments ∙ sym e)) ∙ by o
  where
    by : (o : Option Moment) → unwrap_or (option_map told_at o) at_first ≡ option_map_or told_at o at_first
    by None = refl
    by (Some moment) = refl

-- ---- one mark more

abbrev told_more : List Told → Mark → List Told
told_more told mark = told ++ (if is_entry mark then told_after (last_told told) mark.line.now ∷ [] else [])

one_told : (told : List Told) (line : List ℕ) (rest : List (List ℕ)) → (told ++ told_after (last_told told) line ∷ []) ++ told_behind (last_told (told ++ told_after (last_told told) line ∷ [])) rest ≡ told ++ told_behind (last_told told) (line ∷ rest)
one_told told line rest =
    let next : Told = told_after (last_told told) line in
    let last : last_told (told ++ next ∷ []) ≡ next = ap (λ (l : Option Told). unwrap_or l at_first) (last_pushed None told next) in
    ap (λ (t : Told). (told ++ next ∷ []) ++ told_behind t rest) last ∙ append_assoc told (next ∷ []) (told_behind next rest)

mark_told : (told : List Told) (mark : Mark) (rest : List Mark) → told_more told mark ++ told_behind (last_told (told_more told mark)) (entry_lines rest) ≡ told ++ told_behind (last_told told) (entry_lines (mark ∷ rest))
mark_told told mark rest = by (is_entry mark)
  where
    by : (b : Bool) → (told ++ (if b then told_after (last_told told) mark.line.now ∷ [] else [])) ++ told_behind (last_told (told ++ (if b then told_after (last_told told) mark.line.now ∷ [] else []))) (entry_lines rest)
        ≡ told ++ told_behind (last_told told) (map line_of (if b then mark ∷ filter is_entry rest else filter is_entry rest))
    by true = one_told told mark.line.now (entry_lines rest)
    by false = ap (λ (t : List Told). t ++ told_behind (last_told t) (entry_lines rest)) (append-nil told)

-- one mark more of those that are left
pub told_step : (marks : List Mark) (i : ℕ) (d : Mark) (old new : List Told) → i < length marks → new ≡ told_more old (get_or marks i d)
    → old ++ told_behind (last_told old) (entry_lines (drop i marks)) ≡ all_told marks → new ++ told_behind (last_told new) (entry_lines (drop (i + 1) marks)) ≡ all_told marks
told_step marks i d old new inside e whole =
    ap (λ (t : List Told). t ++ told_behind (last_told t) (entry_lines (drop (i + 1) marks))) e
    ∙ mark_told old (get_or marks i d) (drop (i + 1) marks)
    ∙ ap (λ (ms : List Mark). old ++ told_behind (last_told old) (entry_lines ms)) (sym (drop_more marks i d inside)) ∙ whole
