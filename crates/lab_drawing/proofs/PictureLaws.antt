-- The waits of a picture, lane by lane, and how many of its marks are those of entries.
use Rattle.std.proofs.Common.{arith, ◌≡◌, ◌≤◌, ◌<◌, ℕ, ◌+◌, ◌-◌, ◌^◌, min, Bool, true, false, List, [], ◌∷◌, ◌++◌, append_assoc, append-nil, count_by, length, map, take, drop, set, get_or, refl, sym, ap, ◌∙◌, if◌then◌else◌}
use Rattle.std.proofs.lemmas.List.{drop_more, drop-set-lt, length-map, take_more, take_more_set}
use Rattle.std.proofs.lemmas.List.Sums.{count_by_more_no, count_by_more_yes, count_by-le-length, fold_push}
use Rattle.lab_drawing.specs.Marks.{is_entry}
use Rattle.lab_drawing.specs.Pictures.{goes_on, goes_on_behind, wait_behind, waits_of}
use Rattle.lab_drawing.specs.declared.lanes.Lane.{Lane}
use Rattle.lab_drawing.specs.declared.marks.Mark.{Mark}
use Rattle.lab_drawing.proofs.PageLaws.{drop_short, length_taken, take_short}

pub made_more : {X Y : Type 0} (f : X → Y) (xs : List X) (i : ℕ) (d : X) (old new whole : List Y) → i < length xs → new ≡ old ++ f (get_or xs i d) ∷ [] → old ++ map f (drop i xs) ≡ whole
    → new ++ map f (drop (i + 1) xs) ≡ whole
made_more {X} {Y} f xs i d old new whole h e w =
    ap (λ (x : List Y). x ++ map f (drop (i + 1) xs)) e ∙ append_assoc old (f (get_or xs i d) ∷ []) (map f (drop (i + 1) xs))
    ∙ ap (λ (ys : List X). old ++ map f ys) (sym (drop_more xs i d h)) ∙ w

pub written_more : {X : Type 0} (f : X → X) (xs : List X) (i : ℕ) (d v : X) (whole : List X) → i < length xs → v ≡ f (get_or xs i d) → take i xs ++ map f (drop i xs) ≡ whole
    → take (i + 1) (set xs i v) ++ map f (drop (i + 1) (set xs i v)) ≡ whole
written_more {X} f xs i d v whole h e w =
    ap (λ (x : List X). x ++ map f (drop (i + 1) (set xs i v))) (take_more_set xs i v h)
    ∙ ap (λ (x : List X). (take i xs ++ v ∷ []) ++ map f x) (drop-set-lt (i + 1) xs i v (omega arith))
    ∙ append_assoc (take i xs) (v ∷ []) (map f (drop (i + 1) xs))
    ∙ ap (λ (x : X). take i xs ++ x ∷ map f (drop (i + 1) xs)) e
    ∙ ap (λ (x : List X). take i xs ++ map f x) (sym (drop_more xs i d h))
    ∙ w

noted : (lanes : List Lane) (marks : List Mark) (mark : Mark) → map (wait_behind mark) (waits_of lanes marks) ≡ waits_of lanes (marks ++ mark ∷ [])
noted [] marks mark = refl
noted (lane ∷ rest) marks mark =
    ap (λ (b : Bool). (lane, b) ∷ map (wait_behind mark) (waits_of rest marks)) (sym (fold_push (goes_on_behind lane) false marks mark))
    ∙ ap (λ (x : List (Lane × Bool)). (lane, goes_on (marks ++ mark ∷ []) lane) ∷ x) (noted rest marks mark)

-- what is written into a list, as long as it is, is the list then
pub written_back : {X : Type 0} (items new : List X) (len : ℕ) → len ≡ length items → length new ≡ length items → take len (new ++ drop (length new) items) ≡ new
written_back {X} items new len h k =
    ap (λ (x : List X). take len (new ++ x)) (drop_short items (length new) (omega arith)) ∙ ap (take len) (append-nil new) ∙ take_short new len (omega arith)

pub waits_more : (lanes : List Lane) (marks : List Mark) (i : ℕ) (d : Mark) (items old new : List (Lane × Bool)) (len : ℕ) → i < length marks → len ≡ length items → old ≡ items
    → new ≡ map (wait_behind (get_or marks i d)) old → items ≡ waits_of lanes (take i marks) → take len (new ++ drop (length new) items) ≡ waits_of lanes (take (i + 1) marks)
waits_more lanes marks i d items old new len h k o e w =
    let mark : Mark = get_or marks i d in
    written_back items new len k (ap length e ∙ length-map old (wait_behind mark) ∙ ap length o)
    ∙ e ∙ ap (map (wait_behind mark)) (o ∙ w) ∙ noted lanes (take i marks) mark ∙ ap (waits_of lanes) (sym (take_more marks i d h))

few_enough : (n : ℕ) → n ≤ 18446744073709551615 → min n (2 ^ 64 - 1) ≡ n
few_enough n h = omega arith

pub entries_more : (marks : List Mark) (i : ℕ) (d : Mark) (old new : ℕ) → i < length marks → i < 18446744073709551615
    → new ≡ (if is_entry (get_or marks i d) then min (old + 1) (2 ^ 64 - 1) else old) → old ≡ count_by is_entry (take i marks) → new ≡ count_by is_entry (take (i + 1) marks)
entries_more marks i d old new h k e w = by (is_entry (get_or marks i d)) refl e
  where
    few : old ≤ i
    few = omega (arith, w, count_by-le-length is_entry (take i marks), length_taken marks i (omega arith))

    by : (t : Bool) → is_entry (get_or marks i d) ≡ t → new ≡ (if t then min (old + 1) (2 ^ 64 - 1) else old) → new ≡ count_by is_entry (take (i + 1) marks)
    by true t e = e ∙ few_enough (old + 1) (omega (arith, few)) ∙ ap (λ (n : ℕ). n + 1) w ∙ sym (count_by_more_yes is_entry marks i d h t)
    by false t e = e ∙ w ∙ sym (count_by_more_no is_entry marks i d h t)
