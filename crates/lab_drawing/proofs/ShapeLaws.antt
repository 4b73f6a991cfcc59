-- The signs of a picture: they stay in a text that grows, and come column by column.
use Rattle.std.proofs.Common.{arith, ◌≡◌, ◌<◌, ◌≤◌, ℕ, ◌+◌, List, [], ◌∷◌, ◌++◌, append_assoc, append-nil, length, count_by, flat_map, take, get_or, refl, sym, ap, subst, ◌∙◌, Option, None, Bool}
use Rattle.std.proofs.lemmas.List.{take_more}
use Rattle.std.proofs.lemmas.List.Sums.{fold_push}
use Rattle.lab_drawing.specs.Marks.{is_entry}
use Rattle.lab_drawing.specs.Pictures.{end_of, entry_of, entry_with, moment_after, waits_of}
use Rattle.lab_drawing.specs.Shapes.{AddsSigns, HoldsSigns, HoldsPicture, IsSign, Sign, column_after, column_signs, date_signs, lane_signs, mark, mark_place, moment_signs, signs_after}
use Rattle.lab_drawing.specs.Strips.{tells_date}
use Rattle.lab_drawing.specs.Titles.{title_text}
use Rattle.lab_drawing.specs.Lanes.{AreLanesOf}
use Rattle.lab_drawing.specs.declared.frames.Shows.{Shows}
use Rattle.lab_drawing.specs.declared.lanes.Lane.{Lane}
use Rattle.lab_drawing.specs.declared.marks.Mark.{Mark}
use Rattle.lab_drawing.specs.declared.moments.Moment.{Moment}
use Rattle.lab_drawing.specs.declared.moments.Standing.{Standing}
use Rattle.lab_drawing.specs.declared.ties.TieEnd.{TieEnd}
use Rattle.lab_drawing.proofs.PageLaws.{length_taken, take_short}

grown : (a b c d : List ℕ) → (a ++ (b ++ c)) ++ d ≡ a ++ (b ++ (c ++ d))
grown a b c d = simp append_assoc

-- more text after them
pub holds_before : (signs : List Sign) (text more : List ℕ) → HoldsSigns signs text → HoldsSigns signs (text ++ more)
holds_before [] text more h = h
holds_before (sign ∷ rest) text more h =
    (h.0, h.1, h.2 ++ more, h.3, ap (λ (t : List ℕ). t ++ more) h.4 ∙ grown h.0 h.1 h.2 more, holds_before rest h.2 more h.5)

shifted : (text front a b : List ℕ) → text ≡ a ++ b → front ++ text ≡ (front ++ a) ++ b
shifted text front a b h = ap (λ (t : List ℕ). front ++ t) h ∙ sym (append_assoc front a b)

-- more text before them
pub holds_after : (signs : List Sign) (front text : List ℕ) → HoldsSigns signs text → HoldsSigns signs (front ++ text)
holds_after [] front text h = h
holds_after (sign ∷ rest) front text h = (front ++ h.0, h.1, h.2, h.3, shifted text front h.0 (h.1 ++ h.2) h.4, h.5)

holds_both : (one two : List Sign) (s t : List ℕ) → HoldsSigns one s → HoldsSigns two t → HoldsSigns (one ++ two) (s ++ t)
holds_both [] two s t h k = holds_after two s t k
holds_both (sign ∷ rest) two s t h k =
    (h.0, h.1, h.2 ++ t, h.3, ap (λ (x : List ℕ). x ++ t) h.4 ∙ grown h.0 h.1 h.2 t, holds_both rest two h.2 t h.5 k)

-- ---- a text that grows

pub none_added : (text : List ℕ) → AddsSigns [] text text
none_added text = ([], sym (append-nil text), tt)

-- first these, then those
pub both_added : (one two : List Sign) (old mid new : List ℕ) → AddsSigns one old mid → AddsSigns two mid new → AddsSigns (one ++ two) old new
both_added one two old mid new a b =
    (a.0 ++ b.0, b.1 ∙ ap (λ (t : List ℕ). t ++ b.0) a.1 ∙ append_assoc old a.0 b.0, holds_both one two a.0 b.0 a.2 b.2)

-- a sign, with a text before it and one after it
pub sign_within : (sign : Sign) (front part back t0 t1 t2 t3 : List ℕ) → IsSign sign part → t1 ≡ t0 ++ front → t2 ≡ t1 ++ part → t3 ≡ t2 ++ back → AddsSigns (sign ∷ []) t0 t3
sign_within sign front part back t0 t1 t2 t3 is e f g = (
  front ++ (part ++ back),
  g ∙ ap (λ (t : List ℕ). t ++ back) (f ∙ ap (λ (t : List ℕ). t ++ part) e) ∙ parted t0 front part back,
  (front, part, back, is, refl, tt),
)
  where
    parted : (a b c d : List ℕ) → ((a ++ b) ++ c) ++ d ≡ a ++ (b ++ (c ++ d))
    parted a b c d = simp append_assoc

-- a sign, with a text after it
pub sign_first : (sign : Sign) (part back t0 t1 t2 : List ℕ) → IsSign sign part → t1 ≡ t0 ++ part → t2 ≡ t1 ++ back → AddsSigns (sign ∷ []) t0 t2
sign_first sign part back t0 t1 t2 is e f = sign_within sign [] part back t0 t0 t1 t2 is (sym (append-nil t0)) e f

-- a mark: the place, the title, and the drawing after them
pub mark_added : (entry : Option ℕ) (one : Mark) (end : TieEnd) (x y : ℕ) (placed body t0 t1 t2 t3 : List ℕ) → placed ≡ mark_place entry x y → t1 ≡ t0 ++ placed → t2 ≡ t1 ++ title_text one.line.now → t3 ≡ t2 ++ body
    → AddsSigns (mark entry one end ∷ []) t0 t3
mark_added entry one end x y placed body t0 t1 t2 t3 p e f g =
    sign_first (mark entry one end) (mark_place entry x y ++ title_text one.line.now) body t0 t2 t3 (x, y, refl)
    (f ∙ ap (λ (t : List ℕ). t ++ title_text one.line.now) (e ∙ ap (λ (t : List ℕ). t0 ++ t) p) ∙ append_assoc t0 (mark_place entry x y) (title_text one.line.now)) g

-- those of one item more
pub item_added : {X : Type 0} (f : X → List Sign) (xs : List X) (i : ℕ) (d : X) (old mid new : List ℕ) → i < length xs
    → AddsSigns (flat_map f (take i xs)) old mid → AddsSigns (f (get_or xs i d)) mid new → AddsSigns (flat_map f (take (i + 1) xs)) old new
item_added {X} f xs i d old mid new h a b =
    subst (λ (signs : List Sign). AddsSigns signs old new) (sym (ap (flat_map f) (take_more xs i d h) ∙ more (take i xs) (get_or xs i d)))
    (both_added (flat_map f (take i xs)) (f (get_or xs i d)) old mid new a b)
  where
    more : (ys : List X) (y : X) → flat_map f (ys ++ y ∷ []) ≡ flat_map f ys ++ f y
    more [] y = append-nil (f y)
    more (z ∷ rest) y = ap (λ (t : List Sign). f z ++ t) (more rest y) ∙ sym (append_assoc (f z) (flat_map f rest) (f y))

-- a date, and the standings up to the last
pub moment_added : (lanes : List Lane) (column : ℕ) (moment : Moment) (before : Option Moment) (tells : Bool) (i : ℕ) (items : List Standing) (old mid new : List ℕ)
    → tells ≡ tells_date column moment.date before → items ≡ moment.standings.items → length items ≤ i → AddsSigns (date_signs moment.date tells) old mid
    → AddsSigns (flat_map (lane_signs lanes column before) (take i items)) mid new → AddsSigns (moment_signs lanes column moment before) old new
moment_added lanes column moment before tells i items old mid new t e h date stood =
    both_added (date_signs moment.date (tells_date column moment.date before)) (flat_map (lane_signs lanes column before) moment.standings.items) old mid new
    (subst (λ (b : Bool). AddsSigns (date_signs moment.date b) old mid) t date)
    (subst (λ (xs : List Standing). AddsSigns (flat_map (lane_signs lanes column before) xs) mid new) (take_short items i h ∙ e) stood)

-- what a column has was made in a text of its own, after the lanes of its band
pub column_added : (one two : List Sign) (frame made shown t0 t1 t2 : List ℕ) → AddsSigns one frame made → shown ≡ made → t1 ≡ t0 ++ shown → AddsSigns two t1 t2 → AddsSigns (one ++ two) t0 t2
column_added one two frame made shown t0 t1 t2 a s e b =
    both_added one two t0 t1 t2
    (made, e ∙ ap (λ (t : List ℕ). t0 ++ t) s, subst (HoldsSigns one) (sym a.1) (holds_after one frame a.0 a.2))
    b

-- ---- columns

signs_push : (lanes : List Lane) (shows : Shows) (moments : List Moment) (before marks : List Mark) (one : Mark)
    → signs_after lanes shows moments before (marks ++ one ∷ []) ≡ signs_after lanes shows moments before marks ++ column_after lanes shows moments (before ++ marks) one
signs_push lanes shows moments before [] one =
    append-nil (column_after lanes shows moments before one) ∙ ap (λ (ms : List Mark). column_after lanes shows moments ms one) (sym (append-nil before))
signs_push lanes shows moments before (m ∷ rest) one =
    let column : List Sign = column_after lanes shows moments before m in
    let next : List Mark = before ++ m ∷ [] in
    ap (λ (t : List Sign). column ++ t) (signs_push lanes shows moments next rest one)
    ∙ sym (append_assoc column (signs_after lanes shows moments next rest) (column_after lanes shows moments (next ++ rest) one))
    ∙ ap (λ (ms : List Mark). (column ++ signs_after lanes shows moments next rest) ++ column_after lanes shows moments ms one) (append_assoc before (m ∷ []) rest)

-- the entry of one mark more
pub entry_more : (marks : List Mark) (i : ℕ) (d : Mark) (old new : Option ℕ) → i < length marks → new ≡ entry_with old (get_or marks i d) → old ≡ entry_of (take i marks)
    → new ≡ entry_of (take (i + 1) marks)
entry_more marks i d old new h e w =
    e ∙ ap (λ (x : Option ℕ). entry_with x (get_or marks i d)) w ∙ sym (fold_push entry_with None (take i marks) (get_or marks i d)) ∙ ap entry_of (sym (take_more marks i d h))

same_column : (lanes : List Lane) (shows : Shows) (moments : List Moment) (before : List Mark) (one : Mark) (column : ℕ) (waits : List (Lane × Bool)) (now was : Option Moment) (entry : Option ℕ) (end : TieEnd)
    → column ≡ length before → waits ≡ waits_of lanes before → now ≡ moment_after moments (count_by is_entry (before ++ one ∷ [])) → was ≡ moment_after moments (count_by is_entry before)
    → entry ≡ entry_of (before ++ one ∷ []) → end ≡ end_of one was → column_signs lanes shows column waits now was entry end one ≡ column_after lanes shows moments before one
same_column lanes shows moments before one column waits now was entry end c w n b k t =
    ap (λ (x : ℕ). column_signs lanes shows x waits now was entry end one) c
    ∙ ap (λ (x : List (Lane × Bool)). column_signs lanes shows (length before) x now was entry end one) w
    ∙ ap (λ (x : Option Moment). column_signs lanes shows (length before) (waits_of lanes before) x was entry end one) n
    ∙ ap (λ (x : TieEnd). column_signs lanes shows (length before) (waits_of lanes before) (moment_after moments (count_by is_entry (before ++ one ∷ []))) was entry x one) t
    ∙ ap (λ (x : Option Moment). column_signs lanes shows (length before) (waits_of lanes before) (moment_after moments (count_by is_entry (before ++ one ∷ []))) x entry (end_of one x) one) b
    ∙ ap (λ (x : Option ℕ). column_signs lanes shows (length before) (waits_of lanes before) (moment_after moments (count_by is_entry (before ++ one ∷ []))) (moment_after moments (count_by is_entry before)) x (end_of one (moment_after moments (count_by is_entry before))) one) k

-- the column of one mark more; what was counted of entries with it and before it is known
pub columns_more : (lanes : List Lane) (shows : Shows) (moments : List Moment) (marks : List Mark) (i : ℕ) (d : Mark) (entries others : ℕ) (entry : Option ℕ) (end : TieEnd) (waits : List (Lane × Bool))
    (now was : Option Moment) (old mid new : List ℕ) → i < length marks → entry ≡ entry_of (take (i + 1) marks) → waits ≡ waits_of lanes (take i marks) → now ≡ moment_after moments entries
    → entries ≡ count_by is_entry (take (i + 1) marks) → was ≡ moment_after moments others → others ≡ count_by is_entry (take i marks) → end ≡ end_of (get_or marks i d) was
    → AddsSigns (signs_after lanes shows moments [] (take i marks)) old mid → AddsSigns (column_signs lanes shows i waits now was entry end (get_or marks i d)) mid new
    → AddsSigns (signs_after lanes shows moments [] (take (i + 1) marks)) old new
columns_more lanes shows moments marks i d entries others entry end waits now was old mid new h k w n en b ot t done column =
    let before : List Mark = take i marks in
    let one : Mark = get_or marks i d in
    let next : take (i + 1) marks ≡ take i marks ++ get_or marks i d ∷ [] = take_more marks i d h in
    let same : column_signs lanes shows i waits now was entry end one ≡ column_after lanes shows moments before one =
    same_column lanes shows moments before one i waits now was entry end (length_taken marks i (omega arith)) w
    (n ∙ ap (moment_after moments) (en ∙ ap (count_by is_entry) next)) (b ∙ ap (moment_after moments) ot) (k ∙ ap entry_of next) t in
    subst (λ (signs : List Sign). AddsSigns signs old new) (sym (ap (signs_after lanes shows moments []) next ∙ signs_push lanes shows moments [] before one))
    (both_added (signs_after lanes shows moments [] before) (column_after lanes shows moments before one) old mid new done
    (subst (λ (signs : List Sign). AddsSigns signs mid new) same column))

-- the whole: its lanes are those of the marks, and what it begins and ends with adds no sign
pub picture_made : (lanes : List Lane) (shown shows : Shows) (moments : List Moment) (marks : List Mark) (front drawn whole end : List ℕ) → AreLanesOf marks lanes → shown ≡ shows
    → AddsSigns (signs_after lanes shown moments [] marks) front drawn → whole ≡ drawn ++ end → HoldsPicture shows moments marks whole
picture_made lanes shown shows moments marks front drawn whole end are s a e = (
  lanes,
  are,
  subst (HoldsSigns (signs_after lanes shows moments [] marks)) (sym (e ∙ ap (λ (t : List ℕ). t ++ end) a.1))
      (holds_before (signs_after lanes shows moments [] marks) (front ++ a.0) end
      (holds_after (signs_after lanes shows moments [] marks) front a.0 (subst (λ (x : Shows). HoldsSigns (signs_after lanes x moments [] marks) a.0) s a.2))),
)
