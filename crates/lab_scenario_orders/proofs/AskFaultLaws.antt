-- Why it can't be read what is asked: a text's first arrow, a list's texts by their numbers, and a key's list.
use Rattle.std.proofs.Common.{◌≡◌, ◌∙◌, ◌++◌, ◌+◌, ◌<◌, ℕ, zero, suc, List, [], ◌∷◌, Option, Some, None, IsSomeAnd, IfErr, Result, Ok, Err, length, drop, get_or, refl, sym, ap, subst, append_assoc, take-append-drop, drop_at, length-append, option_and_then, option_map, arith}
use Rattle.std.specs.Prelude.{codes}
use Rattle.std.specs.Str.{trim}
use Rattle.std.specs.Str.Iter.{HasSubslice}
use Rattle.std.specs.Str.Pattern.{FindsText, SplitsAroundMatch}
use Rattle.toml.specs.Data.{Data, Items, Members, as_array, as_str, get_member}
use Rattle.toml.specs.View.{items_view, view}
use Rattle.toml.specs.declared.value.Value.{Value}
use Rattle.evl_base.specs.declared.board.Board.{Board}
use Rattle.evl_scenario.specs.Tables.{all_given}
use Rattle.lab_scenario_orders.specs.AskFaults.{IsAroundArrow, IsBadKey, IsBadList, IsBadValue, IsNoAnswer, IsNoFacts, IsWhy, key_of, text_at, text_in}
use Rattle.lab_scenario_orders.specs.WatchTexts.{texts_in, when_key}
use Rattle.lab_scenario_orders.specs.declared.asks.AskFault.{AskFault}
use Rattle.lab_scenario_orders.specs.declared.asks.AskFault.TheVariants as fault
use Rattle.lab_scenario_orders.specs.declared.asks.AskKey.{AskKey}
use Rattle.lab_scenario_orders.specs.declared.asks.AskKey.TheVariants as key
use Rattle.lab_scenario_orders.specs.declared.callers.Caller.{Caller}
use Rattle.lab_scenario_orders.specs.declared.watches.When.{When}
use Rattle.lab_scenario_orders.specs.declared.watches.When.TheVariants as when

-- ---- arrows

-- before a text's first match there is none
pub none_before : (n s front back : List ℕ) → 0 < length n → SplitsAroundMatch (FindsText n) s front back → HasSubslice front n → ⊥
none_before n s front back some h there =
    let a = there.0 in
    let b = there.1 in
    let split : front ++ drop h.0 s ≡ s = ap (λ (l : List ℕ). l ++ drop h.0 s) h.3 ∙ take-append-drop h.0 s in
    let at : s ≡ a ++ (n ++ (b ++ drop h.0 s)) =
    sym split ∙ (ap (λ (l : List ℕ). l ++ drop h.0 s) there.2 ∙ (append_assoc a (n ++ b) (drop h.0 s) ∙ ap (λ (l : List ℕ). a ++ l) (append_assoc n b (drop h.0 s)))) in
    let before : length a < h.0 = omega (arith, ap length there.2, length-append a (n ++ b), length-append n b, h.6, some) in
    h.2.0 (length a) before (b ++ drop h.0 s) (ap (λ (l : List ℕ). drop (length a) l) at ∙ drop_at a (n ++ (b ++ drop h.0 s)) (length a) refl)

tail_of : List ℕ → List ℕ
tail_of [] = []
tail_of (x ∷ xs) = xs

-- there is one first arrow
one_arrow : (one other behind rest : List ℕ) → one ++ (codes "->" ++ behind) ≡ other ++ (codes "->" ++ rest) → (HasSubslice one (codes "->") → ⊥) → (HasSubslice other (codes "->") → ⊥)
    → (one ≡ other) × (behind ≡ rest)
unfolding tail_of
one_arrow [] [] behind rest same no_one no_other = (refl, ap (λ (l : List ℕ). tail_of (tail_of l)) same)
one_arrow [] (x ∷ []) behind rest same no_one no_other = let e : 62 ≡ 45 = ap (λ (l : List ℕ). get_or l 1 0) same in absurd (omega (arith, e))
one_arrow [] (x ∷ (y ∷ ys)) behind rest same no_one no_other =
    let first : 45 ≡ x = ap (λ (l : List ℕ). get_or l 0 0) same in
    let next : 62 ≡ y = ap (λ (l : List ℕ). get_or l 1 0) same in
    absurd (no_other ([], ys, ap (λ (n : ℕ). n ∷ (y ∷ ys)) (sym first) ∙ ap (λ (n : ℕ). 45 ∷ (n ∷ ys)) (sym next)))
one_arrow (x ∷ []) [] behind rest same no_one no_other = let e : 45 ≡ 62 = ap (λ (l : List ℕ). get_or l 1 0) same in absurd (omega (arith, e))
one_arrow (x ∷ (y ∷ ys)) [] behind rest same no_one no_other =
    let first : x ≡ 45 = ap (λ (l : List ℕ). get_or l 0 0) same in
    let next : y ≡ 62 = ap (λ (l : List ℕ). get_or l 1 0) same in
    absurd (no_one ([], ys, ap (λ (n : ℕ). n ∷ (y ∷ ys)) first ∙ ap (λ (n : ℕ). 45 ∷ (n ∷ ys)) next))
one_arrow (x ∷ xs) (y ∷ ys) behind rest same no_one no_other =
    let later = one_arrow xs ys behind rest (ap tail_of same) (λ there. no_one (x ∷ there.0, there.1, ap (λ (l : List ℕ). x ∷ l) there.2))
    (λ there. no_other (y ∷ there.0, there.1, ap (λ (l : List ℕ). y ∷ l) there.2)) in
    let first : x ≡ y = ap (λ (l : List ℕ). get_or l 0 0) same in
    (ap (λ (n : ℕ). n ∷ xs) first ∙ ap (λ (l : List ℕ). y ∷ l) later.0, later.1)

-- so a text has one caller and one answer
same_parts : (text before behind : List ℕ) → text ≡ before ++ (codes "->" ++ behind) → (HasSubslice before (codes "->") → ⊥) → (one answer : List ℕ) → IsAroundArrow text one answer
    → (one ≡ before) × (answer ≡ behind)
same_parts text before behind is first one answer around = one_arrow one before answer behind (sym around.arrow ∙ is) around.first first

pub same_caller : (text before behind : List ℕ) → text ≡ before ++ (codes "->" ++ behind) → (HasSubslice before (codes "->") → ⊥) → (one answer : List ℕ) → IsAroundArrow text one answer
    → trim one ≡ trim before
same_caller text before behind is first one answer around = ap (λ (l : List ℕ). trim l) (same_parts text before behind is first one answer around).0

pub two_arrows : (text before behind : List ℕ) → text ≡ before ++ (codes "->" ++ behind) → (HasSubslice before (codes "->") → ⊥) → HasSubslice (trim behind) (codes "->")
    → (one answer : List ℕ) → IsAroundArrow text one answer → ⊥
two_arrows text before behind is first there one answer around =
    around.single (subst (λ (l : List ℕ). HasSubslice (trim l) (codes "->")) (sym (same_parts text before behind is first one answer around).1) there)

-- ---- a list

text_item : (values : List Value) (i : ℕ) (d : Value) → i < length values → text_in (suc i) (items_view values) ≡ as_str (view (get_or values i d))
text_item [] i d lt = absurd (omega arith)
text_item (x ∷ xs) zero d lt = refl
text_item (x ∷ xs) (suc i) d lt = text_item xs i d (omega arith)

none_then : (o : Option (List ℕ)) → option_and_then (λ (t : List ℕ). option_map (λ (ts : List (List ℕ)). t ∷ ts) None) o ≡ None
none_then None = refl
none_then (Some t) = refl

no_texts : (values : List Value) (i : ℕ) (d : Value) → i < length values → as_str (view (get_or values i d)) ≡ None → all_given as_str (items_view values) ≡ None
no_texts [] i d lt none = absurd (omega arith)
no_texts (x ∷ xs) zero d lt none = ap (λ (o : Option (List ℕ)). option_and_then (λ (t : List ℕ). option_map (λ (ts : List (List ℕ)). t ∷ ts) (all_given as_str (items_view xs))) o) none
no_texts (x ∷ xs) (suc i) d lt none =
    ap (λ (o : Option (List (List ℕ))). option_and_then (λ (t : List ℕ). option_map (λ (ts : List (List ℕ)). t ∷ ts) o) (as_str (view x))) (no_texts xs i d (omega arith) none)
    ∙ none_then (as_str (view x))

text_is : (P : List ℕ → Type 0) (values : List Value) (i : ℕ) (d : Value) (n : ℕ) → i < length values → n ≡ i + 1 → IsSomeAnd (as_str (view (get_or values i d))) P → IsSomeAnd (text_in n (items_view values)) P
text_is P values i d n lt at h =
    let is : n ≡ suc i = omega (arith, at) in
    subst (λ (o : Option (List ℕ)). IsSomeAnd o P) (sym (ap (λ (m : ℕ). text_in m (items_view values)) is ∙ text_item values i d lt)) h

pub bad_list : (callers : List Caller) (board : Board) (k : AskKey) (values : List Value) (i : ℕ) (value d : Value) (e : AskFault) → i < length values → value ≡ get_or values i d
    → IsBadValue callers board k (i + 1) (view value) e → IsBadList callers board k (items_view values) e
bad_list callers board k values i value d e lt is h = by e (subst (λ (v : Value). IsBadValue callers board k (i + 1) (view v) e) is h)
  where
    by : (e : AskFault) → IsBadValue callers board k (i + 1) (view (get_or values i d)) e → IsBadList callers board k (items_view values) e
    by fault.Table h = absurd h
    by (fault.Key bad line) h = (h.0, no_texts values i d lt h.1)
    by (fault.Never n) h = (h.0, text_is (IsNoAnswer callers) values i d n lt h.1 h.2)
    by (fault.Facts bad n why line) h = (h.0, h.1, text_is (IsNoFacts board why) values i d n lt h.2 h.3)
    by fault.Memory h = tt

-- ---- a table

no_facts_of_never : (w : When) → key.Never ≡ key_of w → ⊥
no_facts_of_never when.Never e = cc
no_facts_of_never when.Sometimes e = cc
no_facts_of_never when.Always e = cc

facts_key : (w : When) (ms : Members) → texts_in (get_member (when_key w) ms) ≡ None → IsBadKey ms (key_of w)
facts_key when.Never ms none = none
facts_key when.Sometimes ms none = none
facts_key when.Always ms none = none

not_texts : (at : Option Data) (value : Data) (items : Items) → at ≡ Some value → as_array value ≡ Some items → all_given as_str items ≡ None → texts_in at ≡ None
not_texts at value items there listed none = ap texts_in there ∙ (ap (λ (o : Option Items). option_and_then (all_given as_str) o) listed ∙ none)

listed_text : (P : List ℕ → Type 0) (n : ℕ) (at : Option Data) (value : Data) (items : Items) → at ≡ Some value → as_array value ≡ Some items → IsSomeAnd (text_in n items) P → IsSomeAnd (text_at n at) P
listed_text P n at value items there listed h =
    subst (λ (o : Option (List ℕ)). IsSomeAnd o P) (sym (ap (text_at n) there ∙ ap (λ (o : Option Items). option_and_then (text_in n) o) listed)) h

why_facts : (callers : List Caller) (board : Board) (ms : Members) (w : When) (value : Data) (items : Items) (e : AskFault) → get_member (when_key w) ms ≡ Some value → as_array value ≡ Some items → IsBadList callers board (key_of w) items e
    → IsWhy callers board ms e
why_facts callers board ms w value items fault.Table there listed h = absurd h
why_facts callers board ms w value items (fault.Key bad line) there listed h =
    subst (IsBadKey ms) (sym h.0) (facts_key w ms (not_texts (get_member (when_key w) ms) value items there listed h.1))
why_facts callers board ms w value items (fault.Never n) there listed h = absurd (no_facts_of_never w (sym h.0))
why_facts callers board ms w value items (fault.Facts bad n why line) there listed h =
    (w, h.0, listed_text (IsNoFacts board why) n (get_member (when_key w) ms) value items there listed h.2)
why_facts callers board ms w value items fault.Memory there listed h = tt

pub facts_at : {A : Type 0} (board : Board) (ms : Members) (w : When) (named : List ℕ) (value : Data) (items : Items) (values : List Value) (r : Result A AskFault) → named ≡ when_key w
    → Some value ≡ get_member named ms → Some items ≡ as_array value → items_view values ≡ items → IfErr r (λ e. (callers : List Caller) → IsBadList callers board (key_of w) (items_view values) e)
    → IfErr r (λ e. (callers : List Caller) → IsWhy callers board ms e)
facts_at board ms w named value items values (Ok all) is there listed same h = tt
facts_at board ms w named value items values (Err e) is there listed same h = λ callers.
    why_facts callers board ms w value (items_view values) e (ap (λ (name : List ℕ). get_member name ms) (sym is) ∙ sym there) (sym listed ∙ ap (λ (l : Items). Some l) (sym same)) (h callers)
