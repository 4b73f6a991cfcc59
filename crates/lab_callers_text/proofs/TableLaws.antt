-- A table's map after a key is taken away or a value is put, and what is at other keys.
use Rattle.std.proofs.Common.{◌≡◌, ℕ, List, [], ◌∷◌, Bool, true, false, cond, codes, option_and_then, Option, Some, String, Global, Ordering, Less, Equal, Greater, string_bytes, nat_cmp, is_eq, refl, ap, sym, ◌∙◌}
use Rattle.std.specs.BTreeMap.{insert_entry, is_at}
use Rattle.std.specs.Cmp.Lexicographic.{slice_cmp}
use Rattle.std.specs.Map.{remove_entry}
use Rattle.std.specs.Ordering.{match_ordering}
use Rattle.std.specs.String.{string_cmp}
use Rattle.std.proofs.lemmas.Bool.{false≢true}
use Rattle.std.proofs.lemmas.Map.Lookups.{exact_bytes}
use Rattle.toml.specs.Data.{Data, Members, no_members, member, Items, no_items, as_array, get_member}
use Rattle.toml.specs.View.{members_view, view}
use Rattle.toml.specs.declared.value.Value.{Value}
use Rattle.lab_callers_text.specs.Documents.{items_in, mark_in, marks_in, step_as, steps_in}
use Rattle.lab_callers_text.specs.Tables.{with_value, without}
use Rattle.evl_scenario.specs.Tables.{all_given, value_or}

abbrev pub Entry : Type 0
Entry = String Global × Value

abbrev pub at_key : List ℕ → String Global → Ordering
at_key key x = slice_cmp nat_cmp key (string_bytes x)

view_cond : (b : Bool) (xs ys : List Entry) → members_view (cond b xs ys) ≡ cond b (members_view xs) (members_view ys)
view_cond true xs ys = refl
view_cond false xs ys = refl

view_match : (o : Ordering) (a b c : List Entry) → members_view (match_ordering o a b c) ≡ match_ordering o (members_view a) (members_view b) (members_view c)
view_match Less a b c = refl
view_match Equal a b c = refl
view_match Greater a b c = refl

pub removed : (key : List ℕ) (es : List Entry) → members_view (remove_entry (is_at (at_key key)) es) ≡ without key (members_view es)
removed key [] = refl
removed key (e ∷ es) =
    view_cond (is_eq (at_key key e.0)) es _
    ∙ ap (λ (rest : Members). cond (is_eq (at_key key e.0)) (members_view es) (member (string_bytes e.0) (view e.1) rest)) (removed key es)

pub inserted : (es : List Entry) (k : String Global) (v : Value) → members_view (insert_entry string_cmp es k v) ≡ with_value (string_bytes k) (view v) (members_view es)
inserted [] k v = refl
inserted (e ∷ es) k v = view_match (string_cmp k e.0) _ _ _ ∙ rw (inserted es k v)

-- ---- what is at another key stays

past_it : (o : Ordering) (d : Data) (rest : Option Data) → (o ≡ Equal → ⊥) → match_ordering o rest (Some d) rest ≡ rest
past_it Less d rest other = refl
past_it Equal d rest other = absurd (other refl)
past_it Greater d rest other = refl

without_at : (o : Ordering) (key other : List ℕ) (l : List ℕ) (d : Data) (ms : Members) → slice_cmp nat_cmp other l ≡ o → (slice_cmp nat_cmp key other ≡ Equal → ⊥)
    → get_member key (without other ms) ≡ get_member key ms → get_member key (cond (is_eq o) ms (member l d (without other ms))) ≡ get_member key (member l d ms)
without_at Less key other l d ms is apart ih = ap (λ (rest : Option Data). match_ordering (slice_cmp nat_cmp key l) rest (Some d) rest) ih
without_at Equal key other l d ms is apart ih = sym (past_it (slice_cmp nat_cmp key l) d (get_member key ms) (λ same. apart (ap (slice_cmp nat_cmp key) (exact_bytes other l is) ∙ same)))
without_at Greater key other l d ms is apart ih = ap (λ (rest : Option Data). match_ordering (slice_cmp nat_cmp key l) rest (Some d) rest) ih

pub get_without : (key other : List ℕ) (ms : Members) → (slice_cmp nat_cmp key other ≡ Equal → ⊥) → get_member key (without other ms) ≡ get_member key ms
get_without key other no_members apart = refl
get_without key other (member l d ms) apart = without_at (slice_cmp nat_cmp other l) key other l d ms refl apart (get_without key other ms apart)

-- the steps of a document, where its board is taken away
pub items_without : (document : Members) → items_in (without (codes "board") document) ≡ items_in document
items_without document = ap (λ (steps : Option Data). value_or as_array no_items steps) (get_without (codes "step") (codes "board") document (λ same. false≢true (ap is_eq same)))

pub marks_without : (document : Members) → marks_in (without (codes "board") document) ≡ marks_in document
marks_without document = ap (λ (items : Option Items). option_and_then (all_given mark_in) items) (items_without document)

pub steps_without : (document : Members) → steps_in (without (codes "board") document) ≡ steps_in document
steps_without document = ap (λ (items : Option Items). option_and_then (all_given step_as) items) (items_without document)
