-- The keys of a call are found in its text.
use Rattle.std.proofs.Common.{◌≡◌, ◌≢◌, ◌⊎◌, inl, inr, ℕ, ◌==◌, Bool, true, false, not, ◌&&◌, List, [], ◌∷◌, ◌++◌, append_assoc, append-nil, codes, drop, get_or, if◌then◌else◌, Option, Some, None, option_map, refl, sym, ap, ◌∙◌}
use Rattle.std.specs.List.{list_all}
use Rattle.std.specs.Option.{option_map_or}
use Rattle.std.specs.Str.{bytes_eq}
use Rattle.std.specs.Str.Pattern.{LacksTextAt}
use Rattle.std.proofs.lemmas.Bool.{and_parts, eq-eqb, eqb-true, false≢true}
use Rattle.std.proofs.lemmas.Slice.Eq.{bytes_eq-Decides}
use Rattle.evl_base.specs.Call.{call_text}
use Rattle.evl_base.specs.declared.call.Call.{Call}
use Rattle.evl_base.specs.Calls.{Parts, fields_of, name_of, parts, parts_of, told_by, told_in, word_in}
use Rattle.evl_base.specs.Fields.{Key, Values, keys_text, keyed_values, told_as, value_text}
use Rattle.evl_base.specs.Fields as fields
use Rattle.evl_scenario.specs.Widths.{AllFit, CallFits}
use Rattle.evl_base.specs.declared.call.StepWord.{StepWord}
use Rattle.evl_base.specs.declared.call.StepWord.TheVariants.{Pick}
use Rattle.lab_traces.specs.Parts.{Lacks}
use Rattle.lab_traces.proofs.CallTexts.{value-no_equals}
use Rattle.lab_drawing.specs.Calls.{value_told}
use Rattle.lab_drawing.specs.Named.{value_of}
use Rattle.lab_drawing.specs.Texts.{around_part, up_to}
use Rattle.lab_drawing.proofs.TextLaws.{past_at, past_lacks}

-- ---- what is after a part

abbrev pub behind_part : List ℕ → List ℕ → Option (List ℕ)
behind_part part text = option_map (λ cut. cut.1) (around_part part text)

pub behind_here : (part : List ℕ) (c : ℕ) (text rest : List ℕ) → c ∷ text ≡ part ++ rest → behind_part part (c ∷ text) ≡ Some rest
unfolding around_part
behind_here part c text rest e = rw (past_at part (c ∷ text) rest e) refl

pub behind_next : (part : List ℕ) (c : ℕ) (text : List ℕ) → LacksTextAt part (c ∷ text) 0 → behind_part part (c ∷ text) ≡ behind_part part text
unfolding around_part
behind_next part c text lacks = rw (past_lacks part (c ∷ text) lacks) (by (around_part part text))
  where
    by : (o : Option (List ℕ × List ℕ))
        → option_map (λ (cut : List ℕ × List ℕ). cut.1) (option_map (λ (cut : List ℕ × List ℕ). (c ∷ cut.0, cut.1)) o) ≡ option_map (λ (cut : List ℕ × List ℕ). cut.1) o
    by None = refl
    by (Some cut) = refl

behind_none : (c : ℕ) (part : List ℕ) → behind_part (c ∷ part) [] ≡ None
unfolding around_part
behind_none c part = rw (past_lacks (c ∷ part) [] (λ rest e. cc)) refl

-- ---- a key in a text

-- a key as it is looked for
abbrev pub looked_for : List ℕ → List ℕ
looked_for key = 32 ∷ (key ++ 61 ∷ [])

pub head_of : {a b : ℕ} {x y : List ℕ} → a ∷ x ≡ b ∷ y → a ≡ b
head_of e = ap (λ (l : List ℕ). get_or l 0 0) e

pub tail_of : {a b : ℕ} {x y : List ℕ} → a ∷ x ≡ b ∷ y → x ≡ y
tail_of e = ap (λ (l : List ℕ). drop 1 l) e

pub apart : (c d : ℕ) → not (c == d) ≡ true → c ≢ d
apart c d h e = false≢true (sym (ap not (eq-eqb c d e)) ∙ h)

-- nothing follows, or a space
abbrev IsEnd : List ℕ → Type 0
IsEnd rest = (rest ≡ []) ⊎ ((more : List ℕ) × (rest ≡ 32 ∷ more))

-- a value and what follows it don't begin with a key and an equals sign
no_key : (value key rest more : List ℕ) → Lacks 61 value → Lacks 32 key → IsEnd rest → value ++ rest ≢ key ++ 61 ∷ more
no_key [] [] rest more v k (inl none) e = let same : [] ≡ 61 ∷ more = sym none ∙ e in cc
no_key [] [] rest more v k (inr (m, space)) e = apart 61 32 refl (sym (head_of (sym space ∙ e)))
no_key [] (b ∷ key) rest more v k (inl none) e = let same : [] ≡ b ∷ (key ++ 61 ∷ more) = sym none ∙ e in cc
no_key [] (b ∷ key) rest more v k (inr (m, space)) e = apart b 32 (and_parts (not (b == 32)) (list_all (λ x. not (x == 32)) key) k).0 (sym (head_of (sym space ∙ e)))
no_key (c ∷ value) [] rest more v k end e = apart c 61 (and_parts (not (c == 61)) (list_all (λ x. not (x == 61)) value) v).0 (head_of e)
no_key (c ∷ value) (b ∷ key) rest more v k end e =
    no_key value key rest more (and_parts (not (c == 61)) (list_all (λ x. not (x == 61)) value) v).1 (and_parts (not (b == 32)) (list_all (λ x. not (x == 32)) key) k).1 end (tail_of e)

same_key : (one other x y : List ℕ) → Lacks 61 one → Lacks 61 other → one ++ 61 ∷ x ≡ other ++ 61 ∷ y → one ≡ other
same_key [] [] x y p q e = refl
same_key [] (b ∷ other) x y p q e = absurd (apart b 61 (and_parts (not (b == 61)) (list_all (λ c. not (c == 61)) other) q).0 (sym (head_of e)))
same_key (a ∷ one) [] x y p q e = absurd (apart a 61 (and_parts (not (a == 61)) (list_all (λ c. not (c == 61)) one) p).0 (head_of e))
same_key (a ∷ one) (b ∷ other) x y p q e =
    let first : a ≡ b = head_of e in
    let more : one ≡ other = same_key one other x y (and_parts (not (a == 61)) (list_all (λ c. not (c == 61)) one) p).1 (and_parts (not (b == 61)) (list_all (λ c. not (c == 61)) other) q).1 (tail_of e) in
    cc

at_key : (key rest : List ℕ) → looked_for key ++ rest ≡ 32 ∷ (key ++ 61 ∷ rest)
at_key key rest = ap (λ (x : List ℕ). 32 ∷ x) (append_assoc key (61 ∷ []) rest)

-- no space is in a word
pub past_word : (key word rest : List ℕ) → Lacks 32 word → behind_part (looked_for key) (word ++ rest) ≡ behind_part (looked_for key) rest
past_word key [] rest h = refl
past_word key (c ∷ word) rest h =
    let (here, more) = and_parts (not (c == 32)) (list_all (λ x. not (x == 32)) word) h in
    behind_next (looked_for key) c (word ++ rest) (λ r e. apart c 32 here (head_of e)) ∙ past_word key word rest more

past_value : (key value rest : List ℕ) → Lacks 61 value → Lacks 32 key → IsEnd rest → behind_part (looked_for key) (value ++ rest) ≡ behind_part (looked_for key) rest
past_value key [] rest v k end = refl
past_value key (c ∷ value) rest v k end =
    let more = (and_parts (not (c == 61)) (list_all (λ x. not (x == 61)) value) v).1 in
    behind_next (looked_for key) c (value ++ rest) (λ r e. no_key value key rest r more k end (tail_of (e ∙ at_key key r))) ∙ past_value key value rest more k end

-- at a key with its value
at_pair : (key name value rest : List ℕ) (b : Bool) → bytes_eq name key ≡ b → Lacks 32 key → Lacks 61 key → Lacks 32 name → Lacks 61 name → Lacks 61 value → IsEnd rest
    → behind_part (looked_for key) (32 ∷ (name ++ 61 ∷ (value ++ rest))) ≡ (if b then Some (value ++ rest) else behind_part (looked_for key) rest)
at_pair key name value rest true e ks ke ns ne v end =
    let same : name ≡ key = (bytes_eq-Decides name key).0 e in
    behind_here (looked_for key) 32 (name ++ 61 ∷ (value ++ rest)) (value ++ rest) (ap (λ (n : List ℕ). 32 ∷ (n ++ 61 ∷ (value ++ rest))) same ∙ sym (at_key key (value ++ rest)))
at_pair key name value rest false e ks ke ns ne v end =
    let other : name ≢ key = λ same. false≢true (sym e ∙ (bytes_eq-Decides name key).1 same) in
    behind_next (looked_for key) 32 (name ++ 61 ∷ (value ++ rest)) (λ r same. other (same_key name key (value ++ rest) r ne ke (tail_of (same ∙ at_key key r))))
    ∙ past_word key name (61 ∷ (value ++ rest)) ns
    ∙ behind_next (looked_for key) 61 (value ++ rest) (λ r same. apart 61 32 refl (head_of same))
    ∙ past_value key value rest v ks end

-- ---- up to a space

up_more : (c : ℕ) (text : List ℕ) → c ≢ 32 → up_to (codes " ") (c ∷ text) ≡ c ∷ up_to (codes " ") text
unfolding around_part
up_more c text other = rw (past_lacks (codes " ") (c ∷ text) (λ r e. other (head_of e))) (by (around_part (codes " ") text))
  where
    by : (o : Option (List ℕ × List ℕ))
        → option_map_or (λ (cut : List ℕ × List ℕ). cut.0) (option_map (λ (cut : List ℕ × List ℕ). (c ∷ cut.0, cut.1)) o) (c ∷ text)
        ≡ c ∷ option_map_or (λ (cut : List ℕ × List ℕ). cut.0) o text
    by None = refl
    by (Some cut) = refl

up_space : (text : List ℕ) → up_to (codes " ") (32 ∷ text) ≡ []
unfolding around_part
up_space text = rw (past_at (codes " ") (32 ∷ text) text refl) refl

up_nothing : up_to (codes " ") [] ≡ []
unfolding around_part
up_nothing = rw (past_lacks (codes " ") [] (λ r e. cc)) refl

up_end : (rest : List ℕ) → IsEnd rest → up_to (codes " ") rest ≡ []
up_end rest (inl none) = ap (up_to (codes " ")) none ∙ up_nothing
up_end rest (inr (more, space)) = ap (up_to (codes " ")) space ∙ up_space more

up_front : (value rest : List ℕ) → Lacks 32 value → IsEnd rest → up_to (codes " ") (value ++ rest) ≡ value
up_front [] rest h end = up_end rest end
up_front (c ∷ value) rest h end =
    let (here, more) = and_parts (not (c == 32)) (list_all (λ x. not (x == 32)) value) h in
    up_more c (value ++ rest) (apart c 32 here) ∙ ap (λ (x : List ℕ). c ∷ x) (up_front value rest more end)

-- a text that has no space
pub up_whole : (value : List ℕ) → Lacks 32 value → up_to (codes " ") value ≡ value
up_whole value h = ap (up_to (codes " ")) (sym (append-nil value)) ∙ up_front value [] h (inl refl)

-- up to a space in a value, or all of it
up_value : (value rest : List ℕ) → IsEnd rest → up_to (codes " ") (value ++ rest) ≡ up_to (codes " ") value
up_value [] rest end = up_end rest end ∙ sym up_nothing
up_value (c ∷ value) rest end = by (c == 32) refl (up_value value rest end)
  where
    by : (b : Bool) → (c == 32) ≡ b → up_to (codes " ") (value ++ rest) ≡ up_to (codes " ") value → up_to (codes " ") (c ∷ (value ++ rest)) ≡ up_to (codes " ") (c ∷ value)
    by true e more =
        let space : c ≡ 32 = (eqb-true c 32 e) in
        ap (λ (x : ℕ). up_to (codes " ") (x ∷ (value ++ rest))) space ∙ up_space (value ++ rest) ∙ sym (ap (λ (x : ℕ). up_to (codes " ") (x ∷ value)) space ∙ up_space value)
    by false e more =
        let other : c ≢ 32 = apart c 32 (ap not e) in
        up_more c (value ++ rest) other ∙ ap (λ (x : List ℕ). c ∷ x) more ∙ sym (up_more c value other)

-- ---- the keys of a call

abbrev pub text_told : Option fields.Told → Option (List ℕ)
text_told value = option_map (λ v. up_to (codes " ") (value_text v)) value

said_ends : (keys : List Key) (values : Values keys) → IsEnd (keys_text (keyed_values keys values))
said_ends [] values = inl refl
said_ends (key ∷ keys) values = inr (key.name ++ (codes "=" ++ (value_text (told_as key.kind values.0) ++ keys_text (keyed_values keys values.1))), refl)

-- neither a space nor an equals sign
abbrev is_named : ℕ → Bool
is_named c = not (c == 32) && not (c == 61)

lacks_both : (text : List ℕ) → list_all is_named text ≡ true → Lacks 32 text × Lacks 61 text
lacks_both [] h = (refl, refl)
lacks_both (c ∷ rest) h =
    let (here, more) = and_parts (is_named c) (list_all is_named rest) h in
    let (space, equals) = and_parts (not (c == 32)) (not (c == 61)) here in
    let behind = lacks_both rest more in
    (rw (space, behind.0) refl, rw (equals, behind.1) refl)

names : (step : StepWord) → (list_all is_named (name_of step) && list_all (λ key. list_all is_named key.name) (fields_of step)) ≡ true
names Pick = refl
names _ = refl

value_said : (key : List ℕ) (keys : List Key) (values : Values keys) → list_all is_named key ≡ true → list_all (λ k. list_all is_named k.name) keys ≡ true → AllFit (keyed_values keys values)
    → option_map (up_to (codes " ")) (behind_part (looked_for key) (keys_text (keyed_values keys values))) ≡ text_told (value_told key (keyed_values keys values))
value_said key [] values h named fits = ap (option_map (up_to (codes " "))) (behind_none 32 (key ++ 61 ∷ []))
value_said key (first ∷ keys) values h named fits = by (bytes_eq first.name key) refl (λ more. value_said key keys values.1 h more fits.1)
  where
    value : List ℕ
    value = value_text (told_as first.kind values.0)

    rest : List ℕ
    rest = keys_text (keyed_values keys values.1)

    either : (b : Bool) → IsEnd rest → option_map (up_to (codes " ")) (behind_part (looked_for key) rest) ≡ text_told (value_told key (keyed_values keys values.1))
        → option_map (up_to (codes " ")) (if b then Some (value ++ rest) else behind_part (looked_for key) rest)
        ≡ text_told (if b then Some (told_as first.kind values.0) else value_told key (keyed_values keys values.1))
    either true end more = ap Some (up_value value rest end)
    either false end more = more

    by : (b : Bool) → bytes_eq first.name key ≡ b
        → (list_all (λ k. list_all is_named k.name) keys ≡ true → option_map (up_to (codes " ")) (behind_part (looked_for key) rest) ≡ text_told (value_told key (keyed_values keys values.1)))
        → option_map (up_to (codes " ")) (behind_part (looked_for key) (32 ∷ (first.name ++ 61 ∷ (value ++ rest))))
        ≡ text_told (if b then Some (told_as first.kind values.0) else value_told key (keyed_values keys values.1))
    by b e behind =
        let (here, more) = and_parts (list_all is_named first.name) (list_all (λ k. list_all is_named k.name) keys) named in
        let mine = lacks_both key h in
        let its = lacks_both first.name here in
        let end : IsEnd rest = said_ends keys values.1 in
        ap (option_map (up_to (codes " "))) (at_pair key first.name value rest b e mine.0 mine.1 its.0 its.1 (value-no_equals (told_as first.kind values.0) fits.0) end)
        ∙ either b end (behind more)

value_behind : (key text : List ℕ) → value_of text key ≡ option_map (up_to (codes " ")) (behind_part key text)
value_behind key text = by (around_part key text)
  where
    by : (o : Option (List ℕ × List ℕ)) → option_map (λ cut. up_to (codes " ") cut.1) o ≡ option_map (up_to (codes " ")) (option_map (λ cut. cut.1) o)
    by None = refl
    by (Some cut) = refl

parts_value : (key : List ℕ) (p : Parts) → list_all is_named key ≡ true → AllFit (told_by p) → value_of (name_of (word_in p) ++ keys_text (told_by p)) (looked_for key) ≡ text_told (value_told key (told_by p))
parts_value key (parts step values) h fits =
    let (word, keys) = and_parts (list_all is_named (name_of step)) (list_all (λ k. list_all is_named k.name) (fields_of step)) (names step) in
    value_behind (looked_for key) (name_of step ++ keys_text (keyed_values (fields_of step) values))
    ∙ ap (option_map (up_to (codes " "))) (past_word key (name_of step) (keys_text (keyed_values (fields_of step) values)) (lacks_both (name_of step) word).0)
    ∙ value_said key (fields_of step) values h keys fits

-- the value of a key in the text of a call is the one that the call has
pub call_value : (call : Call) → CallFits call → (key : List ℕ) → list_all is_named key ≡ true → value_of (call_text call) (looked_for key) ≡ text_told (value_told key (told_in call))
call_value call fits key h = parts_value key (parts_of call) h fits
