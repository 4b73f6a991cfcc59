-- The forms of all calls, by their names and by the list.
use Rattle.std.proofs.Common.{◌≡◌, ◌∙◌, ◌++◌, ℕ, Bool, true, false, List, [], ◌∷◌, codes, drop, flat_map, map, Option, None, Some, is_some, option_map, Result, Ok, Err, OnOk, refl, sym, ap}
use Rattle.std.specs.Prelude.{if◌then◌else◌}
use Rattle.evl_base.specs.Calls.{name_of, words}
use Rattle.evl_base.specs.declared.call.StepWord.{StepWord}
use Rattle.evl_base.specs.declared.call.StepWord.TheVariants.{Pick}
use Rattle.evl_scenario.specs.Steps.{keys_of, word_of}
use Rattle.lab_live.specs.Helps.{call_help, form_line, form_named, form_with, forms_text, word_help}

-- a call's name is its own alone
word_named : (word : StepWord) → word_of (name_of word) ≡ Some word
word_named Pick = refl
word_named _ = refl

form_by_name : (word : StepWord) → form_named (name_of word) ≡ form_line word
form_by_name word = ap (λ (o : Option StepWord). form_with (name_of word) (option_map (drop 2) (option_map keys_of o))) (word_named word)

forms_by_name : (some : List StepWord) → flat_map form_named (map name_of some) ≡ flat_map form_line some
forms_by_name [] = refl
forms_by_name (word ∷ rest) = λ i. form_by_name word i ++ forms_by_name rest i

-- what is printed of all names is the text of all forms
pub all_forms : {T E : Type 0} (r : Result T E) (names : List (List ℕ)) (before after : List ℕ) → names ≡ map name_of words
    → OnOk r (after ≡ before ++ flat_map form_named names) → OnOk r (after ≡ before ++ forms_text)
unfolding forms_text
all_forms (Err e) names before after are told = tt
all_forms (Ok done) names before after are told =
    told ∙ ap (λ (ns : List (List ℕ)). before ++ flat_map form_named ns) are ∙ ap (λ (text : List ℕ). before ++ text) (forms_by_name words)

-- ---- one word

is_none : {A : Type 0} (o : Option A) → is_some o ≡ false → o ≡ None
is_none None h = refl
is_none (Some x) h = cc

-- of a word that a call has, and of another one
pub helped : (word : List ℕ) (is_call : Bool) (before after : List ℕ) → is_call ≡ is_some (word_of word) → is_call ≡ true → after ≡ before ++ call_help word
    → after ≡ before ++ word_help word
helped word is_call before after same is told =
    told ∙ ap (λ (b : Bool). before ++ (if b then call_help word else codes "! 3: there is no such call; ? tells all\n")) (sym is ∙ same)

pub not_helped : (word : List ℕ) (is_call : Bool) (before mid after : List ℕ) → is_call ≡ is_some (word_of word) → is_call ≡ false → (word_of word ≡ None → mid ≡ before)
    → after ≡ mid ++ codes "! 3: there is no such call; ? tells all\n" → after ≡ before ++ word_help word
not_helped word is_call before mid after same is none told =
    let isnt : is_some (word_of word) ≡ false = sym same ∙ is in
    told ∙ ap (λ (text : List ℕ). text ++ codes "! 3: there is no such call; ? tells all\n") (none (is_none (word_of word) isnt))
    ∙ ap (λ (b : Bool). before ++ (if b then call_help word else codes "! 3: there is no such call; ? tells all\n")) (sym isnt)
