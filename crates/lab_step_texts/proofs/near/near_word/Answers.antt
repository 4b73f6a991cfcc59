use Rattle.std.proofs.Common.{◌≡◌, ◌∙◌, Bor, IfOk, List, ℕ, ap, map, option_map, subst}
use Rattle.std.specs.Prelude.{find}
use Rattle.lab_step_texts.specs.Near.{fact_words, is_word_for}
use Rattle.lab_step_texts.proofs.near.near_word.Goals as goal

pub returns : goal.returns
returns c =
    subst (λ (words : List (List ℕ)). IfOk c.first_for.result (λ found. option_map (λ word. word.now) found ≡ find (is_word_for words) fact_words))
    (ap (λ (words : List (Bor (List ℕ))). map (λ word. word.now) words) c.as_slice.ensures.value ∙ c.in_ok-words.ensures)
    (subst (λ (known : List (List ℕ)). IfOk c.first_for.result (λ found. option_map (λ word. word.now) found ≡ find (is_word_for (map (λ word. word.now) c.as_slice.result.now)) known))
    c.fact_words.ensures c.first_for.ensures)
