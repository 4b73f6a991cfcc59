-- All that a line says, and texts that are put together.
use Rattle.std.proofs.Common.{◌≡◌, ◌∙◌, ◌++◌, List, [], ℕ, append_assoc, ap, position, Result, Ok, Err, IfOk}
use Rattle.lab_lines.specs.Lines.{ends_said, up_to_word, words_of}
use Rattle.lab_lines.specs.Texts.{said_in, said_of_plain, said_of_words}
use Rattle.lab_lines.specs.declared.places.Part.{Part}
use Rattle.lab_lines.specs.declared.says.Says.{Says}

-- three parts after nothing
pub three_parts : (text first second all a b c : List ℕ) → text ≡ [] → first ≡ text ++ a → second ≡ first ++ b → all ≡ second ++ c → all ≡ a ++ (b ++ c)
three_parts text first second all a b c none one two three =
    three ∙ ap (λ (l : List ℕ). l ++ c) (two ∙ ap (λ (l : List ℕ). l ++ b) (one ∙ ap (λ (l : List ℕ). l ++ a) none)) ∙ append_assoc a b c

pub plain_said : {E : Type 0} (r : Result Says E) (line : List ℕ) (all words : List Part) → all ≡ words_of line
    → words ≡ up_to_word all (position (ends_said line) all) → IfOk r (λ says. said_in says ≡ said_of_words line words)
    → IfOk r (λ says. said_in says ≡ said_of_plain line)
unfolding said_of_plain
plain_said (Ok says) line all words is cut told =
    told ∙ ap (λ (ws : List Part). said_of_words line ws) (cut ∙ ap (λ (ws : List Part). up_to_word ws (position (ends_said line) ws)) is)
plain_said (Err e) line all words is cut told = tt
