-- All that was heard of a line, part by part.
use Rattle.std.proofs.Common.{◌≡◌, ◌∙◌, ◌≤◌, ◌∷◌, ℕ, Bool, true, false, List, [], drop, get_or, length, sym, ap, arith, if◌then◌else◌, is_some, Option, None, position, Result, Ok, Err, IfOk}
use Rattle.evl_scenario.specs.Scenarios.{scenario_of}
use Rattle.evl_scenario.specs.declared.steps.Step.{Step}
use Rattle.lab_lines.specs.Lines.{begins_thread, ends_said, has_odd, heard_step, last_step, odd_key, odd_word, pairs_of, past_number, small_text, step_of_call, step_of_pairs, step_of_plain, step_of_said, step_of_thread, step_of_words, thread_behind, up_to_word, words_of}
use Rattle.lab_lines.specs.declared.lines.Heard.{Heard}
use Rattle.lab_lines.specs.declared.places.Pair.{Pair}
use Rattle.lab_lines.specs.declared.places.Part.{Part}

-- what is heard is what is meant
heard_as : {E : Type 0} (r : Result Heard E) (told meant : Option Step) → told ≡ meant → IfOk r (λ heard. heard_step heard ≡ told) → IfOk r (λ heard. heard_step heard ≡ meant)
heard_as (Ok heard) told meant same is = is ∙ same
heard_as (Err e) told meant same is = is

pub pairs_heard : {E : Type 0} (r : Result Heard E) (line : List ℕ) (thread word : Part) (pairs : List Pair) (text : List ℕ) → None ≡ odd_key line pairs
    → text ≡ small_text line word thread pairs → IfOk r (λ heard. heard_step heard ≡ last_step (scenario_of None text))
    → IfOk r (λ heard. heard_step heard ≡ step_of_pairs line thread word pairs)
pairs_heard r line thread word pairs text none is told =
    heard_as r (last_step (scenario_of None text)) (step_of_pairs line thread word pairs)
    (ap (λ (t : List ℕ). last_step (scenario_of None t)) is
    ∙ ap (λ (odd : Option Part). if is_some odd then None else last_step (scenario_of None (small_text line word thread pairs))) none)
    told

pub call_heard : {E : Type 0} (r : Result Heard E) (line : List ℕ) (thread word : Part) (rest : List Part) (pairs : List Pair) → None ≡ odd_word line rest
    → pairs ≡ pairs_of line rest → IfOk r (λ heard. heard_step heard ≡ step_of_pairs line thread word pairs)
    → IfOk r (λ heard. heard_step heard ≡ step_of_call line thread word rest)
call_heard r line thread word rest pairs none is told =
    heard_as r (step_of_pairs line thread word pairs) (step_of_call line thread word rest)
    (ap (λ (ps : List Pair). step_of_pairs line thread word ps) is
    ∙ ap (λ (odd : Option Part). if is_some odd then None else step_of_pairs line thread word (pairs_of line rest)) none)
    told

pub thread_heard : {E : Type 0} (r : Result Heard E) (line : List ℕ) (first word : Part) (rest : List Part) → begins_thread line first ≡ true
    → IfOk r (λ heard. heard_step heard ≡ step_of_call line (thread_behind first) word rest)
    → IfOk r (λ heard. heard_step heard ≡ step_of_thread line first word rest)
thread_heard r line first word rest begins told =
    let called = step_of_call line (thread_behind first) word rest in
    heard_as r called (step_of_thread line first word rest) (ap (λ (b : Bool). if b then called else None) (sym begins)) told

pub words_heard : {E : Type 0} (r : Result Heard E) (line : List ℕ) (words : List Part) (d e : Part) (rest : List Part) → 2 ≤ length words → rest ≡ drop 2 words
    → IfOk r (λ heard. heard_step heard ≡ step_of_thread line (get_or words 0 d) (get_or words 1 e) rest)
    → IfOk r (λ heard. heard_step heard ≡ step_of_words line words)
words_heard r line [] d e rest long same told = absurd (omega (arith, long))
words_heard r line (first ∷ []) d e rest long same told = absurd (omega (arith, long))
words_heard r line (first ∷ word ∷ others) d e rest long same told =
    heard_as r (step_of_thread line first word rest) (step_of_words line (first ∷ word ∷ others)) (ap (λ (ws : List Part). step_of_thread line first word ws) same) told

pub said_heard : {E : Type 0} (r : Result Heard E) (line : List ℕ) (words : List Part) (odd : Bool) → odd ≡ has_odd line words → odd ≡ false
    → IfOk r (λ heard. heard_step heard ≡ step_of_words line (past_number line words)) → IfOk r (λ heard. heard_step heard ≡ step_of_said line words)
said_heard r line words odd same none told =
    let asked = step_of_words line (past_number line words) in
    heard_as r asked (step_of_said line words) (ap (λ (b : Bool). if b then None else asked) (sym none ∙ same)) told

pub odd_heard : (line : List ℕ) (words : List Part) (odd : Bool) → odd ≡ has_odd line words → odd ≡ true → None ≡ step_of_said line words
odd_heard line words odd same some = ap (λ (b : Bool). if b then None else step_of_words line (past_number line words)) (sym some ∙ same)

pub plain_heard : {E : Type 0} (r : Result Heard E) (line : List ℕ) (all words : List Part) → all ≡ words_of line
    → words ≡ up_to_word all (position (ends_said line) all) → IfOk r (λ heard. heard_step heard ≡ step_of_said line words)
    → IfOk r (λ heard. heard_step heard ≡ step_of_plain line)
unfolding step_of_plain
plain_heard r line all words is cut told =
    heard_as r (step_of_said line words) (step_of_plain line)
    (ap (λ (ws : List Part). step_of_said line ws) (cut ∙ ap (λ (ws : List Part). up_to_word ws (position (ends_said line) ws)) is)) told
