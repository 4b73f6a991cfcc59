-- Lines after lines.
use Rattle.std.proofs.Common.{◌≡◌, ◌∙◌, ◌<◌, ◌++◌, ◌+◌, ℕ, zero, suc, List, [], ◌∷◌, length, get_or, flat_map, map, slice_get, drop, option_map, append-nil, append_assoc, add-one, refl, sym, ap}
use Rattle.std.proofs.lemmas.List.{drop_more}
use Rattle.evl_base.specs.declared.entry.Entry.{Entry}
use Rattle.evl_base.specs.declared.stage.Stage.{Stage}
use Rattle.evl_kernel.specs.state.States.{State}
use Rattle.lab_warnings.specs.Warnings.{pending_line, pending_lines, wait_line, wait_lines}

-- what is added to a text, and what is added after that
pub behind : (before mid after xs ys : List ℕ) → mid ≡ before ++ xs → after ≡ mid ++ ys → after ≡ before ++ (xs ++ ys)
behind before mid after xs ys first then = then ∙ ap (λ (m : List ℕ). m ++ ys) first ∙ append_assoc before xs ys

-- what is added in three parts
pub behind_two : (text first second all a b c : List ℕ) → first ≡ text ++ a → second ≡ first ++ b → all ≡ second ++ c → all ≡ text ++ (a ++ (b ++ c))
behind_two text first second all a b c one two three = behind text first all a (b ++ c) one (behind first second all b c two three)

-- what is added in four parts
pub behind_three : (text first second third all a b c d : List ℕ) → first ≡ text ++ a → second ≡ first ++ b → third ≡ second ++ c → all ≡ third ++ d
    → all ≡ text ++ (a ++ (b ++ (c ++ d)))
behind_three text first second third all a b c d one two three four =
    behind text first all a (b ++ (c ++ d)) one (behind_two first second third all b c d two three four)

-- of the threads below 0 nothing is said
pub no_waits : (name : List ℕ) (entries : List Entry) (s : State) (before : List ℕ) → before ≡ before ++ wait_lines name entries s 0
unfolding wait_lines
no_waits name entries s before = sym (append-nil before)

pub one_wait : (name : List ℕ) (entries : List Entry) (s : State) (thread : ℕ) (before mid after : List ℕ) → mid ≡ before ++ wait_lines name entries s thread
    → after ≡ mid ++ wait_line name entries s thread → after ≡ before ++ wait_lines name entries s (thread + 1)
unfolding wait_lines
one_wait name entries s thread before mid after first then =
    behind before mid after (wait_lines name entries s thread) (wait_line name entries s thread) first then
    ∙ ap (λ (n : ℕ). before ++ wait_lines name entries s n) (sym (add-one thread))

-- nor of the lines below 0
pub no_pending : (name : List ℕ) (s : State) (stage : Stage) (before : List ℕ) → before ≡ before ++ pending_lines name s stage 0
unfolding pending_lines
no_pending name s stage before = sym (append-nil before)

pub one_pending : (name : List ℕ) (s : State) (stage : Stage) (line : ℕ) (before mid after : List ℕ) → mid ≡ before ++ pending_lines name s stage line
    → after ≡ mid ++ pending_line name s stage line → after ≡ before ++ pending_lines name s stage (line + 1)
unfolding pending_lines
one_pending name s stage line before mid after first then =
    behind before mid after (pending_lines name s stage line) (pending_line name s stage line) first then
    ∙ ap (λ (n : ℕ). before ++ pending_lines name s stage n) (sym (add-one line))

-- of a list made one by one of another the one at an index is made of the one there
pub got_of : {A B : Type 0} (f : A → B) (xs : List A) (i : ℕ) → slice_get (map f xs) i ≡ option_map f (slice_get xs i)
got_of f [] i = refl
got_of f (x ∷ xs) zero = refl
got_of f (x ∷ xs) (suc i) = got_of f xs i

-- the lines of the one at an index, and then of those after it
pub rows_on : {A : Type 0} (line : A → List ℕ) (xs : List A) (i : ℕ) (x : A) (mid new all : List ℕ) → i < length xs → x ≡ get_or xs i x
    → mid ++ flat_map line (drop i xs) ≡ all → new ≡ mid ++ line x → new ++ flat_map line (drop (i + 1) xs) ≡ all
rows_on {A} line xs i x mid new all less is before then =
    ap (λ (ls : List ℕ). ls ++ flat_map line (drop (i + 1) xs)) then
    ∙ append_assoc mid (line x) (flat_map line (drop (i + 1) xs))
    ∙ ap (λ (y : A). mid ++ (line y ++ flat_map line (drop (i + 1) xs))) is
    ∙ ap (λ (ys : List A). mid ++ flat_map line ys) (sym (drop_more xs i x less))
    ∙ before
