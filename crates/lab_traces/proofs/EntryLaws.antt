-- The line of an entry is read as its parts, and the parts that a line is read as have just its text.
use Rattle.std.proofs.Common.{arith, ◌≡◌, ℕ, ◌<◌, ◌^◌, Bool, true, false, List, ◌∷◌, ◌++◌, codes, decimal, if◌then◌else◌, Option, Some, None, option_map, refl, sym, ap, ◌∙◌, append_assoc}
use Rattle.std.proofs.lemmas.Slice.Eq.{bytes_eq-Decides}
use Rattle.std.specs.Str.{bytes_eq}
use Rattle.evl_scenario.specs.Lines.{number_text}
use Rattle.evl_scenario.specs.Values.{around_space, number_below, past_front, text_number}
use Rattle.lab_traces.specs.Parts.{around, before_end, Lacks}
use Rattle.lab_traces.specs.Entries.{EntryParts, PartsFit, NumberFits, entry_text, entry_read, numbered_read, called_read, number_read, thread_read, around_arrow}
use Rattle.lab_traces.proofs.NumberLaws.{decimal-lacks, decimal-no_dash, number-at, number-whole, small-at, small-whole}
use Rattle.lab_traces.proofs.OptionLaws.{and_then_some, map_some}
use Rattle.lab_traces.proofs.PartLaws.{around-at, around-whole, before-at, before-whole, lacks-append, past-whole}

-- ---- what is written is read

number_lacks : (n : Option ℕ) → NumberFits n → Lacks 32 (number_text n)
number_lacks None h = refl
number_lacks (Some n) h = decimal-lacks 32 n refl h

number_back : (n : Option ℕ) → NumberFits n → number_read (number_text n) ≡ Some n
number_back None h = refl
number_back (Some n) h = rw (decimal-no_dash n h, number-at n h) refl

thread_back : (n : ℕ) → n < 2 ^ 16 → thread_read (84 ∷ decimal n) ≡ Some n
thread_back n h = small-at (2 ^ 16) n h (omega arith)

arrow_back : (call answer : List ℕ) → Lacks 62 call → around_arrow (call ++ (codes " -> " ++ answer)) ≡ Some (call, answer)
arrow_back call answer h =
    let moved : call ++ (codes " -> " ++ answer) ≡ (call ++ codes " -") ++ 62 ∷ (32 ∷ answer) = sym (append_assoc call (codes " -") (62 ∷ (32 ∷ answer))) in
    ap around_arrow moved ∙ rw (around-at 62 (call ++ codes " -") (32 ∷ answer) (lacks-append 62 call (codes " -") h refl), before-at (codes " -") call) refl

pub entry-back : (parts : EntryParts) → PartsFit parts → entry_read (entry_text parts) ≡ Some parts
entry-back parts fits =
    let digits : Lacks 32 (decimal parts.thread) = decimal-lacks 32 parts.thread refl (omega (arith, fits.thread)) in
    let rest : List ℕ = parts.call ++ (codes " -> " ++ parts.answer) in
    rw (
      around-at 32 (number_text parts.number) (84 ∷ (decimal parts.thread ++ 32 ∷ rest)) (number_lacks parts.number fits.number),
      number_back parts.number fits.number,
      around-at 32 (84 ∷ decimal parts.thread) rest digits,
      thread_back parts.thread fits.thread,
      arrow_back parts.call parts.answer fits.call,
    ) refl

-- ---- what is read was written so

number_cases : (t : List ℕ) (n : Option ℕ) (v : Bool) → bytes_eq t (codes "-") ≡ v → (if v then Some None else option_map Some (text_number t)) ≡ Some n → t ≡ number_text n
number_cases t n true e h =
    let none : None ≡ n = cc in
    (bytes_eq-Decides t (codes "-")).0 e ∙ ap number_text none
number_cases t n false e h =
    let (m, is, same) = map_some Some (text_number t) n h in
    number-whole t m is ∙ ap number_text same

number_whole : (t : List ℕ) (n : Option ℕ) → number_read t ≡ Some n → t ≡ number_text n
number_whole t n h = number_cases t n _ refl h

thread_whole : (t : List ℕ) (n : ℕ) → thread_read t ≡ Some n → t ≡ 84 ∷ decimal n
thread_whole t n h =
    let (digits, front, read) = and_then_some (λ (ds : List ℕ). number_below (2 ^ 16) (text_number ds)) (past_front (codes "T") t) n h in
    past-whole (codes "T") t digits front ∙ ap (λ (x : List ℕ). 84 ∷ x) (small-whole (2 ^ 16) n digits read)

arrow_join : (t f b before behind call answer : List ℕ) → t ≡ f ++ 62 ∷ b → f ≡ before ++ codes " -" → b ≡ codes " " ++ behind
    → before ≡ call → behind ≡ answer → t ≡ call ++ (codes " -> " ++ answer)
arrow_join t f b before behind call answer around front back first second =
    around ∙ rw (front, back, first, second) (append_assoc call (codes " -") (62 ∷ 32 ∷ answer))

arrow_whole : (t call answer : List ℕ) → around_arrow t ≡ Some (call, answer) → t ≡ call ++ (codes " -> " ++ answer)
arrow_whole t call answer h =
    let (cut, around, h1) = and_then_some _ (around 62 t) _ h in
    let (before, front, h2) = and_then_some _ (before_end (codes " -") cut.0) _ h1 in
    let (behind, back, same) = map_some _ (past_front (codes " ") cut.1) _ h2 in
    arrow_join t cut.0 cut.1 before behind call answer (around-whole 62 t cut.0 cut.1 around) (before-whole (codes " -") cut.0 before front) (past-whole (codes " ") cut.1 behind back)
    (ap (λ (p : List ℕ × List ℕ). p.0) same) (ap (λ (p : List ℕ × List ℕ). p.1) same)

entry_join : (t a b c d : List ℕ) (number : Option ℕ) (thread : ℕ) (call answer : List ℕ) → t ≡ a ++ 32 ∷ b → a ≡ number_text number → b ≡ c ++ 32 ∷ d
    → c ≡ 84 ∷ decimal thread → d ≡ call ++ (codes " -> " ++ answer)
    → t ≡ entry_text (record { number = number; thread = thread; call = call; answer = answer })
entry_join t a b c d number thread call answer one two three four five = one ∙ rw (two, three, four, five) refl

pub entry-whole : (t : List ℕ) (parts : EntryParts) → entry_read t ≡ Some parts → t ≡ entry_text parts
entry-whole t parts h =
    let (first, one, h1) = and_then_some numbered_read (around_space t) parts h in
    let (number, two, h2) = and_then_some _ (number_read first.0) parts h1 in
    let (second, three, h3) = and_then_some (called_read number) (around_space first.1) parts h2 in
    let (thread, four, h4) = and_then_some _ (thread_read second.0) parts h3 in
    let (called, five, same) = map_some _ (around_arrow second.1) parts h4 in
    entry_join t first.0 first.1 second.0 second.1 number thread called.0 called.1 (around-whole 32 t first.0 first.1 one) (number_whole first.0 number two)
    (around-whole 32 first.1 second.0 second.1 three) (thread_whole second.0 thread four) (arrow_whole second.1 called.0 called.1 five)
    ∙ ap entry_text same
