-- A text grows by parts.
use Rattle.std.proofs.Common.{◌≡◌, ℕ, ◌<◌, ◌+◌, List, ◌++◌, append_assoc, drop, get_or, length, sym, ap, ◌∙◌}
use Rattle.std.proofs.lemmas.List.{drop_more}
use Rattle.lab_drawing.specs.declared.marks.Mark.{Mark}
use Rattle.lab_reports.specs.Quotes.{json_text}
use Rattle.lab_reports.specs.Events.{event_text, events_from, names_text, event_noted, track, wait_text}

pub two_more : (old a b one new : List ℕ) → one ≡ old ++ a → new ≡ one ++ b → new ≡ old ++ (a ++ b)
two_more old a b one new e f = f ∙ ap (λ (x : List ℕ). x ++ b) e ∙ append_assoc old a b

pub three_more : (old a b c one two new : List ℕ) → one ≡ old ++ a → two ≡ one ++ b → new ≡ two ++ c → new ≡ old ++ (a ++ (b ++ c))
three_more old a b c one two new e f g = two_more old a (b ++ c) one new e (two_more one b c two new f g)

pub quoted_more : (old line shown new : List ℕ) → new ≡ old ++ json_text line → line ≡ shown → new ≡ old ++ json_text shown
quoted_more old line shown new e same = e ∙ ap (λ (x : List ℕ). old ++ json_text x) same

-- the events of one mark more
pub events_more : (marks : List Mark) (i : ℕ) (d : Mark) (named noted_now : List ℕ) (old one two new all : List ℕ) → i < length marks
    → one ≡ old ++ names_text named (get_or marks i d).lane → noted_now ≡ event_noted named (track (get_or marks i d).lane)
    → two ≡ one ++ event_text (i + 1) (get_or marks i d) → new ≡ two ++ wait_text (i + 1) (get_or marks i d) (get_or marks i d).shape
    → old ++ events_from named (i + 1) (drop i marks) ≡ all
    → new ++ events_from noted_now (i + 1 + 1) (drop (i + 1) marks) ≡ all
events_more marks i d named noted_now old one two new all h e n f g whole =
    let mark = get_or marks i d in
    let rest = drop (i + 1) marks in
    sym (append_assoc_four old (names_text named mark.lane) (event_text (i + 1) mark) (wait_text (i + 1) mark mark.shape) one two new (events_from noted_now (i + 1 + 1) rest) e f g)
    ∙ ap (λ (ns : List ℕ). old ++ (names_text named mark.lane ++ (event_text (i + 1) mark ++ (wait_text (i + 1) mark mark.shape ++ events_from ns (i + 1 + 1) rest)))) n
    ∙ ap (λ (ms : List Mark). old ++ events_from named (i + 1) ms) (sym (drop_more marks i d h))
    ∙ whole
  where
    append_assoc_four : (old a b c one two new tail : List ℕ) → one ≡ old ++ a → two ≡ one ++ b → new ≡ two ++ c → old ++ (a ++ (b ++ (c ++ tail))) ≡ new ++ tail
    append_assoc_four old a b c one two new tail e f g =
        sym (append_assoc old a (b ++ (c ++ tail))) ∙ ap (λ (x : List ℕ). x ++ (b ++ (c ++ tail))) (sym e)
        ∙ sym (append_assoc one b (c ++ tail)) ∙ ap (λ (x : List ℕ). x ++ (c ++ tail)) (sym f)
        ∙ sym (append_assoc two c tail) ∙ ap (λ (x : List ℕ). x ++ tail) (sym g)
