-- How the trace of a history grows by an entry.
use Rattle.std.proofs.Common.{◌≡◌, ◌∙◌, ℕ, ◌+◌, List, [], ◌∷◌, ◌++◌, length, take, drop, Result, Ok, Err, OnOk, sym, ap, arith}
use Rattle.std.proofs.Math.Seq.{take-append_seam, drop-append_seam}
use Rattle.std.proofs.lemmas.List.{append_assoc, append-nil, length-append}
use Rattle.evl_base.specs.declared.board.Board.{Board}
use Rattle.evl_base.specs.declared.entry.Entry.{Entry}
use Rattle.evl_base.specs.declared.play.Play.{Play}
use Rattle.evl_kernel.specs.histories.Histories.{History, IsLegal, Run, opened_kernel}
use Rattle.evl_kernel.specs.state.States.{State}
use Rattle.evl_scenario.specs.Lines.{board_line_of, board_line_text}
use Rattle.evl_scenario.specs.Traces.{entry_lines, history_trace, lines_behind}
use Rattle.evl_scenario.specs.declared.steps.Step.{Step}
use Rattle.lab_live.specs.Sessions.{Driven, TellsEntry, TellsTrace}

-- the plays after an entry's own
behind : (own others plays : List Play) (count : ℕ) → plays ≡ own ++ others → count ≡ length own → (take count plays ≡ own) × (drop count plays ≡ others)
behind own others plays count split counted = (
  ap (take count) split ∙ ap (λ (n : ℕ). take n (own ++ others)) counted ∙ take-append_seam own others,
  ap (drop count) split ∙ ap (λ (n : ℕ). drop n (own ++ others)) counted ∙ drop-append_seam own others,
)

-- the lines of entries with one more after them are their lines, and those of that one with its own plays
lines_grow : (count : ℕ) (from to : State) (entries : List Entry) (plays : List Play) (entry : Entry) (own : List Play)
    → Run from entries plays to → entry.plays ≡ length own
    → lines_behind count (entries ++ entry ∷ []) (plays ++ own) ≡ lines_behind count entries plays ++ entry_lines (count + length entries + 1) entry own
lines_grow count from to [] plays entry own (none, same) counted =
    let all : plays ++ own ≡ own ++ [] = ap (λ (ps : List Play). ps ++ own) none ∙ sym (append-nil own) in
    let its = behind own [] (plays ++ own) entry.plays all counted in
    let number : count + 1 ≡ count + length {A = Entry} [] + 1 = omega arith in
    append-nil (entry_lines (count + 1) entry (take entry.plays (plays ++ own)))
    ∙ (λ i. entry_lines (number i) entry (its.0 i))
lines_grow count from to (first ∷ rest) plays entry own (mine, others, mid, split, step, more) counted =
    let all : plays ++ own ≡ mine ++ (others ++ own) = ap (λ (ps : List Play). ps ++ own) split ∙ append_assoc mine others own in
    let now = behind mine (others ++ own) (plays ++ own) first.plays all step.0 in
    let before = behind mine others plays first.plays split step.0 in
    let next = lines_grow (count + 1) mid to rest others entry own more counted in
    let number : (count + 1) + length rest + 1 ≡ count + length (first ∷ rest) + 1 = omega arith in
    let last = λ (n : ℕ). entry_lines n entry own in
    (λ i. entry_lines (count + 1) first (now.0 i) ++ lines_behind (count + 1) (rest ++ entry ∷ []) (now.1 i))
    ∙ ap (λ (ls : List ℕ). entry_lines (count + 1) first mine ++ ls) next
    ∙ sym (append_assoc (entry_lines (count + 1) first mine) (lines_behind (count + 1) rest others) (last ((count + 1) + length rest + 1)))
    ∙ (λ i. (entry_lines (count + 1) first (sym before.0 i) ++ lines_behind (count + 1) rest (sym before.1 i)) ++ last (number i))

-- the trace of a legal history grows by the lines of its new entry
trace_grows : (board : Board) (limit : ℕ) (old new : History) (entry : Entry) (own : List Play) → IsLegal old → entry.plays ≡ length own
    → new.entries ≡ old.entries ++ entry ∷ [] → new.plays ≡ old.plays ++ own
    → history_trace board limit new.entries new.plays
    ≡ history_trace board limit old.entries old.plays ++ entry_lines (length new.entries) entry own
trace_grows board limit old new entry own legal counted entries plays =
    let first = board_line_text (board_line_of board limit) in
    let number : 0 + length old.entries + 1 ≡ length new.entries =
    omega (arith, ap (λ (es : List Entry). length es) entries, length-append old.entries (entry ∷ [])) in
    (λ i. first ++ lines_behind 0 (entries i) (plays i))
    ∙ ap (λ (ls : List ℕ). first ++ ls) (lines_grow 0 (opened_kernel old) old.state old.entries old.plays entry own legal counted)
    ∙ sym (append_assoc first (lines_behind 0 old.entries old.plays) (entry_lines (0 + length old.entries + 1) entry own))
    ∙ ap (λ (n : ℕ). (first ++ lines_behind 0 old.entries old.plays) ++ entry_lines n entry own) number

-- the lines of the entry that came are those by which the trace grew
tells_trace : (old new : Driven) (step : Step) (before after : List ℕ) → new.board ≡ old.board → new.limit ≡ old.limit → IsLegal old.history
    → TellsEntry old.history new.history step before after → TellsTrace old new before after
tells_trace old new step before after board limit legal tells = record {
  lines = entry_lines (length new.history.entries) tells.entry tells.plays;
  told = tells.told;
  trace = (λ i. history_trace (board i) (limit i) new.history.entries new.history.plays)
      ∙ trace_grows old.board old.limit old.history new.history tells.entry tells.plays legal tells.counted tells.entries_are tells.plays_are;
}

-- whether or not something was printed
pub tells_trace_on : {T E : Type 0} (r : Result T E) (Applies : Type 0) (old new : Driven) (step : Step) (before after : List ℕ) → new.board ≡ old.board → new.limit ≡ old.limit
    → IsLegal old.history → OnOk r (Applies → TellsEntry old.history new.history step before after) → OnOk r (Applies → TellsTrace old new before after)
tells_trace_on (Ok done) Applies old new step before after board limit legal tells = λ applies. tells_trace old new step before after board limit legal (tells applies)
tells_trace_on (Err e) Applies old new step before after board limit legal tells = tt
