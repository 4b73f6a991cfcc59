-- The lines of a history are those that a run of its calls writes.
use Rattle.std.proofs.Common.{◌≡◌, ℕ, ◌+◌, ◌≤◌, List, [], ◌∷◌, ◌++◌, length, map, take, drop, Result, Ok, Err, IfOk, refl, sym, ap, subst, ◌∙◌, arith}
use Rattle.std.proofs.Math.Seq.{take-append_seam, drop-append_seam}
use Rattle.evl_base.specs.declared.board.Board.{Board}
use Rattle.evl_base.specs.declared.call.Call.{Call}
use Rattle.evl_base.specs.declared.entry.Entry.{Entry}
use Rattle.evl_base.specs.declared.play.Play.{Play}
use Rattle.evl_base.specs.declared.refusal.Refusal.{Refusal}
use Rattle.evl_base.specs.declared.reply.Reply.{Reply}
use Rattle.evl_kernel.specs.histories.Histories.{History, Run, Step, IsLegal}
use Rattle.evl_kernel.specs.state.Limits.{play_limit}
use Rattle.evl_kernel.specs.state.Openings.{opening}
use Rattle.evl_kernel.specs.histories.Replays.{Outcome, step_outcome}
use Rattle.evl_kernel.specs.calls.Serving.{answer}
use Rattle.evl_kernel.specs.state.States.{State, Handler}
use Rattle.evl_kernel.proofs.histories.Determined.{follows_one_way}
use Rattle.evl_kernel.proofs.waiting.EndingLaws.{every_step}
use Rattle.evl_kernel.proofs.histories.HistoryLaws.{run_more}
use Rattle.evl_kernel.proofs.settling.Walking.{step_is_stepped}
use Rattle.evl_scenario.specs.Lines.{board_line_of, board_line_text}
use Rattle.evl_scenario.specs.Traces.{entry_lines, history_trace, lines_behind}
use Rattle.evl_scenario.specs.Writings.{step_of_entry}
use Rattle.evl_shell.specs.Histories.{AreSound, IsPlayedAs, HistoriesPlayAgain, PlaysAgain, StaxesLeaveNoTrace}
use Rattle.evl_shell.specs.Runs.{Moment, Turn, turn, turn_entered, turn_lines, lines_from, beginning, trace_with}
use Rattle.evl_shell.proofs.TurnLemmas.{turn-entered}

-- which plays come after an entry's own
behind : (own others plays : List Play) (count : ℕ) → plays ≡ own ++ others → count ≡ length own → (take count plays ≡ own) × (drop count plays ≡ others)
behind own others plays count split counted = (
  ap (take count) split ∙ ap (λ (n : ℕ). take n (own ++ others)) counted ∙ take-append_seam own others,
  ap (drop count) split ∙ ap (λ (n : ℕ). drop n (own ++ others)) counted ∙ drop-append_seam own others,
)

module _ (board : Board) (bank : List Handler) (sound : AreSound bank) where
  -- the step that a call of a history made is the one that is computed
  computed : (done : List Entry) (played : List Play) (now : State) (caller : ℕ) (asked : Call) (reply : Result Reply Refusal) (own : List Play) (after : State)
      → Run (opening board bank) done played now → Step now caller asked reply own after
      → step_outcome now caller asked ≡ record { reply = reply; plays = own; touches = (step_outcome now caller asked).touches; after = after }
  computed done played now caller asked reply own after legal step =
      let h : History = record { board = board; bank = bank; entries = done; plays = played; state = now } in
      let o = step_outcome now caller asked in
      let made = every_step h sound legal caller asked in
      let same = follows_one_way now (answer now caller asked) reply o.reply own o.plays after o.after step made.0 in
      step_is_stepped now caller asked reply own after step (subst (λ (ps : List Play). length ps ≤ play_limit) (sym same.1) made.1)

  -- from any place of a history on, a run of the calls that are left writes the lines of their entries
  lines_again : (limit count : ℕ) (done : List Entry) (played : List Play) (now : State) (entries : List Entry) (plays : List Play) (end : State)
      → Run (opening board bank) done played now → Run now entries plays end → count + length entries ≤ limit
      → lines_from limit (record { entries = count; state = now }) (map step_of_entry entries) ≡ lines_behind count entries plays
  lines_again limit count done played now [] plays end legal run within = refl
  lines_again limit count done played now (entry ∷ rest) plays end legal (own, others, mid, split, step, run) within =
      let m : Moment = record { entries = count; state = now } in
      let after : Moment = record { entries = count + 1; state = mid } in
      let o : Outcome = record { reply = entry.reply; plays = own; touches = (step_outcome now entry.caller.0 entry.call).touches; after = mid } in
      let is : step_outcome now entry.caller.0 entry.call ≡ o = computed done played now entry.caller.0 entry.call entry.reply own mid legal step.1 in
      let turned : turn limit m (step_of_entry entry) ≡ turn_entered m o = turn-entered limit m (step_of_entry entry) o (λ e. absurd (omega (arith, e, within))) is in
      let next : lines_from limit after (map step_of_entry rest) ≡ lines_behind (count + 1) rest others =
      lines_again limit (count + 1) (done ++ entry ∷ []) (played ++ own) mid rest others end
      (run_more (opening board bank) done played now entry own mid legal step) run (omega (arith, within)) in
      let its = behind own others plays entry.plays split step.0 in
      ap (λ (t : Turn). turn_lines (step_of_entry entry) t ++ lines_from limit t.after (map step_of_entry rest)) turned
      ∙ ap (λ (ls : List ℕ). entry_lines (count + 1) entry own ++ ls) next
      ∙ (λ i. entry_lines (count + 1) entry (sym its.0 i) ++ lines_behind (count + 1) rest (sym its.1 i))

-- a scenario of a history, played, writes the history's trace
pub histories_again : HistoriesPlayAgain
histories_again h board limit legal sound alike within text reads =
    let first = board_line_text (board_line_of board limit) in
    let steps = map step_of_entry h.entries in
    let opens : opening board h.bank ≡ opening h.board h.bank = ap (λ (b : Board). opening b h.bank) alike in
    let lines = lines_again h.board h.bank sound limit 0 [] [] (opening h.board h.bank) h.entries h.plays h.state (refl, refl) legal (omega (arith, within)) in
    ap (trace_with h.bank) reads
    ∙ ap (λ (ls : List ℕ). Ok (first ++ ls)) (ap (λ (s : State). lines_from limit (beginning s) steps) opens ∙ lines)

-- and so does what was written as that trace, if anything was
pub traced_again : {T E : Type 0} (bytes : T → List ℕ) (h : History) (board : Board) (limit : ℕ) (entries : List Entry) (plays : List Play) (r : Result T E)
    → IsLegal h → entries ≡ h.entries → plays ≡ h.plays → IfOk r (λ text. bytes text ≡ history_trace board limit entries plays)
    → IfOk r (λ text. AreSound h.bank → IsPlayedAs board h.board → length h.entries ≤ limit → PlaysAgain h board limit (bytes text))
traced_again bytes h board limit entries plays (Err e) legal same_entries same_plays wrote = tt
traced_again bytes h board limit entries plays (Ok text) legal same_entries same_plays wrote = λ sound alike within scenario reads.
    histories_again h board limit legal sound alike within scenario reads
    ∙ ap (λ (ls : List ℕ). Ok ls) (sym (wrote ∙ (λ i. history_trace board limit (same_entries i) (same_plays i))))

-- nothing of a history speaks of stage exclusion locks
pub no_trace : StaxesLeaveNoTrace
no_trace h = (((λ legal. legal), (λ legal. legal)), (λ limit. refl))
