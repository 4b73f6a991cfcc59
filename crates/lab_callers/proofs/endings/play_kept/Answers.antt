use Rattle.std.proofs.Common.{◌≡◌, List, ℕ, length, string_bytes, Result, Ok, Err, subst}
use Rattle.std.specs.Prelude.{IfOk}
use Rattle.evl_scenario.specs.Lines.{board_line_of, board_line_text}
use Rattle.evl_machine.specs.callers.Handles.{newcomers_of}
use Rattle.lab_callers.specs.Crews.{crew_of}
use Rattle.lab_callers.specs.Plays.{EndsSo, Run, run_of, start_at}
use Rattle.lab_callers.proofs.endings.play_kept.Goals as goal

if_ok : {A E : Type 0} (r : Result A E) (P Q : A → Type 0) → ((a : A) → P a → Q a) → IfOk r P → IfOk r Q
if_ok (Ok a) P Q f p = f a p
if_ok (Err e) P Q f p = tt

pub returns-in-Ok-report-clause-kept : goal.returns-in-Ok-report-clause-kept
returns-in-Ok-report-clause-kept g c =
    let text = c.args.text in
    let machine = c.in-Ok.machine in
    let report = c.in-Ok-report.report in
    let none = c.in-Ok-report.ensures.none in
    let start : run_of (crew_of machine c.in-Ok.callers.items) report ≡ start_at machine (newcomers_of machine text.board.threads) (length text.board.staxes.items)
    = λ i. record { crew = crew_of machine (c.in-Ok.ensures.callers i); holdings = none.1 i; staxes = c.in-Ok-report.ensures.staxes i; plays = none.0 i; entered = none.2 i } in
    if_ok c.told_over.result _ _
    (λ kept ends. record {
      machine = machine;
      opened = c.in-Ok.ensures.opened;
      ends = subst (λ (run : Run _). EndsSo machine run text.steps.items (board_line_text (board_line_of text.board text.limit)) kept.told.ending (string_bytes kept.told.lines) (string_bytes kept.told.closing) kept.entered.items kept.kernel) start
          (subst (λ (line : List ℕ). EndsSo machine (run_of (crew_of machine c.in-Ok.callers.items) report) text.steps.items line kept.told.ending (string_bytes kept.told.lines) (string_bytes kept.told.closing) kept.entered.items kept.kernel) c.in-Ok-report.ensures.line ends);
    })
    c.told_over.ensures.ends
