-- The lines of a run, one after the other.
use Rattle.std.proofs.Common.{◌≡◌, ℕ, ◌+◌, ◌<◌, List, [], ◌∷◌, Bool, ◌++◌, length, drop, get_or, Option, Result, ap, refl, sym, subst, ◌∙◌, arith}
use Rattle.std.proofs.Math.Seq.{drop-append_seam}
use Rattle.std.proofs.lemmas.List.{drop_more}
use Rattle.evl_base.specs.declared.board.Board.{Board}
use Rattle.evl_base.specs.declared.play.Play.{Play}
use Rattle.evl_base.specs.declared.refusal.Refusal.{Refusal}
use Rattle.evl_base.specs.declared.reply.Reply.{Reply}
use Rattle.evl_kernel.specs.state.KernelViews.{KernelView, IsOpened}
use Rattle.evl_kernel.specs.state.Openings.{opening}
use Rattle.evl_pipeline.specs.declared.plan.Plan.{Plan}
use Rattle.evl_scenario.specs.declared.steps.Step.{Step}
use Rattle.evl_scenario.specs.declared.faults.Fault.{Fault}
use Rattle.evl_scenario.specs.Lines.{AreLines, board_line_of, board_line_text, line_text, play_line_text, play_lines}
use Rattle.evl_scenario.proofs.LineLemmas.{lines-append, line-whole, play_lines-whole}
use Rattle.evl_shell.specs.Faults.{Stopped}
use Rattle.evl_shell.specs.Moments.{moment, Turns}
use Rattle.evl_shell.specs.Runs.{Moment, Turn, turn, turn_lines, lines_from, beginning, handlers_of, script_trace}
use Rattle.evl_scenario.specs.Scenarios.{Script}
use Rattle.evl_shell.specs.Sinks.{Passes}
use Rattle.evl_shell.proofs.PassLemmas.{Passes-append, Stopped-more, Stopped-second}

-- the line of the play at an index, and the lines after it
pub play_lines-at : (plays : List Play) (i : ℕ) (play : Play) (done line all : List ℕ) → done ++ play_lines (drop i plays) ≡ all → i < length plays
    → line ≡ play_line_text (get_or plays i play) → done ++ (line ++ play_lines (drop (i + 1) plays)) ≡ all
play_lines-at plays i play done line all e h is =
    ap (λ (s : List ℕ). done ++ (s ++ play_lines (drop (i + 1) plays))) is
    ∙ ap (λ (s : List ℕ). done ++ s) (sym (ap play_lines (drop_more plays i play h))) ∙ e

-- the lines of the next step, and the lines after them
pub lines_from-next : (limit : ℕ) (m after : Moment) (same : ℕ) (rest others : List Step) (step : Step) (done all : List ℕ) → done ++ lines_from limit m rest ≡ all
    → rest ≡ step ∷ others → after ≡ (turn limit m step).after → same ≡ limit
    → done ++ (turn_lines step (turn limit m step) ++ lines_from same after others) ≡ all
lines_from-next limit m after same rest others step done all e split is bound =
    ap (λ (n : ℕ). done ++ (turn_lines step (turn limit m step) ++ lines_from n after others)) bound
    ∙ ap (λ (t : Moment). done ++ (turn_lines step (turn limit m step) ++ lines_from limit t others)) is
    ∙ ap (λ (steps : List Step). done ++ lines_from limit m steps) (sym split) ∙ e

-- no steps are left
pub lines_from-none : (limit : ℕ) (m : Moment) (rest : List Step) → length rest ≡ 0 → lines_from limit m rest ≡ []
lines_from-none limit m [] none = refl
lines_from-none limit m (step ∷ others) none = absurd (omega (arith, none))

-- bytes that are whole lines, by another name
pub lines-same : (shown lines : List ℕ) → shown ≡ lines → AreLines lines → AreLines shown
lines-same shown lines is h = let P : List ℕ → Type 0 = λ s. AreLines s in subst P (sym is) h

-- the lines of a step are whole
pub step_lines-whole : (number : Option ℕ) (step : Step) (answer : Result Reply Refusal) (plays : List Play) → AreLines (line_text number step answer ++ play_lines plays)
step_lines-whole number step answer plays = lines-append (line_text number step answer) (play_lines plays) (line-whole number step answer) (play_lines-whole plays)

-- what stopped a step's line stopped its lines
pub turn-line_stopped : (old new : Option (List ℕ)) (waited line : List ℕ) (step : Step) (t : Turn) (failed : Bool) (fault : Fault) → line ≡ line_text t.number step t.answer
    → Stopped old waited new line failed fault → Stopped old waited new (turn_lines step t) failed fault
turn-line_stopped old new waited line step t failed fault is h =
    let P : List ℕ → Type 0 = λ l. Stopped old waited new (l ++ play_lines t.plays) failed fault in
    subst P is (Stopped-more old new waited line (play_lines t.plays) failed fault h)

-- the plays past those that the kernel showed before are the turn's own
pub own_plays : {C : Type 0} (old new : KernelView C) (t : Turn) (shown plays : List Play) → shown ≡ old.history.plays → Turns old new t → plays ≡ drop (length shown) new.history.plays
    → plays ≡ t.plays
own_plays old new t shown plays before turns found =
    found ∙ ap (λ (ps : List Play). drop (length ps) new.history.plays) before ∙ ap (λ (ps : List Play). drop (length old.history.plays) ps) turns.plays
    ∙ drop-append_seam old.history.plays t.plays

-- a step's line, and then the lines of its plays
pub turn-whole : (old mid new : Option (List ℕ)) (waited between waiting line : List ℕ) (step : Step) (t : Turn) (plays : List Play)
    → line ≡ line_text t.number step t.answer → plays ≡ t.plays
    → Passes old waited mid between line → Passes mid between new waiting (play_lines plays) → Passes old waited new waiting (turn_lines step t)
turn-whole old mid new waited between waiting line step t plays is own h k =
    let P : List ℕ → Type 0 = λ l. Passes old waited new waiting l in
    subst P (ap (λ (l : List ℕ). l ++ play_lines plays) is ∙ ap (λ (ps : List Play). line_text t.number step t.answer ++ play_lines ps) own)
    (Passes-append old mid new waited between waiting line (play_lines plays) h k)

-- a step's line passed, and then the lines of its plays stopped
pub turn-plays_stopped : (old mid new : Option (List ℕ)) (waited between line : List ℕ) (step : Step) (t : Turn) (plays : List Play) (failed : Bool) (fault : Fault)
    → line ≡ line_text t.number step t.answer → plays ≡ t.plays
    → Passes old waited mid between line → Stopped mid between new (play_lines plays) failed fault → Stopped old waited new (turn_lines step t) failed fault
turn-plays_stopped old mid new waited between line step t plays failed fault is own h k =
    Stopped-second old mid new waited between line (play_lines plays) (turn_lines step t) failed fault
    (ap (λ (l : List ℕ). l ++ play_lines plays) is ∙ ap (λ (ps : List Play). line_text t.number step t.answer ++ play_lines ps) own)
    h (lines-same line (line_text t.number step t.answer) is (line-whole t.number step t.answer)) k

-- the trace of a script, from what was opened
pub script_trace-opened : {C : Type 0} (declared : C → ℕ) (plan : C → Plan) (bank : List C) (script : Script) (line : List ℕ) (board : Board) (limit : ℕ) (steps : List Step) (kernel : KernelView C)
    → board ≡ script.board → limit ≡ script.limit → steps ≡ script.steps → line ≡ board_line_text (board_line_of board limit) → IsOpened declared plan board bank limit kernel
    → line ++ lines_from kernel.limit (moment kernel) steps ≡ script_trace (handlers_of declared plan bank) script
script_trace-opened declared plan bank script line board limit steps kernel b l s is k =
    let start : moment kernel ≡ beginning (opening board (handlers_of declared plan bank)) =
    (λ i. record { entries = length (k.entries i); state = (k.state ∙ (λ j. opening (k.board_is j) (k.bank_is j))) i }) in
    rw (start, k.limit_is, is, b, l, s)
