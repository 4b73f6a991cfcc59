-- The lines of a trace.
use Rattle.std.specs.Prelude.{◌≡◌, ◌⊎◌, ℕ, List, [], ◌∷◌, ◌++◌, length, codes, decimal, Option, Some, None, Result}
use Rattle.evl_base.specs.Call.{call_text}
use Rattle.evl_base.specs.Play.{play_text}
use Rattle.evl_base.specs.Reply.{outcome_text}
use Rattle.evl_base.specs.declared.board.Board.{Board}
use Rattle.evl_base.specs.declared.play.Play.{Play}
use Rattle.evl_base.specs.declared.refusal.Refusal.{Refusal}
use Rattle.evl_base.specs.declared.reply.Reply.{Reply}
use Rattle.evl_scenario.specs.declared.lines.BoardLine.{BoardLine}
use Rattle.evl_scenario.specs.declared.lines.ElementCounts.{ElementCounts}
use Rattle.evl_scenario.specs.declared.lines.OwnerCounts.{OwnerCounts}
use Rattle.evl_scenario.specs.declared.steps.Step.{Step}

abbrev pub line_feed : List ℕ
line_feed = 10 ∷ []

-- the last of the bytes is a line feed
pub record EndsLine (bytes : List ℕ) : Type 0 where
  pub front : List ℕ
  pub whole : bytes ≡ front ++ line_feed

-- lines, each of them whole
abbrev pub AreLines : List ℕ → Type 0
AreLines bytes = (bytes ≡ []) ⊎ EndsLine bytes

-- how many elements there are
abbrev pub element_counts_text : ElementCounts → List ℕ
element_counts_text counts =
    codes "sems=" ++ (decimal counts.sems ++ (codes " flags=" ++ (decimal counts.flags ++ (codes " xbufs=" ++ decimal counts.xbufs))))

abbrev pub owner_counts_text : OwnerCounts → List ℕ
owner_counts_text counts = codes "mutexes=" ++ (decimal counts.mutexes ++ (codes " groups=" ++ decimal counts.groups))

-- the first line
abbrev pub board_line_text : BoardLine → List ℕ
board_line_text line =
    codes "board threads=" ++ (decimal line.threads
    ++ (codes " " ++ (element_counts_text line.elements
    ++ (codes " " ++ (owner_counts_text line.owners
    ++ (codes " limit=" ++ (decimal line.limit ++ line_feed)))))))

abbrev pub element_counts : Board → ElementCounts
element_counts board = record { sems = length board.sems.items; flags = length board.flags.items; xbufs = length board.xbufs.items }

abbrev pub owner_counts : Board → OwnerCounts
owner_counts board = record { mutexes = length board.mutexes.items; groups = length board.groups.items }

abbrev pub board_line_of : Board → ℕ → BoardLine
board_line_of board limit =
    record { threads = board.threads; elements = element_counts board; owners = owner_counts board; limit = limit }

-- the number of an entry, or a dash
abbrev pub number_text : Option ℕ → List ℕ
number_text None = codes "-"
number_text (Some n) = decimal n

-- who makes the call of a step, and the call
abbrev pub step_text : Step → List ℕ
step_text step = codes "T" ++ (decimal step.who.0 ++ (codes " " ++ call_text step.call))

-- the line of a step that has this text
abbrev pub line_around : Option ℕ → List ℕ → Result Reply Refusal → List ℕ
line_around number step answer = number_text number ++ (codes " " ++ (step ++ (codes " -> " ++ (outcome_text answer ++ line_feed))))

-- the line of a step
abbrev pub line_text : Option ℕ → Step → Result Reply Refusal → List ℕ
line_text number step answer = line_around number (step_text step) answer

-- the line of a play
abbrev pub play_line_text : Play → List ℕ
play_line_text play = codes "  " ++ (play_text play ++ line_feed)

abbrev pub play_lines : List Play → List ℕ
play_lines [] = []
play_lines (play ∷ rest) = play_line_text play ++ play_lines rest
