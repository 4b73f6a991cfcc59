-- The lines of a trace, read.
use Rattle.std.specs.Prelude.{ℕ, ◌<◌, ◌^◌, nat_eq, List, ◌++◌, codes, decimal, if◌then◌else◌, Option, Some, None, option_map, option_and_then}
use Rattle.std.specs.List.{starts_with}
use Rattle.evl_base.specs.Play.{play_text}
use Rattle.evl_base.specs.declared.play.Play.{Play}
use Rattle.evl_scenario.specs.declared.lines.BoardLine.{BoardLine}
use Rattle.evl_scenario.specs.Lines.{element_counts_text, owner_counts_text}
use Rattle.evl_scenario.specs.Values.{number_below, past_front, text_number}
use Rattle.lab_traces.specs.Entries.{EntryParts, PartsFit, entry_read, entry_text}
use Rattle.lab_traces.specs.Plays.{PlayFits, counted_read, play_read}

-- what a line of a trace says
pub data Said : Type 0 where
  board : BoardLine → Said
  entry : EntryParts → Said
  play : Play → Said

-- the line of a board and a limit, without the line feed at its end
abbrev pub board_text : BoardLine → List ℕ
board_text line =
    codes "board threads=" ++ (decimal line.threads
    ++ (codes " " ++ (element_counts_text line.elements
    ++ (codes " " ++ (owner_counts_text line.owners
    ++ (codes " limit=" ++ decimal line.limit))))))

-- the line that says this, without the line feed at its end
abbrev pub said_text : Said → List ℕ
said_text (board line) = board_text line
said_text (entry parts) = entry_text parts
said_text (play p) = codes "  " ++ play_text p

-- numbers that fit their fields
pub record BoardFits (line : BoardLine) : Type 0 where
  pub threads : line.threads < 2 ^ 16
  pub sems : line.elements.sems < 2 ^ 64
  pub flags : line.elements.flags < 2 ^ 64
  pub xbufs : line.elements.xbufs < 2 ^ 64
  pub mutexes : line.owners.mutexes < 2 ^ 64
  pub groups : line.owners.groups < 2 ^ 64
  pub limit : line.limit < 2 ^ 32

abbrev pub SaidFits : Said → Type 0
SaidFits (board line) = BoardFits line
SaidFits (entry parts) = PartsFit parts
SaidFits (play p) = PlayFits p

abbrev pub limit_read : ℕ → ℕ × ℕ × ℕ → ℕ × ℕ → List ℕ → Option BoardLine
limit_read threads elements owners text =
    option_map (λ limit. record { threads = threads; elements = record { sems = elements.0; flags = elements.1; xbufs = elements.2 }; owners = record { mutexes = owners.0; groups = owners.1 }; limit = limit })
    (option_and_then (λ digits. number_below (2 ^ 32) (text_number digits)) (past_front (codes "limit=") text))

abbrev pub owners_read : ℕ → ℕ × ℕ × ℕ → List ℕ → Option BoardLine
owners_read threads elements text =
    option_and_then (λ (mutexes, rest).
    option_and_then (λ (groups, last). limit_read threads elements (mutexes, groups) last) (counted_read (codes "groups=") rest)) (counted_read (codes "mutexes=") text)

abbrev pub elements_read : ℕ → List ℕ → Option BoardLine
elements_read threads text =
    option_and_then (λ (sems, first).
    option_and_then (λ (flags, second).
    option_and_then (λ (xbufs, third). owners_read threads (sems, flags, xbufs) third) (counted_read (codes "xbufs=") second)) (counted_read (codes "flags=") first)) (counted_read (codes "sems=") text)

-- the board and the limit that a line says
abbrev pub board_read : List ℕ → Option BoardLine
board_read text =
    option_and_then (λ (threads, rest). option_and_then (λ fits. elements_read fits rest) (number_below (2 ^ 16) (Some threads))) (counted_read (codes "board threads=") text)

abbrev pub unspaced_read : List ℕ → Option Said
unspaced_read text = if starts_with nat_eq text (codes "board ") then option_map board (board_read text) else option_map entry (entry_read text)

abbrev pub spaced_read : List ℕ → Option (List ℕ) → Option Said
spaced_read text None = unspaced_read text
spaced_read text (Some rest) = option_map play (play_read rest)

-- what a line says, if it is a line of a trace
abbrev pub line_read : List ℕ → Option Said
line_read text = spaced_read text (past_front (codes "  ") text)
