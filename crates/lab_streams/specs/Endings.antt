-- The words on how a text ended that was played, and the status.
use Rattle.std.specs.Prelude.{ℕ, List, ◌++◌, codes, decimal, Bool, if◌then◌else◌, Option, Some, None, option_map}
use Rattle.evl_scenario.specs.Lines.{line_feed}
use Rattle.evl_scenario.specs.declared.faults.Fault.{Fault}
use Rattle.evl_scenario.specs.declared.faults.Fault.TheVariants.{Text, Board, Step, Memory, Write}
use Rattle.lab_kinds.specs.declared.kinds.TextKind.{TextKind}
use Rattle.lab_kinds.specs.declared.kinds.TextKind.TheVariants.{Scenario, Orders, Callers, Bank}

-- a line about the text of this name
abbrev pub line_about : List ℕ → List ℕ → List ℕ
line_about name words = name ++ (codes ": " ++ (words ++ line_feed))

-- the words of what is wrong in a text; of what isn't wrong in it there are none
abbrev pub fault_words : Fault → Option (List ℕ)
fault_words Text = Some (codes "bad text")
fault_words Board = Some (codes "bad board")
fault_words (Step n) = Some (codes "bad step " ++ decimal n)
fault_words Memory = None
fault_words Write = None

-- what a text is that is no scenario, and for which part; of a scenario these words are said
abbrev pub words_by : TextKind → List ℕ → List ℕ
words_by Scenario words = words
words_by Orders words = codes "has [[setup]] or [ask]: a text for lab orders"
words_by Callers words = codes "has staxes or words of callers: a text for lab callers, or for lab orders if it has lasts or [what_if]"
words_by Bank words = codes "has [[callback]]: a bank, for --bank"

-- a part that takes texts of this kind beside scenarios takes one as it takes these
abbrev pub as_orders : TextKind → TextKind
as_orders Orders = Scenario
as_orders kind = kind

abbrev pub as_callers : TextKind → TextKind
as_callers Callers = Scenario
as_callers kind = kind

-- the words of what is wrong in a text of a kind that is taken as a scenario
abbrev pub kinded_words : TextKind → Fault → Option (List ℕ)
kinded_words kind fault = option_map (words_by kind) (fault_words fault)

-- the status of texts that were gone through
abbrev pub status_of : Bool → ℕ
status_of at_fault = if at_fault then 2 else 0
