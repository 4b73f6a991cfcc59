-- The faults that a text may have.
use Rattle.evl_scenario.specs.declared.faults.Fault.{Fault}
use Rattle.evl_scenario.specs.declared.faults.Fault.TheVariants.{Text, Board, Step, Memory, Write}

-- a fault that the text has
abbrev pub IsRefusal : Fault → Type 0
IsRefusal Text = Unit {0}
IsRefusal Board = Unit {0}
IsRefusal (Step n) = Unit {0}
IsRefusal Memory = ⊥
IsRefusal Write = ⊥
