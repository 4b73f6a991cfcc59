-- The report of the faults of a text, by its kind.
use Rattle.std.specs.Prelude.{◌≡◌, ℕ, Bool, true, false, List, [], ◌∷◌, ◌++◌, map, None, Err, is_err, is_ok}
use Rattle.evl_scenario.specs.Scenarios.{scenario_of}
use Rattle.evl_scenario.specs.declared.faults.Fault.{Fault}
use Rattle.lab_faults.specs.Checks.{Tells}
use Rattle.lab_faults.specs.Faults.{found_lines}
use Rattle.lab_faults.specs.Told.{Told, fault_told}
use Rattle.lab_faults.specs.declared.found.Found.{Found}
use Rattle.lab_kinds.specs.Banks.{BankTells}
use Rattle.lab_kinds.specs.Callers.{TellsCallers}
use Rattle.lab_kinds.specs.Orders.{OrdersTell}
use Rattle.lab_kinds.specs.declared.kinds.TextKind.{TextKind}
use Rattle.lab_kinds.specs.declared.kinds.TextKind.TheVariants.{Scenario, Orders, Callers, Bank}

-- a scenario has none, or is refused for one
pub record ScenarioTells (text : List ℕ) (faults : List Told) : Type 0 where
  pub read : is_ok (scenario_of None text) ≡ true → faults ≡ []
  pub refused : (fault : Fault) → scenario_of None text ≡ Err fault → Tells text fault faults

-- the faults of a text of a kind
abbrev pub TellsKind : TextKind → List ℕ → List Told → Type 0
TellsKind Scenario text faults = ScenarioTells text faults
TellsKind Orders text faults = OrdersTell text faults
TellsKind Callers text faults = TellsCallers text faults
TellsKind Bank text faults = BankTells text faults

abbrev pub is_some_found : List Found → Bool
is_some_found [] = false
is_some_found (one ∷ rest) = true

-- a scenario has one exactly if it can't be read
abbrev pub JudgesScenario : TextKind → List ℕ → Bool → Type 0
JudgesScenario Scenario text answer = answer ≡ is_err (scenario_of None text)
JudgesScenario _ text answer = Unit {0}

-- rule: A report gains the lines of a text's faults by its kind, in order, and answers whether there is one.
--   also: Reports.TellsKind
--   clauses: report_kind
-- their lines were added, and whether there is one is answered
pub record Reports (kind : TextKind) (name text old new : List ℕ) (answer : Bool) : Type 0 where
  pub found : List Found
  pub tells : TellsKind kind text (map fault_told found)
  pub lines : new ≡ old ++ found_lines name found
  pub answers : answer ≡ is_some_found found
  pub judges : JudgesScenario kind text answer
