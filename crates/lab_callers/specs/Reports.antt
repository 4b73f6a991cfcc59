-- The report so far, and what of the callers is kept beside their machine.
use Rattle.std.specs.Prelude.{ℕ, List}
use Rattle.lab_callers.specs.Holdings.{Holdings}

-- the text so far, what names hold and who waits, how many plays it has, how many calls were entered after each step, and how many staxes the board has
pub record ReportState : Type 0 where
  pub text : List ℕ
  pub holdings : Holdings
  pub plays : ℕ
  pub entered : List ℕ
  pub staxes : ℕ
