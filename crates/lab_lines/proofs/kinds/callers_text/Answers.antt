use Rattle.std.proofs.Common.{ℕ, List, IfOk, subst}
use Rattle.lab_lines.specs.Kinds.{IsOfCallers}
use Rattle.lab_lines.proofs.kinds.callers_text.Goals as goal

pub returns-in-Ok-true-clause-plain : goal.returns-in-Ok-true-clause-plain
returns-in-Ok-true-clause-plain c =
    subst (λ (l : List ℕ). IfOk c.callers_lines.result (λ plain. IsOfCallers l plain.items)) c.as_slice-in-Ok-true.ensures.value c.callers_lines.ensures.plain
