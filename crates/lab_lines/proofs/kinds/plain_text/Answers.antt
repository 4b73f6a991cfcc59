use Rattle.std.proofs.Common.{ℕ, List, IfOk, subst}
use Rattle.lab_lines.specs.Kinds.{IsPlain}
use Rattle.lab_lines.proofs.kinds.plain_text.Goals as goal

pub returns-in-Ok-true-clause-plain : goal.returns-in-Ok-true-clause-plain
returns-in-Ok-true-clause-plain c =
    subst (λ (l : List ℕ). IfOk c.plain_lines.result (λ plain. IsPlain l plain.items)) c.as_slice-in-Ok-true.ensures.value c.plain_lines.ensures.plain
