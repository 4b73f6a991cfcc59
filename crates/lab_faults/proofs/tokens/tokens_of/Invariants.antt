use Rattle.std.proofs.Common.{◌≡◌, ◌++◌, drop}
use Rattle.lab_faults.specs.Pieces.{pieces, to_come}
use Rattle.lab_faults.proofs.tokens.tokens_of.Given as goal

abbrev pub invariant-loop-at : goal.invariant-loop-at
invariant-loop-at l = l.tokens.items ++ to_come l.reading l.at (drop l.at l.text) ≡ pieces l.text
