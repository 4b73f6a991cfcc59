use Rattle.std.proofs.Common.{◌++◌, List, ap, sym}
use Rattle.lab_faults.specs.declared.tokens.Token.{Token}
use Rattle.lab_faults.proofs.PieceLaws.{word_on}
use Rattle.lab_faults.proofs.tokens.read_plain.Goals as goal

pub returns-then-is_plain : goal.returns-then-is_plain
returns-then-is_plain c = λ rest.
    rw c.unwrap_or.ensures
    (ap (λ (behind : List Token). c.args.tokens.now.items ++ behind) (word_on c.args.begun c.args.at c.args.byte rest (sym c.if-is_plain.ensures)))
