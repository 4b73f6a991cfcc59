use Rattle.std.proofs.Common.{◌++◌, List, ap, rules}
use Rattle.lab_faults.specs.declared.tokens.Token.{Token}
use Rattle.lab_faults.proofs.PieceLaws.{comment_on}
use Rattle.lab_faults.proofs.tokens.read_comment.Goals as goal

pub returns-else-byte-eq10 : goal.returns-else-byte-eq10
returns-else-byte-eq10 c = λ rest.
    ap (λ (behind : List Token). c.args.tokens.now.items ++ behind) (comment_on c.args.at c.args.byte rest (search (rules, c.if-byte-eq10.false)))
