use Rattle.std.proofs.Common.{◌++◌, List, ap, sym}
use Rattle.lab_faults.specs.declared.tokens.Token.{Token}
use Rattle.lab_faults.proofs.PieceLaws.{noted, quoted_on, quoted_over}
use Rattle.lab_faults.proofs.tokens.read_quoted.Goals as goal

pub returns-then-closes : goal.returns-then-closes
returns-then-closes c = λ rest.
    noted _ _ _ _ _ c.in_ok-end_word.ensures (quoted_over c.args.from c.args.quote c.args.escaped c.args.at c.args.byte rest (sym c.if-closes.ensures))

pub returns : goal.returns
returns c = λ rest.
    rw c.escapes.ensures
    (ap (λ (behind : List Token). c.args.tokens.now.items ++ behind)
    (quoted_on c.args.from c.args.quote c.args.escaped c.args.at c.args.byte rest (sym c.if-closes.ensures)))
