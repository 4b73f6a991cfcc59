use Rattle.std.proofs.Common.{◌++◌, ◌==◌, List, ap, sym, rules}
use Rattle.lab_faults.specs.declared.tokens.Token.{Token}
use Rattle.lab_faults.proofs.PieceLaws.{mark_on, noted, quote_on, sign_on}
use Rattle.lab_faults.proofs.tokens.read_mark.Goals as goal

pub returns-then-is_quote : goal.returns-then-is_quote
returns-then-is_quote c = λ rest.
    ap (λ (behind : List Token). c.args.tokens.now.items ++ behind) (quote_on c.args.at c.args.byte rest c.requires.other (sym c.if-is_quote.ensures))

pub returns-then-byte-eq35 : goal.returns-then-byte-eq35
returns-then-byte-eq35 c = λ rest.
    ap (λ (behind : List Token). c.args.tokens.now.items ++ behind)
    (sign_on c.args.at c.args.byte rest c.requires.other (sym c.if-is_quote.ensures) (ap (λ n. n == 35) c.if-byte-eq35.true))

pub returns : goal.returns
returns c = λ rest.
    noted _ _ _ _ _ c.in_ok-note_mark.ensures
    (mark_on c.args.at c.args.byte rest c.requires.other (sym c.if-is_quote.ensures) (search (rules, c.if-byte-eq35.false)))
