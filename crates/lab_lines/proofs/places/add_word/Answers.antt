use Rattle.std.proofs.Common.{◌∙◌, List, ap, sym}
use Rattle.lab_lines.specs.Lines.{with_rest}
use Rattle.lab_lines.specs.declared.places.Pair.{Pair}
use Rattle.lab_lines.proofs.PairLaws.{key_more, value_more}
use Rattle.lab_lines.proofs.places.add_word.Goals as goal

pub returns-in_ok-add_pair-in-Some : goal.returns-in_ok-add_pair-in-Some
returns-in_ok-add_pair-in-Some c rest =
    let line = c.args.line.now in
    ap (λ (ps : List Pair). with_rest line ps rest) c.in_ok-add_pair-in-Some.ensures
    ∙ key_more line c.args.word c.in-Some.at (sym c.in-Some.ensures.place) rest c.args.pairs.now.items

pub returns-in_ok-lengthen-in-None : goal.returns-in_ok-lengthen-in-None
returns-in_ok-lengthen-in-None c rest =
    let line = c.args.line.now in
    ap (λ (ps : List Pair). with_rest line ps rest) c.in_ok-lengthen-in-None.ensures
    ∙ value_more line c.args.word (sym c.in-None.ensures.place) rest c.args.pairs.now.items
