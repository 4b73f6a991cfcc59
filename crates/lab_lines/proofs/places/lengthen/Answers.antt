use Rattle.std.proofs.Common.{◌∙◌, List, ap, sym}
use Rattle.lab_lines.specs.Lines.{lengthened}
use Rattle.lab_lines.specs.declared.places.Pair.{Pair}
use Rattle.lab_lines.proofs.PairLaws.{last_lengthened}
use Rattle.lab_lines.proofs.places.lengthen.Goals as goal

pub returns-in_ok-push-in-Some : goal.returns-in_ok-push-in-Some
returns-in_ok-push-in-Some c =
    let left = c.pop.new.self.items in
    c.in_ok-push-in-Some.ensures.items ∙ sym (last_lengthened c.args.to left c.in-Some.last)
    ∙ ap (λ (ps : List Pair). lengthened c.args.to ps) (sym c.in-Some.ensures.items)
