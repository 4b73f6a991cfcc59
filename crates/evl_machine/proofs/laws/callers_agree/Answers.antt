use Rattle.std.proofs.Common.{sym, ◌∙◌}
use Rattle.evl_machine.proofs.laws.callers_agree.Goals as goal

pub returns : goal.returns
returns g c = λ limit w is a b at_a at_b i j k s t here there seen shown p q holds has.
    sym (at_a i s p here holds) ∙ (c.holders_agree.ensures limit w is j k s.view t.view seen shown p q holds has ∙ at_b i t q there has)
