use Rattle.std.proofs.Common.{sym, ◌∙◌}
use Rattle.lab_step_orders.specs.Moments.{shared_of}
use Rattle.lab_step_orders.proofs.Alike.{same_mapped, same_parts}
use Rattle.lab_step_orders.proofs.shared.are_same_words.Goals as goal

pub returns : goal.returns
returns c = λ e.
    same_mapped _ shared_of (λ a b alike. let both = same_parts a.word b.word a.held.items b.held.items alike in λ i. record { word = both.0 i; held = both.1 i })
    c.args.one.now c.args.other.now (sym c.eq.ensures ∙ e)
