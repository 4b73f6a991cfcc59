use Rattle.std.proofs.Common.{◌∙◌, List, OnOk, ℕ, subst}
use Rattle.std.specs.Io.KnownBytes.{Appends}
use Rattle.lab_streams.specs.Endings.{line_about}
use Rattle.lab_asks.specs.StepOrders.{line_words}
use Rattle.lab_asks.proofs.step_orders.tell_facts.Goals as goal

pub returns-clause-text : goal.returns-clause-text
returns-clause-text g c =
    subst (λ (w : List ℕ). OnOk c.tell_line.result (Appends (g.E.Stream.contents c.args.err.now) (g.E.Stream.contents c.tell_line.new.err) (line_about c.args.name.now (line_words c.args.line w))))
    (c.as_str.ensures.value ∙ c.in_ok-words.ensures) c.tell_line.ensures.text
