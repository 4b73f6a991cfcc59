use Rattle.std.proofs.Common.{Bool, ap, eq-eqb, ◌∙◌}
use Rattle.std.specs.Prelude.{not}
use Rattle.lab_step_orders.proofs.HeldLaws.{claim_queues, claim_wins}
use Rattle.lab_step_orders.proofs.words.claimed_held.Goals as goal

pub returns-then-word-ne0 : goal.returns-then-word-ne0
returns-then-word-ne0 c = claim_queues c.args.word c.args.caller c.args.held c.if-word-ne0.true

pub returns-else-word-ne0 : goal.returns-else-word-ne0
returns-else-word-ne0 c = ap (λ (b : Bool). not b) (eq-eqb c.args.word 0 c.if-word-ne0.false) ∙ claim_wins c.args.word c.args.caller c.args.held c.if-word-ne0.false
