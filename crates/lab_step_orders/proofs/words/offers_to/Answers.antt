use Rattle.std.proofs.Common.{◌∙◌, ◌+◌, ◌%◌, ℕ, ap, nat_eq, sym}
use Rattle.std.specs.Prelude.{not}
use Rattle.evl_words.proofs.MutexWords.{bit_tells, no_bit_tells}
use Rattle.lab_step_orders.proofs.words.offers_to.Goals as goal

pub returns-then-word-ne0 : goal.returns-then-word-ne0
returns-then-word-ne0 c = ap (λ (n : ℕ). nat_eq (c.args.word % 65536) (n + 1)) c.from.ensures ∙ sym (bit_tells c.args.word c.args.who c.if-word-ne0.true)

pub returns-else-word-ne0 : goal.returns-else-word-ne0
returns-else-word-ne0 c = ap (λ (n : ℕ). not (nat_eq n 0)) c.if-word-ne0.false ∙ sym (no_bit_tells c.args.word c.args.who c.if-word-ne0.false)
