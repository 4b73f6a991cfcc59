use Rattle.std.proofs.Common.{◌+◌, sym, ap, ◌∙◌}
use Rattle.std.specs.Prelude.{not, nat_eq}
use Rattle.std.proofs.lemmas.Nat.{and_mask}
use Rattle.evl_words.proofs.MutexWords.{bit_tells, no_bit_tells}
use Rattle.evl_words.proofs.mutex.bits.is_offered_to.Goals as goal

pub returns-then-word-ne0 : goal.returns-then-word-ne0
returns-then-word-ne0 c = (λ i. nat_eq (and_mask c.args.word 16 i) (c.from.ensures i + 1)) ∙ sym (bit_tells c.args.word c.args.seat c.if-word-ne0.true)

pub returns-else-word-ne0 : goal.returns-else-word-ne0
returns-else-word-ne0 c = ap (λ n. not (nat_eq n 0)) c.if-word-ne0.false ∙ sym (no_bit_tells c.args.word c.args.seat c.if-word-ne0.false)
