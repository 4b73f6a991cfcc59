use Rattle.std.proofs.Common.{sym, ◌∙◌}
use Rattle.std.proofs.lemmas.Nat.{and_mask}
use Rattle.evl_words.proofs.GateWords.{stage_clear, stage_set, mark_test}
use Rattle.evl_words.proofs.gate.word.GateWord.of.Goals as goal
use Rattle.evl_words.proofs.gate.word.GateWord.of.Goals.{then-word-eq0, else-word-eq0}

pub returns : goal.returns
returns c = (
  and_mask c.args.word 16,
  elim c.if-word-eq0.branch [ then-word-eq0 w ↦ w.result-is ∙ sym (stage_clear c.args.word w.if-word-eq0.true) | else-word-eq0 w ↦ w.result-is ∙ sym (stage_set c.args.word w.if-word-eq0.false) ],
  mark_test c.args.word,
)
