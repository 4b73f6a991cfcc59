use Rattle.std.proofs.Common.{rules}
use Rattle.lab_step_texts.proofs.QuestionLaws.{parted_at_last, parts_more, without_more}
use Rattle.lab_step_texts.proofs.questions.pieces.Goals as goal

pub loop-one-preserved : goal.loop-one-preserved
loop-one-preserved c = (
  search rules,
  parts_more c.args.between.now c.loop-one.texts.items c.push.new.self.items c.in-Some.one c.loop-one.rest.now c.in-Some.behind.now c.args.text.now c.in_ok-push.ensures.items c.in-Some.ensures.written c.loop-one.invariant.1,
  without_more c.args.between.now c.loop-one.texts.items c.push.new.self.items c.in-Some.one c.in_ok-push.ensures.items c.in-Some.ensures.first c.loop-one.invariant.2,
)

pub returns : goal.returns
returns c = parted_at_last c.args.between.now c.args.text.now c.loop-one.texts.items c.push-2.new.self.items c.loop-one.rest c.in_ok-push-2.ensures.items c.loop-one.invariant.1 c.loop-one.invariant.2 c.in_default.ensures.none
