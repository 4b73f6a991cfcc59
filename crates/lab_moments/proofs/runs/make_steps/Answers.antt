use Rattle.std.proofs.Common.{◌≡◌, ◌++◌, arith, length, map}
use Rattle.evl_shell.specs.Moments.{moment}
use Rattle.lab_moments.specs.Moments.{moment_shown, shown_from}
use Rattle.lab_moments.proofs.AskedLaws.{each_asks, same_asked}
use Rattle.lab_moments.proofs.RunLaws.{none_more, one_more}
use Rattle.lab_moments.proofs.runs.make_steps.Goals as goal

pub loop-step-init : goal.loop-step-init
loop-step-init c =
    let same = c.into_iter-step-iterator.ensures.into_iter_gives.0 in
    let k = c.args.kernel.now in
    record {
      shown = λ i. map moment_shown (c.new-moments.ensures.items i) ++ shown_from c.args.lanes.now k.limit (moment k) (same i);
      asked = c.requires.asked;
      ask = same_asked _ _ c.args.below same c.requires.ask;
    }

pub loop-step-preserved : goal.loop-step-preserved
loop-step-preserved c =
    let kept = c.loop-step.invariant in
    let cut = c.in-Some.ensures.steps.0 in
    let did = c.in_ok-moment.ensures in
    record {
      shown = one_more c.args.lanes.now _ _ _ _ _ _ _ _ _ c.in-Some.step _ kept.shown cut did.turned did.shown c.in_ok-push.ensures.items did.limit;
      asked = did.asked;
      ask = (each_asks _ _ c.in-Some.step c.args.below cut kept.ask).1;
    }

pub returns : goal.returns
returns c =
    let rest = c.loop-step.step-iterator.rest in
    let none : length rest.items ≡ 0 = omega (arith, rest.ok.0, c.in-None.ensures.steps.0) in
    none_more c.args.lanes.now _ _ _ rest.items _ c.loop-step.invariant.shown none
