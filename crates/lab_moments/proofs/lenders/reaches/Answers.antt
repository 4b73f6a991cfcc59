use Rattle.std.proofs.Common.{sym, ◌∙◌, ◌-◌, arith}
use Rattle.evl_base.specs.Limits.{thread_limit}
use Rattle.evl_mutex.proofs.ChainLaws.{walk-on}
use Rattle.lab_moments.specs.Standings.{next_owner}
use Rattle.lab_moments.proofs.LenderLaws.{walk-ends, walk-here, walk-over}
use Rattle.lab_moments.proofs.lenders.reaches.Goals as goal

pub loop-step-preserved : goal.loop-step-preserved
loop-step-preserved g c =
    sym (walk-on (next_owner c.args.kernel.now.history.state) thread_limit c.loop-step._step c.loop-step.at c.in-Some.owner c.args.to c.loop-step-test.true (sym c.in-Some.ensures.owner) c.if-owner-to.false)
    ∙ c.loop-step.invariant

pub returns-then-owner-to : goal.returns-then-owner-to
returns-then-owner-to g c =
    record { reached = walk-here (next_owner c.args.kernel.now.history.state) thread_limit c.loop-step._step c.loop-step.at c.in-Some.owner c.args.to c.loop-step-test.true (sym c.in-Some.ensures.owner) c.if-owner-to.true ∙ c.loop-step.invariant }

pub returns-in-None : goal.returns-in-None
returns-in-None g c =
    record { reached = walk-ends (next_owner c.args.kernel.now.history.state) (thread_limit - c.loop-step._step) c.loop-step.at c.args.to (sym c.in-None.ensures.owner) ∙ c.loop-step.invariant }

pub returns : goal.returns
returns g c =
    record { reached = walk-over (next_owner c.args.kernel.now.history.state) thread_limit c.loop-step._step c.loop-step.at c.args.to (omega arith) ∙ c.loop-step.invariant }
