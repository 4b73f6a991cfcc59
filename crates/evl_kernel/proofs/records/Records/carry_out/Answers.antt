use Rattle.std.proofs.Common.{sym, ◌∙◌}
use Rattle.std.proofs.lemmas.List.{at_drop_more}
use Rattle.evl_kernel.specs.settling.Settling.{all_acted}
use Rattle.evl_kernel.specs.state.Records.{state_of}
use Rattle.evl_kernel.proofs.state.CallbackLaws.{keeps-both}
use Rattle.evl_kernel.proofs.records.Records.carry_out.Goals as goal

pub loop-action-preserved : goal.loop-action-preserved
loop-action-preserved g c = record {
  acted = rw c.act.ensures.acted
      (sym (at_drop_more (all_acted (state_of c.loop-action.self) c.args.line.0) c.args.actions.now c.loop-action.action-index _ c.loop-action-test.true) ∙ c.loop-action.invariant.acted);
  stands = keeps-both c.args.self.now c.loop-action.self c.act.new.self c.loop-action.invariant.stands c.act.ensures.stands;
}
