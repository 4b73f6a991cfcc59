use Rattle.std.proofs.Common.{true, ◌||◌, ◌≡◌, List, sym, ap, ◌∙◌}
use Rattle.std.proofs.lemmas.List.{at_drop_more}
use Rattle.std.proofs.lemmas.Bool.{or_right}
use Rattle.evl_sync.specs.FlagGroups.{pairs}
use Rattle.evl_sync.specs.declared.flag_waiter.TakenBits.{TakenBits}
use Rattle.evl_kernel.specs.state.States.{State}
use Rattle.evl_kernel.specs.calls.Elements.{elements}
use Rattle.evl_kernel.specs.calls.FlagGroups.{all_served}
use Rattle.evl_kernel.specs.waiting.Standing.{is_served, stands_for}
use Rattle.evl_kernel.specs.waiting.Waits.{all_woken}
use Rattle.evl_kernel.specs.state.Records.{state_of}
use Rattle.evl_kernel.proofs.state.CallbackLaws.{keeps-both}
use Rattle.evl_kernel.proofs.records.Records.wake_all.Goals as goal

pub loop-one-preserved : goal.loop-one-preserved
loop-one-preserved g c = record {
  woken = rw c.wake.ensures.woken
      (sym (at_drop_more (λ (served : List TakenBits). all_woken (state_of c.loop-one.self) (all_served (pairs served))) c.args.served.now c.loop-one.one-index _ c.loop-one-test.true)
      ∙ c.loop-one.invariant.woken);
  away = λ thread is on.
      ap (λ (s : State). stands_for (elements s) on thread) c.wake.ensures.woken
      ∙ c.loop-one.invariant.away thread
      (at_drop_more (λ (served : List TakenBits). is_served thread (all_served (pairs served))) c.args.served.now c.loop-one.one-index (record { thread = record { 0 = 0 }; bits = 0 }) c.loop-one-test.true ∙ or_right _ _ is) on;
  stands = keeps-both c.args.self.now c.loop-one.self c.wake.new.self c.loop-one.invariant.stands c.wake.ensures.stands;
}
