use Rattle.std.proofs.Common.{map}
use Rattle.evl_kernel.specs.calls.CrossBuffers.{service_told}
use Rattle.evl_kernel.specs.state.Records.{state_of}
use Rattle.evl_kernel.proofs.state.CallbackLaws.{keeps-both}
use Rattle.evl_kernel.proofs.waiting.WaitRecords.{expired_by}
use Rattle.evl_kernel.proofs.records.Records.expire.Goals as goal

pub returns : goal.returns
returns g c = record {
  expired = expired_by (state_of c.args.self.now) (state_of c.leave_queue.new.self) (state_of c.wake.new.self) (state_of c.wake_served.new.self) c.args.thread.0 (map service_told c.leave_queue.new.told)
      c.leave_queue.ensures.left c.leave_queue.ensures.served c.wake.ensures.woken c.wake_served.ensures.woken;
  stands = keeps-both c.args.self.now c.leave_queue.new.self c.wake_served.new.self c.leave_queue.ensures.stands
      (keeps-both c.leave_queue.new.self c.wake.new.self c.wake_served.new.self c.wake.ensures.stands c.wake_served.ensures.stands);
}
