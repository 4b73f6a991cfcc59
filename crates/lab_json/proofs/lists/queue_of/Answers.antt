use Rattle.std.proofs.Common.{◌≡◌, arith, length, sym}
use Rattle.evl_kernel.specs.waiting.Standing.{queue_of}
use Rattle.lab_json.proofs.NumberLaws.{waited_all, waited_more}
use Rattle.lab_json.proofs.lists.queue_of.Goals as goal

pub loop-thread-preserved : goal.loop-thread-preserved
loop-thread-preserved g c =
    let long : c.len.result ≡ length c.loop-thread.all.items = omega (arith, c.len.ensures, c.loop-thread.all.ok.0) in
    waited_more (queue_of c.args.kernel.now.history.state.elements c.args.on) c.loop-thread.all.items c.push.new.self.items c.in-Some.thread.0 c.loop-thread.invariant
    (sym (rw long at c.in-Some.ensures.waiter)) c.in_ok-push.ensures.items

pub returns : goal.returns
returns g c =
    let long : c.len.result ≡ length c.loop-thread.all.items = omega (arith, c.len.ensures, c.loop-thread.all.ok.0) in
    waited_all (queue_of c.args.kernel.now.history.state.elements c.args.on) c.loop-thread.all.items c.loop-thread.invariant
    (sym (rw long at c.in_default.ensures.waiter))
