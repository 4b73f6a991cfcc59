use Rattle.std.proofs.Common.{refl, ◌∙◌}
use Rattle.evl_hosts.proofs.hosts.Host.try_call.Goals as goal

pub returns : goal.returns
returns c = rw (← c.self.view_is) (record {
  called = record {
    before = c.in-Some.caller;
    after = c.try_call.new.caller;
    had = c.in-Some.is;
    done = rw (← (c.machine.ensures.machine ∙ c.deref.ensures)) c.try_call.ensures.called;
    has = refl;
  };
})
