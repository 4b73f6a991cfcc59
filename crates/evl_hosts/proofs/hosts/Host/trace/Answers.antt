use Rattle.std.proofs.Common.{◌≡◌, inl, inr, refl, sym, ◌∙◌}
use Rattle.evl_hosts.specs.Hosts.{kernel_trace}
use Rattle.evl_hosts.proofs.HostLaws.{given_back, told}
use Rattle.evl_scenario.specs.Traces.{history_trace}
use Rattle.std.specs.Arc.{arc_value}
use Rattle.evl_hosts.proofs.hosts.Host.trace.Goals as goal

pub returns-in-Err : goal.returns-in-Err
returns-in-Err c = rw (← c.self.view_is) (record {
  traced = record {
    before = c.in-Some.caller;
    after = c.in-Err.caller;
    had = sym c.take.ensures.value ∙ c.in-Some.is;
    done = inl (refl, c.in-Err.ensures.taken, rw (← (c.machine.ensures.machine ∙ c.deref.ensures)) c.in-Err.ensures.event);
    has = refl;
  };
})

pub returns : goal.returns
returns c =
    let same : history_trace c.board.result.now c.limit.result c.kernel.result.now.history.entries c.kernel.result.now.history.plays ≡ kernel_trace (arc_value c.self.inside.shared) c.in-Ok.held.kernel =
    rw (c.board.ensures, c.deref-2.ensures, c.limit.ensures, c.deref-3.ensures, c.kernel.ensures) refl in
    rw (← c.self.view_is) (record {
      traced = record {
        before = c.in-Some.caller;
        after = c.give.result;
        had = sym c.take.ensures.value ∙ c.in-Some.is;
        done = inr (
          c.in-Ok.held.kernel,
          (
            c.in-Ok.held,
            refl,
            c.in-Ok.ensures.taken,
            rw (← (c.machine.ensures.machine ∙ c.deref.ensures)) c.in-Ok.ensures.event,
            c.give.ensures.given,
            given_back (arc_value c.self.inside.shared) c.self.inside.caller c.in-Some.caller c.in-Ok.held c.give.result (sym c.take.ensures.value ∙ c.in-Some.is) c.self.invariant c.in-Ok.ensures.taken c.give.ensures.event,
          ),
          told c.trace_kernel-text.result _ _ same c.trace_kernel-text.ensures.trace c.trace_kernel-text.ensures.refused,
        );
        has = refl;
      };
    })
