use Rattle.std.proofs.Common.{◌≡◌, Ok, ap, inl, inr, refl, sym, ◌∙◌}
use Rattle.std.specs.Arc.{arc_value}
use Rattle.evl_hosts.proofs.HostLaws.{given_back}
use Rattle.evl_hosts.proofs.hosts.Host.look.Goals as goal

pub returns-in-Err : goal.returns-in-Err
returns-in-Err g c = rw (← c.self.view_is) (record {
  looked = record {
    before = c.in-Some.caller;
    after = c.in-Err.caller;
    had = sym c.take.ensures.value ∙ c.in-Some.is;
    done = inl (refl, c.in-Err.ensures.taken, rw (← (c.machine.ensures.machine ∙ c.deref.ensures)) c.in-Err.ensures.event);
    has = refl;
  };
})

pub returns : goal.returns
returns g c = rw (← c.self.view_is) (record {
  looked = record {
    before = c.in-Some.caller;
    after = c.give.result;
    had = sym c.take.ensures.value ∙ c.in-Some.is;
    done = inr (
      c.in-Ok.held.kernel,
      (
        c.in-Ok.held,
        refl,
        c.in-Ok.ensures.taken,
        rw (← (c.machine.ensures.machine ∙ c.deref.ensures)) c.in-Ok.ensures.event,
        c.give.ensures.given,
        given_back (arc_value c.self.inside.shared) c.self.inside.caller c.in-Some.caller c.in-Ok.held c.give.result (sym c.take.ensures.value ∙ c.in-Some.is) c.self.invariant c.in-Ok.ensures.taken c.give.ensures.event,
      ),
      ap Ok (c.ask-told.ensures ∙ ap (g.Q.Question.told_of c.args.question.now) c.kernel.ensures),
    );
    has = refl;
  };
})
