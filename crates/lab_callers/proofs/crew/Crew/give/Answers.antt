use Rattle.std.proofs.Common.{rules, ◌≡◌, ◌∙◌, sym, ap}
use Rattle.std.specs.List.{insert}
use Rattle.lab_callers.specs.Crews.{CrewState, GivesCore}
use Rattle.lab_callers.proofs.CrewLaws.{on_ok}
use Rattle.lab_callers.proofs.crew.Crew.give.Goals as goal

pub returns-in-Some-clause-given : goal.returns-in-Some-clause-given
returns-in-Some-clause-given g c =
    let is = c.self.view_is in
    on_ok (c.put_back.new.self.callers ≡ insert c.self.inside.callers.items c.from.result c.give.result) (GivesCore c.args.self.now c.args.who.0 c.put_back.new.self) c.put_back.result
    c.put_back.ensures.back (λ back. record {
      giver = c.in-Some.held;
      back = c.give.result;
      was = sym (ap (λ (crew : CrewState _). crew.held) is) ∙ (sym c.take.ensures.value ∙ c.in-Some.is);
      who_is = search rules;
      machine = c.put_back.ensures.machine ∙ ap (λ (crew : CrewState _). crew.machine) is;
      given = c.give.ensures.given;
      event = c.give.ensures.event;
      others = back ∙ λ i. insert (is i).callers (c.from.ensures i) c.give.result;
      held = c.put_back.ensures.core.0 ∙ c.take.ensures.after;
    })
