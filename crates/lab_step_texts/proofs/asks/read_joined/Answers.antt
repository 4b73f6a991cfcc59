use Rattle.std.proofs.Common.{Bor, ◌≡◌, ◌∙◌, ℕ, List, ap, inl, inr, map, refl, sym}
use Rattle.lab_step_orders.specs.declared.watches.StepWatch.{StepWatch}
use Rattle.lab_scenario_orders.specs.declared.watches.Watch.{Watch}
use Rattle.lab_step_texts.specs.Asks.{are_none}
use Rattle.lab_step_texts.proofs.QuestionLaws.{none_there}
use Rattle.lab_step_texts.proofs.asks.read_joined.Goals as goal

pub returns-in-Ok-states_of-clause-asks : goal.returns-in-Ok-states_of-clause-asks
returns-in-Ok-states_of-clause-asks c =
    let asks = c.with_states.ensures in (
      c.in-Ok.ask,
      c.in-Ok.ensures.asks,
      record {
        none = sym c.as_slice.ensures.value ∙ none_there c.as_slice.result.now (sym c.are_none.ensures ∙ c.if-not-are_none.false);
        never = asks.never;
        always_ends = asks.always_ends;
        ends_waits = asks.ends_waits;
        as_picked = asks.as_picked;
        outcomes = asks.outcomes;
        states = ap (λ (all : List _). map (λ watch. watch.when) all) asks.watches ∙ (c.in-Ok-states_of.ensures ∙ ap (λ (all : List StepWatch). map (λ watch. watch.when) all) c.as_slice-2.ensures.value);
      },
    )

pub returns-in-Err-clause-why : goal.returns-in-Err-clause-why
returns-in-Err-clause-why c = inr (inl (c.args.callers.now, c.in-Err.ensures.why))

pub returns-then-not-are_none-clause-why : goal.returns-then-not-are_none-clause-why
returns-then-not-are_none-clause-why c =
    let some = ap (λ (all : List Watch). are_none all) (sym c.as_slice.ensures.value) ∙ (sym c.are_none.ensures ∙ c.if-not-are_none.true) in
    inr (inr (refl, (c.in-Ok.ask, c.in-Ok.ensures.asks, some)))
