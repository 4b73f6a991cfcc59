use Rattle.std.proofs.Common.{◌∙◌, List, ap, length, map, sym, ℕ}
use Rattle.std.specs.Prelude.{string_bytes}
use Rattle.lab_scenario_orders.proofs.AloneLaws.{kept_long}
use Rattle.lab_scenario_orders.proofs.MomentLaws.{mapped}
use Rattle.lab_scenario_orders.proofs.asking_alone.forgotten.Goals as goal

pub returns-clause-noted : goal.returns-clause-noted
returns-clause-noted c = λ callers bank watches was. record {
  places = record {
    made = was.places.made;
    answers = sym (mapped string_bytes c.in_ok-answers.answers.items)
        ∙ (ap (λ (all : List (List ℕ)). length all) c.in_ok-answers.ensures
        ∙ (kept_long c.args.told.now 0 (map string_bytes c.args.moment.answers.items)
        ∙ (mapped string_bytes c.args.moment.answers.items ∙ was.places.answers)));
  };
  noted = was.noted;
  held = was.held;
}
