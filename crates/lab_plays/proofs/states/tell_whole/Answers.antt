use Rattle.std.proofs.Common.{◌≡◌, map, refl}
use Rattle.evl_plans.specs.Told.{handler_of}
use Rattle.evl_scenario.specs.Scenarios.{scenario_of}
use Rattle.lab_plays.specs.Plays.{ends_well}
use Rattle.lab_plays.proofs.PlayLemmas.{told}
use Rattle.lab_json.specs.Runs.{moments_json}
use Rattle.lab_plays.proofs.states.tell_whole.Goals as goal

pub returns-clause-told : goal.returns-clause-told
returns-clause-told g c =
    let whole = ends_well c.args.name.now (moments_json c.args.name.now (map handler_of c.args.plans.now) (scenario_of c.args.limit c.args.text.now)) in
    told (λ t. t ≡ whole) whole _ _ _ _ refl c.in_ok-put_states.ensures.text c.in_ok-tell_done.ensures.line
