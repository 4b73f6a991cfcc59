use Rattle.std.proofs.Common.{◌≡◌, Some, length, rules, refl, ◌∙◌, ap, subst}
use Rattle.std.proofs.lemmas.Option.{slice_get_read}
use Rattle.std.specs.Prelude.{slice_get, slice_index_or}
use Rattle.std.specs.List.{remove}
use Rattle.lab_callers.specs.Crews.{CrewState, StepsAt}
use Rattle.lab_callers.proofs.CrewLaws.{back_at}
use Rattle.evl_machine.specs.callers.Handles.{turned_away}
use Rattle.lab_callers.proofs.crew.Crew.take.Goals as goal

pub returns-in-Ok-clause-taken : goal.returns-in-Ok-clause-taken
returns-in-Ok-clause-taken g c =
    let xs = c.args.self.now.callers in
    let there = c.in_ok-place.ensures.place in
    let place = c.in_ok-place.place in
    let caller = c.remove-caller.result in
    let is = c.self.view_is in
    record {
      apart = c.in_ok-place.ensures.apart;
      caller = caller;
      taker = c.in-Ok.held;
      there = subst (λ k. slice_get xs k ≡ Some caller) there.0
          (slice_get_read xs (length xs) place caller refl there.1 (c.remove-caller.ensures.value ∙ ap (λ (crew : CrewState _). slice_index_or crew.callers place caller) is));
      took = c.in-Ok.ensures.taken;
      machine = search rules;
      others = c.remove-caller.ensures.items ∙ (ap (λ (crew : CrewState _). remove crew.callers place) is ∙ ap (λ k. remove xs k) there.0);
      held = search rules;
      holder = search rules;
    }

pub returns-in-Ok-put_back-clause-taken : goal.returns-in-Ok-put_back-clause-taken
returns-in-Ok-put_back-clause-taken g c =
    let xs = c.args.self.now.callers in
    let later = c.put_back.new.self.callers in
    let there = c.in_ok-place.ensures.place in
    let place = c.in_ok-place.place in
    let caller = c.remove-caller.result in
    let is = c.self.view_is in
    record {
      apart = c.in_ok-place.ensures.apart;
      made = subst (λ k. StepsAt xs k (λ before after. after ≡ turned_away after.lock before) later) there.0
          (back_at xs c.remove-caller.new.self.items later place caller c.in-Err.caller (λ before after. after ≡ turned_away after.lock before) there.1
          (c.remove-caller.ensures.value ∙ ap (λ (crew : CrewState _). slice_index_or crew.callers place caller) is)
          (c.remove-caller.ensures.items ∙ ap (λ (crew : CrewState _). remove crew.callers place) is) c.in-Ok-put_back.ensures.back c.in-Err.ensures.taken);
      machine = c.in-Ok-put_back.ensures.machine ∙ ap (λ (crew : CrewState _). crew.machine) is;
      held = c.in-Ok-put_back.ensures.core.0 ∙ ap (λ (crew : CrewState _). crew.held) is;
      holder = c.in-Ok-put_back.ensures.core.1 ∙ ap (λ (crew : CrewState _). crew.holder) is;
    }
