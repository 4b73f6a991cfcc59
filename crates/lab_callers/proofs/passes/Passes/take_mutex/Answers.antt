use Rattle.std.proofs.Common.{List, ℕ, ap, sym, ◌∙◌}
use Rattle.std.specs.Prelude.{position, slice_index_or}
use Rattle.std.specs.List.{remove}
use Rattle.lab_callers.specs.Holdings.{Holdings}
use Rattle.lab_callers.specs.Names.{is_of_name}
use Rattle.lab_callers.proofs.passes.Passes.take_mutex.Goals as goal

pub returns-in-Some-clause-taken : goal.returns-in-Some-clause-taken
returns-in-Some-clause-taken c =
    let is = c.self.view_is in
    record {
      place = c.in-Some.place;
      held = c.remove.result.0;
      first = ap (λ (n : List ℕ). position (is_of_name n) c.args.self.now.mutexes) (sym c.as_str.ensures.value) ∙ (sym c.mutex_place.ensures ∙ c.in-Some.is);
      there = sym (c.remove.ensures.value ∙ ap (λ (had : Holdings). slice_index_or had.mutexes c.in-Some.place c.remove.result) is);
      others = c.remove.ensures.items ∙ ap (λ (had : Holdings). remove had.mutexes c.in-Some.place) is;
    }
