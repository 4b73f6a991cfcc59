use Rattle.std.proofs.Common.{◌∙◌, map, sym}
use Rattle.evl_plans.specs.Told.{handler_of}
use Rattle.lab_plays.proofs.NoteLemmas.{noted_faults, noted_warnings}
use Rattle.lab_plays.proofs.notes.note_kind.Goals as goal

pub returns-then-is_some_found : goal.returns-then-is_some_found
returns-then-is_some_found c =
    let found = c.in_ok-found.found.items in
    let some = rw c.as_slice.ensures.value at c.is_some_found.ensures in
    record {
      found = found;
      tells = c.in_ok-found.ensures;
      answers = sym c.if-is_some_found.true ∙ some;
      written = noted_faults (map handler_of c.args.plans.now) c.args.kind c.args.name.now c.args.text.now found _ _ (sym some ∙ c.if-is_some_found.true)
          (rw c.as_slice-then-is_some_found.ensures.value at c.in_ok-write_faults.ensures);
    }

pub returns : goal.returns
returns c =
    let found = c.in_ok-found.found.items in
    let some = rw c.as_slice.ensures.value at c.is_some_found.ensures in
    record {
      found = found;
      tells = c.in_ok-found.ensures;
      answers = sym c.if-is_some_found.false ∙ some;
      written = noted_warnings (map handler_of c.args.plans.now) c.args.kind c.args.name.now c.args.text.now found _ _ (sym some ∙ c.if-is_some_found.false)
          c.in_ok-note_warnings.ensures;
    }
