use Rattle.std.proofs.Common.{ap, inl, inr, is_some, refl}
use Rattle.lab_faults.proofs.checks.refused_for.Goals as goal
use Rattle.lab_faults.proofs.checks.refused_for.Goals.{in-Ok+in_ok-words-in-Ok, in-Err+in_ok-told-in-Err}

pub returns : goal.returns
returns c = elim c.match-table_from_slice.branch [
  | in-Ok+in_ok-words-in-Ok w ↦ rw w.result-is (inl (ap is_some w.in-Ok.ensures.ok.1, refl, w.in_ok-words-in-Ok.ensures.ok))
  | in-Err+in_ok-told-in-Err w ↦ rw w.result-is (inr (
    w.in-Err.stop,
    record {
      no_document = w.in-Err.ensures.refused w.in_ok-told-in-Err.ensures.read;
      read = w.in_ok-told-in-Err.ensures.read;
      within = w.in-Err.ensures.span;
      there = w.in_ok-told-in-Err.ensures.there;
    },
    w.in_ok-told-in-Err.ensures.why,
  ))
]
