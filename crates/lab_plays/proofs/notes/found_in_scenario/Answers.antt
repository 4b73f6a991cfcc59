use Rattle.lab_plays.proofs.NoteLemmas.{none_of}
use Rattle.lab_plays.proofs.notes.found_in_scenario.Goals as goal

pub returns : goal.returns
returns c = record { read = λ is. none_of _ _ c.in_ok-found.ensures.first is; refused = c.in_ok-found.ensures.told }
