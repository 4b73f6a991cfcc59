use Rattle.lab_kinds.proofs.FoundLaws.{judged, none_of}
use Rattle.lab_kinds.proofs.reports.found_in_scenario.Goals as goal

pub returns-clause-told : goal.returns-clause-told
returns-clause-told c = record { read = λ is. none_of _ _ c.in_ok-found.ensures.first is; refused = c.in_ok-found.ensures.told }

pub returns-clause-judged : goal.returns-clause-judged
returns-clause-judged c = judged _ _ c.in_ok-found.ensures.first
