use Rattle.lab_streams.proofs.StreamLemmas.{early_beside}
use Rattle.lab.proofs.do_words.Goals as goal

pub returns-in-Err : goal.returns-in-Err
returns-in-Err g c = record { early = early_beside c.turn_away.result _ _ _ c.turn_away.ensures.early }
