use Rattle.std.proofs.Common.{◌∙◌}
use Rattle.lab_streams.proofs.WordLemmas.{reads_flag}
use Rattle.lab_streams.proofs.words.is_set.Goals as goal

pub returns : goal.returns
returns c = c.unwrap_or.ensures ∙ reads_flag _ _ c.get_one.result c.get_one.ensures.none c.get_one.ensures.value
