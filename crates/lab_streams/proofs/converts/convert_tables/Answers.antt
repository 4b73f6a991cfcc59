use Rattle.std.proofs.Common.{◌∙◌}
use Rattle.lab_streams.proofs.ConvertLemmas.{plain_converted}
use Rattle.lab_streams.proofs.converts.convert_tables.Goals as goal

pub returns-clause-writes : goal.returns-clause-writes
returns-clause-writes g c =
    plain_converted _ c.args.asked c.args.name.now c.args.text.now _ _ _ _ _ c.convert_scenario.result c.requires (c.as_slice.ensures.value ∙ c.in_ok-plain.ensures) c.convert_scenario.ensures.writes
