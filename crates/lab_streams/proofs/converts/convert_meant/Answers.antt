use Rattle.std.proofs.Common.{refl}
use Rattle.std.proofs.lemmas.Bool.{le-ltb, lt-ltb}
use Rattle.std.specs.Prelude.{nat_lt}
use Rattle.lab_streams.specs.Endings.{line_about}
use Rattle.lab_streams.specs.Lines.{ConvertsMeant, set_up_words}
use Rattle.lab_streams.proofs.ConvertLemmas.{is_first, meant_converted}
use Rattle.lab_streams.proofs.OutputLemmas.{told}
use Rattle.lab_streams.proofs.converts.convert_meant.Goals as goal

pub returns-then-meant-gt0-clause-writes : goal.returns-then-meant-gt0-clause-writes
returns-then-meant-gt0-clause-writes g c =
    told _ (ConvertsMeant c.args.as_lines c.args.name.now c.args.meant.now) _ _ _ (line_about c.args.name.now set_up_words) c.tell_refused.result c.refused.result
    (is_first (nat_lt 0 c.args.meant.now.setup) _ _ (lt-ltb 0 c.args.meant.now.setup c.if-meant-gt0.true) refl) c.tell_refused.ensures.line c.refused.ensures.status

pub returns-clause-writes : goal.returns-clause-writes
returns-clause-writes g c =
    meant_converted _ c.args.as_lines c.args.name.now c.args.meant.now c.as_bytes.result.now _ _ _ _ c.convert_scenario.result (le-ltb 0 c.args.meant.now.setup c.if-meant-gt0.false) c.as_bytes.ensures.value c.convert_scenario.ensures.writes
