use Rattle.std.proofs.Common.{None, refl}
use Rattle.lab_json.specs.Calls.{calls_json}
use Rattle.lab.specs.Helps.{HelpsJson}
use Rattle.lab_streams.proofs.OutputLemmas.{printed}
use Rattle.lab.proofs.helps.help_json.Goals as goal

pub returns-in-None-clause-writes : goal.returns-in-None-clause-writes
returns-in-None-clause-writes g c = rw c.in-None.is (printed _ (HelpsJson None) _ _ _ calls_json c.print_calls.result refl c.print_calls.ensures.forms c.print_calls.ensures.status)
