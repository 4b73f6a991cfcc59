use Rattle.std.proofs.Common.{None, refl}
use Rattle.lab_live.specs.Helps.{forms_text}
use Rattle.lab.specs.Helps.{Helps}
use Rattle.lab_streams.proofs.OutputLemmas.{printed}
use Rattle.lab.proofs.helps.help.Goals as goal

pub returns-in-None-clause-writes : goal.returns-in-None-clause-writes
returns-in-None-clause-writes g c = rw c.in-None.is (printed _ (Helps None) _ _ _ forms_text c.print_forms.result refl c.print_forms.ensures.forms c.print_forms.ensures.status)
