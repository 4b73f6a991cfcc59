use Rattle.lab_faults.specs.Steps.{unknown_text}
use Rattle.lab_faults.proofs.steps.unknown_words.Goals as goal

pub returns : goal.returns
unfolding unknown_text
returns c = rw (c.in_ok-hint.ensures, c.in_ok-names.ensures) at c.format.ensures.ok
