use Rattle.lab_faults.specs.Steps.{missing_text}
use Rattle.lab_faults.proofs.steps.missing_words.Goals as goal

pub returns : goal.returns
unfolding missing_text
returns c = rw c.wanted-want.ensures at c.format.ensures.ok
