use Rattle.lab_faults.specs.Steps.{no_call_text}
use Rattle.lab_faults.proofs.steps.no_call_words.Goals as goal

pub returns : goal.returns
unfolding no_call_text
returns c = rw c.in_ok-hint.ensures at c.format.ensures.ok
