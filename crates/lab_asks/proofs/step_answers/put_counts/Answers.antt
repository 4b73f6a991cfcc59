use Rattle.lab_asks.proofs.step_answers.put_counts.Goals as goal

pub returns : goal.returns
returns c = rw c.as_slice-outcomes.ensures.value at c.put_head.ensures
