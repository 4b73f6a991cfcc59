use Rattle.lab_warnings.proofs.counts.write_threads.Goals as goal

pub returns : goal.returns
returns c = rw c.from.ensures at c.write_lack.ensures
