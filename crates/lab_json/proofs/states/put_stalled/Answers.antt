use Rattle.lab_json.proofs.states.put_stalled.Goals as goal

pub returns : goal.returns
returns g c = rw c.stalled-stalled.ensures.stalled at c.write.ensures.bytes
