use Rattle.lab_json.proofs.calls.put_key.Goals as goal

pub returns : goal.returns
returns c = rw c.kind_json-takes.ensures at c.write.ensures.bytes
