use Rattle.lab_json.proofs.parts.put_head.Goals as goal

pub returns : goal.returns
returns g c = rw c.stage-stage.ensures.stage at c.write.ensures.bytes
