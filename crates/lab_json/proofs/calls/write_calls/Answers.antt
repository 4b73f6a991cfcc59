use Rattle.lab_json.specs.Calls.{calls_json}
use Rattle.lab_json.proofs.TextLaws.{then_ok}
use Rattle.lab_json.proofs.calls.write_calls.Goals as goal

pub returns : goal.returns
unfolding calls_json
returns c = then_ok c.put_ending.result _ _ _ _ _ (rw c.all_words.ensures at c.in_ok-put_calls.ensures) c.put_ending.ensures
