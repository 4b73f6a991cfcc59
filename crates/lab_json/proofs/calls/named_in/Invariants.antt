use Rattle.std.proofs.Common.{◌≡◌, drop}
use Rattle.evl_scenario.specs.Steps.{named_among}
use Rattle.lab_json.proofs.calls.named_in.Given as goal

abbrev pub invariant-loop-word : goal.invariant-loop-word
invariant-loop-word l = named_among (drop l.word-index l.some) l.text ≡ named_among l.some l.text
