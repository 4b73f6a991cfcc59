use Rattle.std.proofs.Common.{option_map}
use Rattle.lab_faults.proofs.NearLaws.{near_done}
use Rattle.lab_faults.proofs.near.near.Goals as goal

pub returns : goal.returns
returns c = near_done c.args.text.now (option_map (λ word. word.now) c.loop-word.best) (λ word. word.now) c.args.words.now c.loop-word.word-index c.loop-word-test.false c.loop-word.invariant.found
