use Rattle.std.proofs.Common.{refl}
use Rattle.std.specs.Fmt.{digits}
use Rattle.lab_json.proofs.calls.keys_of.Goals as goal

pub returns-in-Request : goal.returns-in-Request
unfolding digits
returns-in-Request c = rw c.in-Request.is refl

pub returns-in-NewTimer : goal.returns-in-NewTimer
unfolding digits
returns-in-NewTimer c = rw c.in-NewTimer.is refl
