use Rattle.std.proofs.Common.{◌≡◌}
use Rattle.evl_kernel.proofs.records.Records.serve_wait.Goals as goal
use Rattle.evl_kernel.proofs.records.Records.serve_wait.Goals.{in-BeginGet, in-BeginTake, in-BeginWrite, in-BeginRead, in-Claim}

pub returns-clause-served : goal.returns-clause-served
returns-clause-served g c = rw c.begun.ensures.answer (elim c.match-call.branch [
  | in-BeginGet w ↦ rw (w.in-BeginGet.is, w.begins-is, w.self-is) w.begin_get-begins.ensures.served
  | in-BeginTake w ↦ rw (w.in-BeginTake.is, w.begins-is, w.self-is) w.begin_take-begins.ensures.served
  | in-BeginWrite w ↦ rw (w.in-BeginWrite.is, w.begins-is, w.self-is) w.begin_writing-begins.ensures.served
  | in-BeginRead w ↦ rw (w.in-BeginRead.is, w.begins-is, w.self-is) w.begin_reading-begins.ensures.served
  | in-Claim w ↦ rw (w.in-Claim.is, w.begins-is, w.self-is) w.begin_owning-begins.ensures.served
])

pub returns-clause-stands : goal.returns-clause-stands
returns-clause-stands g c = elim c.match-call.branch [
  | in-BeginGet w ↦ rw w.self-is w.begin_get-begins.ensures.stands
  | in-BeginTake w ↦ rw w.self-is w.begin_take-begins.ensures.stands
  | in-BeginWrite w ↦ rw w.self-is w.begin_writing-begins.ensures.stands
  | in-BeginRead w ↦ rw w.self-is w.begin_reading-begins.ensures.stands
  | in-Claim w ↦ rw w.self-is w.begin_owning-begins.ensures.stands
]
