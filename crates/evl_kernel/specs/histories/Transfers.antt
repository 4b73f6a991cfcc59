-- All that goes through each way of a cross-buffer in a history.
use Rattle.std.specs.Prelude.{ℕ, ◌≡◌, nat_lt, Bool, true, false, not, ◌&&◌, List, filter_map, Option, Some, None, slice_get, if◌then◌else◌}
use Rattle.evl_base.specs.declared.way.Way.{Way}
use Rattle.evl_base.specs.declared.way.Way.TheVariants.{In, Out}
use Rattle.evl_xbuf.specs.Flows as flows
use Rattle.evl_xbuf.specs.Flows.{Flow, IsStream, run}
use Rattle.evl_xbuf.specs.Streams.{Stream}
use Rattle.evl_xbuf.specs.Xbufs.{Xbuf, reading_stage, same_stage, stream, writing_stage}
use Rattle.evl_kernel.specs.calls.CrossBuffers as through
use Rattle.evl_kernel.specs.calls.CrossBuffers.{XbufStep}
use Rattle.evl_kernel.specs.calls.Effects.{Made}
use Rattle.evl_kernel.specs.calls.Elements.{elements, part, its_xbuf}
use Rattle.evl_kernel.specs.histories.Histories.{History, IsLegal, opened_kernel}
use Rattle.evl_kernel.specs.histories.Replays.{touches}

abbrev pub same_way : Way → Way → Bool
same_way In In = true
same_way In Out = false
same_way Out In = false
same_way Out Out = true

abbrev pub if_reached : Bool → flows.Call → Option flows.Call
if_reached reached call = if reached then Some call else None

-- the call on this way that a step is: none where the step is on the other way, from the wrong stage, or out of range
abbrev pub call_on : Way → XbufStep → Option flows.Call
call_on way (through.write stage w bytes) = if_reached (same_way way w && same_stage (writing_stage w) stage) (flows.Write bytes)
call_on way (through.read stage w len) = if_reached (same_way way w && not (nat_lt 256 len) && same_stage (reading_stage w) stage) (flows.Read len)
call_on way (through.room w) = None
call_on way (through.begin_write thread w bytes) = if_reached (same_way way w) (flows.BeginWrite thread bytes)
call_on way (through.begin_read thread w len) = if_reached (same_way way w && not (nat_lt 256 len)) (flows.BeginRead thread len)
call_on way (through.drop thread w) = if_reached (same_way way w) (flows.Drop thread)

-- the calls on this way among the steps of a cross-buffer
abbrev pub calls_on : Way → List (Made XbufStep) → List flows.Call
calls_on way steps = filter_map (λ made. call_on way made.step) steps

-- All bytes that were accepted into the way are those that were read from it, in order, and after them those that are there.
pub record GoesThrough (f : Flow) (end : Stream) : Type 0 where
  pub after_is : f.after ≡ end
  pub in_order : IsStream f

-- rule: Over any legal history all bytes accepted on a way of a cross-buffer are those read, in order, followed by
--   those that are there.
--   clauses: reads_follow_writes_there
-- over the whole part of a cross-buffer in a history, for each way: so what was read by all is the front of what was
-- accepted from all
abbrev pub ReadsFollowWritesThere : Type 0
ReadsFollowWritesThere =
    (h : History) → IsLegal h → (n : ℕ) (x : Xbuf) → slice_get (elements (opened_kernel h)).xbufs n ≡ Some x → (way : Way)
    → (y : Xbuf) × (slice_get (elements h.state).xbufs n ≡ Some y) × GoesThrough (run (calls_on way (part (its_xbuf n) (touches h))) (stream x way)) (stream y way)
