-- A cross-buffer: its two ways, and which stage writes and reads each.
use Rattle.std.specs.Prelude.{ℕ, Bool, true, false, List, Option, Some, None, Result, Ok, Err, if◌then◌else◌}
use Rattle.evl_base.specs.declared.stage.Stage.{Stage}
use Rattle.evl_base.specs.declared.stage.Stage.TheVariants.{Inband, Oob}
use Rattle.evl_base.specs.declared.way.Way.{Way}
use Rattle.evl_base.specs.declared.way.Way.TheVariants.{In, Out}
use Rattle.evl_base.specs.declared.refusal.Refusal.{Refusal}
use Rattle.evl_base.specs.declared.refusal.Refusal.TheVariants.{WrongStage}
use Rattle.evl_sync.specs.Steps.{unless}
use Rattle.evl_xbuf.specs.Streams as streams
use Rattle.evl_xbuf.specs.Streams.{Stream, Service, IsSoundStream, empty, out_of_range}

pub record Xbuf : Type 0 where
  pub inbound : Stream
  pub outbound : Stream

-- rule: The first size is way `In`'s ring. A step of one way leaves the other.
--   also: Xbufs.with_other_way
--   clauses: Xbuf::new
--   rows: other_way
-- the size of the ring of way `In`, and that of way `Out`
abbrev pub opened_xbuf : ℕ → ℕ → Xbuf
opened_xbuf inbound outbound = record { inbound = empty inbound; outbound = empty outbound }

abbrev pub stream : Xbuf → Way → Stream
stream x In = x.inbound
stream x Out = x.outbound

abbrev pub with_stream : Xbuf → Way → Stream → Xbuf
with_stream x In s = record x { inbound = s }
with_stream x Out s = record x { outbound = s }

-- rule: Way `In` is written in-band and read out-of-band, way `Out` the other way round; else `WrongStage`.
--   also: Xbufs.{reading_stage, stage_refusal}
--   rows: cross_buffer; other_way
abbrev pub writing_stage : Way → Stage
writing_stage In = Inband
writing_stage Out = Oob

abbrev pub reading_stage : Way → Stage
reading_stage In = Oob
reading_stage Out = Inband

abbrev pub same_stage : Stage → Stage → Bool
same_stage Inband Inband = true
same_stage Inband Oob = false
same_stage Oob Inband = false
same_stage Oob Oob = true

abbrev pub stage_refusal : Stage → Stage → Option Refusal
stage_refusal wanted stage = if same_stage wanted stage then None else Some WrongStage

-- a step of one way leaves the other as it is
abbrev pub with_other_way : {A : Type 0} → Xbuf → Way → A × Stream → A × Xbuf
with_other_way x way (answer, after) = (answer, with_stream x way after)

abbrev pub unless_refused : {A : Type 0} → Xbuf → Way → Result (A × Stream) Refusal → Result (A × Xbuf) Refusal
unless_refused x way (Ok step) = Ok (with_other_way x way step)
unless_refused x way (Err refusal) = Err refusal

-- the calls, each as one step of a cross-buffer: what it answers, and the buffer after it

-- rule: Refusals, in order: `Range`, `WrongStage`, `TooBig`, `Again`.
--   also: Xbufs.try_read
--   rows: order_of_refusals
-- rule: Each call is one step of its way, with whom it served with what. A refused call changes nothing.
--   also: Xbufs.{try_read, begin_write, begin_read}
--   clauses: Xbuf::{new, try_write, try_read, begin_write, begin_read, drop_waiter, room, try_write_telling,
--   try_read_telling, begin_write_telling, begin_read_telling, drop_waiter_telling}
-- rule: An unserved write or read that says yes is the call's step, and nobody was served; the read takes at most one
--   kept box. One that says no changes nothing. A write says yes exactly at the right stage, where nobody waits and the
--   bytes fit; when a read says no, no clause says.
--   also: Xbufs.try_read; Streams.is_unawaited
--   clauses: Xbuf::{write_unserved, read_unserved}
-- refusals: Xbuf::try_write
--   order: WrongStage, TooBig, Again
abbrev pub try_write : Stage → Way → List ℕ → Xbuf → Result (List Service × Xbuf) Refusal
try_write stage way bytes x =
    unless (stage_refusal (writing_stage way) stage) (unless_refused x way (streams.try_write bytes (stream x way)))

-- refusals: Xbuf::try_read
--   order: Range, WrongStage, Again
abbrev pub try_read : Stage → Way → ℕ → Xbuf → Result ((List ℕ × List Service) × Xbuf) Refusal
try_read stage way len x =
    unless (out_of_range len) (unless (stage_refusal (reading_stage way) stage) (unless_refused x way (streams.try_read len (stream x way))))

-- refusals: Xbuf::begin_write
--   order: WrongStage, TooBig
abbrev pub begin_write : ℕ → Stage → Way → List ℕ → Xbuf → Result (Option (List Service) × Xbuf) Refusal
begin_write thread stage way bytes x =
    unless (stage_refusal (writing_stage way) stage) (unless_refused x way (streams.begin_write thread bytes (stream x way)))

-- refusals: Xbuf::begin_read
--   order: Range, WrongStage
abbrev pub begin_read : ℕ → Stage → Way → ℕ → Xbuf → Result (Option (List ℕ × List Service) × Xbuf) Refusal
begin_read thread stage way len x =
    unless (out_of_range len) (unless (stage_refusal (reading_stage way) stage) (Ok (with_other_way x way (streams.begin_read thread len (stream x way)))))

abbrev pub drop_waiter : ℕ → Way → Xbuf → List Service × Xbuf
drop_waiter thread way x = with_other_way x way (streams.drop_waiter thread (stream x way))

-- what is known of a cross-buffer
pub record IsSoundXbuf (x : Xbuf) : Type 0 where
  pub inbound : IsSoundStream x.inbound
  pub outbound : IsSoundStream x.outbound
