-- A cross-buffer of the kernel: its steps, and what they mean to the threads that wait for it.
use Rattle.std.specs.Prelude.{ℕ, List, [], map, Option, Some, None, Result, Ok, Err}
use Rattle.evl_base.specs.declared.refusal.Refusal.{Refusal}
use Rattle.evl_base.specs.declared.reply.Reply.{Reply}
use Rattle.evl_base.specs.declared.reply.Reply.TheVariants as reply
use Rattle.evl_base.specs.declared.stage.Stage.{Stage}
use Rattle.evl_base.specs.declared.way.Way.{Way}
use Rattle.evl_xbuf.specs.Streams as streams
use Rattle.evl_xbuf.specs.Streams.{Service, Wrote, Got}
use Rattle.evl_xbuf.specs.Xbufs as xbufs
use Rattle.evl_xbuf.specs.Xbufs.{Xbuf, reading_stage, stream, writing_stage}
use Rattle.evl_kernel.specs.calls.Effects.{Answered, reply_by}

pub data XbufStep : Type 0 where
  -- writes these bytes, all of them, from a stage
  write : Stage → Way → List ℕ → XbufStep
  -- reads so many bytes, or as many as are there, from a stage
  read : Stage → Way → ℕ → XbufStep
  -- gives how many bytes are free
  room : Way → XbufStep
  -- writes from the stage that writes this way, or else the thread waits
  begin_write : ℕ → Way → List ℕ → XbufStep
  -- reads from the stage that reads this way, or else the thread waits
  begin_read : ℕ → Way → ℕ → XbufStep
  -- a waiter leaves, as its deadline fell due
  drop : ℕ → Way → XbufStep

abbrev pub bytes_told : List ℕ → Reply
bytes_told bytes = reply.Bytes (record { items = bytes })

abbrev pub cross_buffer : Xbuf → XbufStep → Answered Xbuf
cross_buffer x (write stage way bytes) = reply_by (λ served. reply.Done) (xbufs.try_write stage way bytes x)
cross_buffer x (read stage way len) = reply_by (λ got. bytes_told got.0) (xbufs.try_read stage way len x)
cross_buffer x (room way) = Ok (reply.Number (streams.room (stream x way)), x)
cross_buffer x (begin_write thread way bytes) = reply_by (λ served. reply.Begun) (xbufs.begin_write thread (writing_stage way) way bytes x)
cross_buffer x (begin_read thread way len) = reply_by (λ got. reply.Begun) (xbufs.begin_read thread (reading_stage way) way len x)
cross_buffer x (drop thread way) = Ok (reply.Done, (xbufs.drop_waiter thread way x).1)

-- a thread whose wait a service ends, and with what
abbrev pub service_told : Service → ℕ × Reply
service_told (Wrote thread) = (thread, reply.Done)
service_told (Got thread bytes) = (thread, bytes_told bytes)

-- what a call answered, if it wasn't refused
abbrev pub answer_in : {A : Type 0} → Result (A × Xbuf) Refusal → Option A
answer_in (Ok (answer, after)) = Some answer
answer_in (Err refusal) = None

abbrev pub served_in : Option (List Service) → List Service
served_in None = []
served_in (Some services) = services

abbrev pub served_beside : Option (List ℕ × List Service) → List Service
served_beside None = []
served_beside (Some (bytes, services)) = services

-- what a beginning answered that wasn't refused; none where the thread waits
abbrev pub at_once : {A : Type 0} → Option (Option A) → Option A
at_once None = None
at_once (Some answer) = answer

-- rule: Threads served at a cross-buffer wake in the order of the services, each reader with its bytes; waiters queue
--   only by arrival, on either stage.
--   also: CrossBuffers.service_told; Waits.all_woken
--   rows: flags_and_buffers_1; flags_and_buffers_2; waiting_writers_go_by_arrival; reader_of_256_bytes; dropped_writer
-- whom a step serves, in order
abbrev pub services_of : Xbuf → XbufStep → List Service
services_of x (write stage way bytes) = served_in (answer_in (xbufs.try_write stage way bytes x))
services_of x (read stage way len) = served_beside (answer_in (xbufs.try_read stage way len x))
services_of x (room way) = []
services_of x (begin_write thread way bytes) = served_in (at_once (answer_in (xbufs.begin_write thread (writing_stage way) way bytes x)))
services_of x (begin_read thread way len) = served_beside (at_once (answer_in (xbufs.begin_read thread (reading_stage way) way len x)))
services_of x (drop thread way) = (xbufs.drop_waiter thread way x).0

-- whose waits a step ends, and with what
abbrev pub xbuf_wakes : Xbuf → XbufStep → List (ℕ × Reply)
xbuf_wakes x step = map service_told (services_of x step)

abbrev pub done_at_once : Option (List Service) → Option Reply
done_at_once None = None
done_at_once (Some services) = Some reply.Done

abbrev pub read_at_once : Option (List ℕ × List Service) → Option Reply
read_at_once None = None
read_at_once (Some (bytes, services)) = Some (bytes_told bytes)

-- what a wait that begins is served with at once, if it is
abbrev pub xbuf_serves : Xbuf → XbufStep → Option Reply
xbuf_serves x (begin_write thread way bytes) = done_at_once (at_once (answer_in (xbufs.begin_write thread (writing_stage way) way bytes x)))
xbuf_serves x (begin_read thread way len) = read_at_once (at_once (answer_in (xbufs.begin_read thread (reading_stage way) way len x)))
xbuf_serves x _ = None
