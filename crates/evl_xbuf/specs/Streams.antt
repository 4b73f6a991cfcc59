-- One way of a cross-buffer: the bytes that are there, and who waits.
use Rattle.std.specs.Prelude.{ℕ, ◌≡◌, ◌≤◌, ◌⊎◌, zero, suc, ◌+◌, ◌-◌, ◌==◌, nat_le, nat_lt, Bool, true, false, not, ◌&&◌, ◌||◌, List, [], ◌∷◌, ◌++◌, length, take, drop, Option, Some, None, Result, Ok, Err, if◌then◌else◌}
use Rattle.std.specs.List.{AllByRecursion}
use Rattle.std.specs.Option.{option_or}
use Rattle.evl_base.specs.declared.refusal.Refusal.{Refusal}
use Rattle.evl_base.specs.declared.refusal.Refusal.TheVariants.{Again, Range, TooBig}
use Rattle.evl_sync.specs.Queues.{dropped_by, is_nobody, IsKept}
use Rattle.evl_sync.specs.Steps.{unless}
use Rattle.evl_xbuf.specs.declared.waiters.Reader.{Reader}
use Rattle.evl_xbuf.specs.declared.waiters.Writer.{Writer}

-- the size of the ring, what was written and not yet read, and who waits, each in order of arrival
pub record Stream : Type 0 where
  pub size : ℕ
  pub there : List ℕ
  pub writers : List Writer
  pub readers : List Reader

abbrev pub empty : ℕ → Stream
empty size = record { size = size; there = []; writers = []; readers = [] }

-- rule: The room of a way is what its ring has free.
--   rows: cross_buffer; flags_and_buffers_2
-- how many bytes are free
abbrev pub room : Stream → ℕ
room s = s.size - length s.there

-- rule: A write longer than the ring is `TooBig`; if it does not fit, or a writer waits, `Again`.
--   also: Streams.{can_write, too_big}
--   rows: cross_buffer; flags_and_buffers_1; begin_write
-- a write is whole
abbrev pub fits : Stream → List ℕ → Bool
fits s bytes = nat_le (length s.there + length bytes) s.size

abbrev pub is_empty : List ℕ → Bool
is_empty [] = true
is_empty (byte ∷ bytes) = false

-- nobody waits
abbrev pub is_unawaited : Stream → Bool
is_unawaited s = is_nobody s.readers && is_nobody s.writers

-- rule: A write or a read of no bytes is always done.
--   also: Streams.can_read
--   rows: nothing; cross_buffer; nothing_goes_past_a_writer_but_nothing
-- a write of nothing is accepted; another if no writer waits and it fits
abbrev pub can_write : Stream → List ℕ → Bool
can_write s bytes = is_empty bytes || (is_nobody s.writers && fits s bytes)

-- a read of nothing gives nothing; another what is there, if anything is
abbrev pub can_read : Stream → ℕ → Bool
can_read s len = (len == 0) || not (is_empty s.there)

-- longer than the ring
abbrev pub too_big : Stream → List ℕ → Option Refusal
too_big s bytes = if nat_lt s.size (length bytes) then Some TooBig else None

-- more than one transfer carries
abbrev pub out_of_range : ℕ → Option Refusal
out_of_range len = if nat_lt 256 len then Some Range else None

abbrev pub bytes_written : Stream → List ℕ → Stream
bytes_written s bytes = record s { there = s.there ++ bytes }

-- rule: A read gives the next bytes, as many as are wanted or there; with nothing there it is `Again`, for more than
--   256 bytes `Range`.
--   also: Streams.{can_read, out_of_range}
--   rows: cross_buffer; flags_and_buffers_1
-- what a read gives: the next bytes, as many as are wanted or are there
abbrev pub bytes_given : Stream → ℕ → List ℕ
bytes_given s len = take len s.there

abbrev pub bytes_read : Stream → ℕ → Stream
bytes_read s len = record s { there = drop len s.there }

abbrev pub with_writer : Stream → ℕ → List ℕ → Stream
with_writer s thread bytes = record s { writers = s.writers ++ record { thread = thread; bytes = record { items = bytes } } ∷ [] }

abbrev pub with_reader : Stream → ℕ → ℕ → Stream
with_reader s thread len = record s { readers = s.readers ++ record { thread = thread; len = len } ∷ [] }

abbrev pub without : Stream → ℕ → Stream
without s thread = record s { writers = dropped_by (λ w. w.thread) thread s.writers; readers = dropped_by (λ r. r.thread) thread s.readers }

-- a waiter that was served, and with which bytes where it was a reader
pub data Service : Type 0 where
  Wrote : ℕ → Service
  Got : ℕ → List ℕ → Service

-- the reader at the head of its queue, where it can be served
abbrev pub reader_served : List Reader → Stream → Option (Service × Stream)
reader_served [] s = None
reader_served (r ∷ rs) s = if can_read s r.len then Some (Got r.thread (bytes_given s r.len), record (bytes_read s r.len) { readers = rs }) else None

-- the writer at the head of its queue, where it can be served
abbrev pub writer_served : List Writer → Stream → Option (Service × Stream)
writer_served [] s = None
writer_served (w ∷ ws) s = if fits s w.bytes.items then Some (Wrote w.thread, record (bytes_written s w.bytes.items) { writers = ws }) else None

-- rule: After each change the heads of the queues are served until neither can be; the others keep their places.
--   also: Streams.services_made
--   clauses: services_go_by_arrival
--   rows: flags_and_buffers_1; flags_and_buffers_2; shared; readers_share_a_write
abbrev pub next_service : Stream → Option (Service × Stream)
next_service s = option_or (reader_served s.readers s) (writer_served s.writers s)

abbrev pub preceded_by : Service → List Service × Stream → List Service × Stream
preceded_by one (others, end) = (one ∷ others, end)

-- until neither can be served; at most n services
abbrev pub served_from : ℕ → Stream → List Service × Stream
served_from zero s = ([], s)
served_from (suc n) s = served_on (served_from n) s (next_service s)
  where
    served_on : (Stream → List Service × Stream) → Stream → Option (Service × Stream) → List Service × Stream
    served_on rest here None = ([], here)
    served_on rest here (Some (one, mid)) = preceded_by one (rest mid)

-- each service is of another waiter, so there are never more than there are waiters
abbrev pub waiting : Stream → ℕ
waiting s = length s.readers + length s.writers

-- whom a change serves, in order, and the way after that
abbrev pub services_made : Stream → List Service × Stream
services_made s = served_from (waiting s) s

-- the calls, each as one step of a way: what it answers, and the way after it

abbrev pub try_write : List ℕ → Stream → Result (List Service × Stream) Refusal
try_write bytes s = unless (too_big s bytes) (if can_write s bytes then Ok (services_made (bytes_written s bytes)) else Err Again)

abbrev pub with_bytes : List ℕ → List Service × Stream → (List ℕ × List Service) × Stream
with_bytes bytes (services, after) = ((bytes, services), after)

-- rule: A read gets no byte of a waiting writer.
--   also: Streams.{bytes_given, services_made}
--   rows: flags_and_buffers_1
abbrev pub try_read : ℕ → Stream → Result ((List ℕ × List Service) × Stream) Refusal
try_read len s = if can_read s len then Ok (with_bytes (bytes_given s len) (services_made (bytes_read s len))) else Err Again

abbrev pub at_once : {A : Type 0} → A × Stream → Option A × Stream
at_once (answer, after) = (Some answer, after)

-- none where the thread begins to wait
abbrev pub begin_write : ℕ → List ℕ → Stream → Result (Option (List Service) × Stream) Refusal
begin_write thread bytes s = unless (too_big s bytes) (Ok (if can_write s bytes then at_once (services_made (bytes_written s bytes)) else (None, with_writer s thread bytes)))

-- none where the thread begins to wait
abbrev pub begin_read : ℕ → ℕ → Stream → Option (List ℕ × List Service) × Stream
begin_read thread len s = if can_read s len then at_once (with_bytes (bytes_given s len) (services_made (bytes_read s len))) else (None, with_reader s thread len)

-- rule: A dropped waiter is such a change.
--   rows: dropped; a_dropped_writer_lets_others_in
abbrev pub drop_waiter : ℕ → Stream → List Service × Stream
drop_waiter thread s = services_made (without s thread)

-- at most one of the two queues has anybody
abbrev pub HasOneQueue : Stream → Type 0
HasOneQueue s = (s.writers ≡ []) ⊎ (s.readers ≡ [])

-- rule: At rest nobody waits who can be served, and of one way only one queue has anybody; each waiting writer's bytes
--   would fit an empty ring.
--   also: Streams.{HasOneQueue, room}
--   clauses: Xbuf::room
--   rows: buffer_that_blocks; fresh
-- nobody waits who can be served
pub record IsAtRest (s : Stream) : Type 0 where
  pub rests : next_service s ≡ None
  pub one_queue : HasOneQueue s

-- what is there fits the ring, and so would what each writer waits to write; each thread waits once in a queue at most
pub record IsKeptStream (s : Stream) : Type 0 where
  pub few : s.size ≤ 256
  pub within : length s.there ≤ s.size
  pub short : AllByRecursion (λ w. length w.bytes.items ≤ s.size) s.writers
  pub writers : IsKept (λ w. w.thread) (λ w. 0) s.writers
  pub readers : IsKept (λ r. r.thread) (λ r. 0) s.readers

-- what is known of a way as a whole
pub record IsSoundStream (s : Stream) : Type 0 where
  pub kept : IsKeptStream s
  pub rest : IsAtRest s
