-- All that goes into a way at one end, and all that comes out at the other.
use Rattle.std.specs.Prelude.{ℕ, ◌≡◌, List, [], ◌∷◌, ◌++◌, Option, Some, None, Result, Ok, Err}
use Rattle.evl_base.specs.declared.refusal.Refusal.{Refusal}
use Rattle.evl_xbuf.specs.declared.waiters.Writer.{Writer}
use Rattle.evl_xbuf.specs.Services.{read_by}
use Rattle.evl_xbuf.specs.Streams.{Stream, Service, Wrote, Got, begin_read, begin_write, drop_waiter, empty, try_read, try_write, without}

-- the bytes of the writers that were served, who stood first in the queue
abbrev pub written_by : List Service → List Writer → List ℕ
written_by [] ws = []
written_by (Got thread bytes ∷ others) ws = written_by others ws
written_by (Wrote thread ∷ others) [] = []
written_by (Wrote thread ∷ others) (w ∷ ws) = w.bytes.items ++ written_by others ws

-- a call on one way
pub data Call : Type 0 where
  Write : List ℕ → Call
  Read : ℕ → Call
  BeginWrite : ℕ → List ℕ → Call
  BeginRead : ℕ → ℕ → Call
  Drop : ℕ → Call

-- which bytes were accepted, and which were read, each in order; and the way after that
pub record Flow : Type 0 where
  pub accepted : List ℕ
  pub taken : List ℕ
  pub after : Stream

abbrev pub still : Stream → Flow
still s = record { accepted = []; taken = []; after = s }

-- the caller's own bytes, and then those of whom the call served
abbrev pub flowing : List Writer → List ℕ → List ℕ → List Service × Stream → Flow
flowing ws accepted taken (services, after) = record { accepted = accepted ++ written_by services ws; taken = taken ++ read_by services; after = after }

abbrev pub of_write : Stream → List ℕ → Result (List Service × Stream) Refusal → Flow
of_write s bytes (Ok step) = flowing s.writers bytes [] step
of_write s bytes (Err refusal) = still s

abbrev pub of_read : Stream → Result ((List ℕ × List Service) × Stream) Refusal → Flow
of_read s (Ok ((bytes, services), after)) = flowing s.writers [] bytes (services, after)
of_read s (Err refusal) = still s

abbrev pub of_begin_write : Stream → List ℕ → Result (Option (List Service) × Stream) Refusal → Flow
of_begin_write s bytes (Ok (Some services, after)) = flowing s.writers bytes [] (services, after)
of_begin_write s bytes (Ok (None, after)) = still after
of_begin_write s bytes (Err refusal) = still s

abbrev pub of_begin_read : Stream → Option (List ℕ × List Service) × Stream → Flow
of_begin_read s (Some (bytes, services), after) = flowing s.writers [] bytes (services, after)
of_begin_read s (None, after) = still after

abbrev pub flow : Call → Stream → Flow
flow (Write bytes) s = of_write s bytes (try_write bytes s)
flow (Read len) s = of_read s (try_read len s)
flow (BeginWrite thread bytes) s = of_begin_write s bytes (begin_write thread bytes s)
flow (BeginRead thread len) s = of_begin_read s (begin_read thread len s)
flow (Drop thread) s = flowing (without s thread).writers [] [] (drop_waiter thread s)

abbrev pub followed_by : Flow → Flow → Flow
followed_by first rest = record { accepted = first.accepted ++ rest.accepted; taken = first.taken ++ rest.taken; after = rest.after }

-- one call after another
abbrev pub run : List Call → Stream → Flow
run [] s = still s
run (call ∷ calls) s = let first = flow call s in followed_by first (run calls first.after)

-- all bytes that were accepted are those that were read, and after them those that are there
abbrev pub IsStream : Flow → Type 0
IsStream f = f.accepted ≡ f.taken ++ f.after.there

-- rule: All accepted bytes are those that were read, followed by those that are there.
--   clauses: reads_follow_writes
--   rows: waiting_bytes; waiting_reader; a_ring_is_a_list_that_is_cut
-- whatever is called, and however often
abbrev pub ReadsFollowWrites : Type 0
ReadsFollowWrites = (size : ℕ) (calls : List Call) → IsStream (run calls (empty size))
