-- All that is known of a way after each change of its bytes and queues.
use Rattle.std.proofs.Common.{◌≡◌, ℕ, ◌<◌, ◌≤◌, Bool, true, false, List, [], ◌∷◌, ◌++◌, length, remove, if◌then◌else◌}
use Rattle.std.specs.List.{AllByRecursion}
use Rattle.evl_base.specs.Limits.{thread_limit}
use Rattle.evl_sync.specs.Queues.{stands_in, IsKept}
use Rattle.evl_sync.proofs.QueueLaws.{all-dropped, kept-dropped, kept-enqueued, kept_first, enqueued-last}
use Rattle.evl_xbuf.specs.declared.waiters.Reader.{Reader}
use Rattle.evl_xbuf.specs.declared.waiters.Writer.{Writer}
use Rattle.evl_xbuf.specs.Streams.{Stream, IsKeptStream, with_reader, with_writer, without}

pub all-last : {A : Type 0} (P : A → Type 0) (xs : List A) (x : A) → AllByRecursion P xs → P x → AllByRecursion P (xs ++ x ∷ [])
all-last P [] x h p = (p, tt)
all-last P (y ∷ ys) x h p = (h.0, all-last P ys x h.1 p)

all-first_gone : {A : Type 0} (P : A → Type 0) (xs : List A) → AllByRecursion P xs → AllByRecursion P (remove xs 0)
all-first_gone P [] h = h
all-first_gone P (x ∷ xs) h = h.1

kept-last : {A : Type 0} (thread : A → ℕ) (w : A) (ws : List A) → stands_in thread (thread w) ws ≡ false → thread w < thread_limit → IsKept thread (λ v. 0) ws → IsKept thread (λ v. 0) (ws ++ w ∷ [])
kept-last thread w ws away below h = rw (← enqueued-last w ws) (kept-enqueued thread (λ v. 0) w ws away below h)

pub kept-reader : (s : Stream) (t len : ℕ) → stands_in (λ r. r.thread) t s.readers ≡ false → t < thread_limit → IsKeptStream s → IsKeptStream (with_reader s t len)
kept-reader s t len away below h = record {
  few = h.few;
  within = h.within;
  short = h.short;
  writers = h.writers;
  readers = let r : Reader = record { thread = t; len = len } in kept-last (λ v. v.thread) r s.readers away below h.readers;
}

pub kept-writer : (s : Stream) (t : ℕ) (bytes : List ℕ) → stands_in (λ w. w.thread) t s.writers ≡ false → t < thread_limit → length bytes ≤ s.size → IsKeptStream s → IsKeptStream (with_writer s t bytes)
kept-writer s t bytes away below l h =
    let w : Writer = record { thread = t; bytes = record { items = bytes } } in
    record {
      few = h.few;
      within = h.within;
      short = all-last (λ v. length v.bytes.items ≤ s.size) s.writers w h.short l;
      writers = kept-last (λ v. v.thread) w s.writers away below h.writers;
      readers = h.readers;
    }

pub kept-reader_gone : (s : Stream) (after : List Reader) → after ≡ remove s.readers 0 → IsKeptStream s → IsKeptStream (record s { readers = after })
kept-reader_gone s after e h = record {
  few = h.few;
  within = h.within;
  short = h.short;
  writers = h.writers;
  readers = kept_first (λ r. r.thread) (λ r. 0) s.readers after e h.readers;
}

pub kept-writer_gone : (s : Stream) (after : List Writer) → after ≡ remove s.writers 0 → IsKeptStream s → IsKeptStream (record s { writers = after })
kept-writer_gone s after e h = record {
  few = h.few;
  within = h.within;
  short = rw e (all-first_gone (λ w. length w.bytes.items ≤ s.size) s.writers h.short);
  writers = kept_first (λ w. w.thread) (λ w. 0) s.writers after e h.writers;
  readers = h.readers;
}

pub kept-without : (s : Stream) (t : ℕ) → IsKeptStream s → IsKeptStream (without s t)
kept-without s t h = record {
  few = h.few;
  within = h.within;
  short = all-dropped (λ w. length w.bytes.items ≤ s.size) (λ w. w.thread) t s.writers h.short;
  writers = kept-dropped (λ w. w.thread) (λ w. 0) t s.writers h.writers;
  readers = kept-dropped (λ r. r.thread) (λ r. 0) t s.readers h.readers;
}

-- what a push leaves where it had room
pub pushed : {A : Type 0} (was now : List A) (x : A) (b : Bool) → b ≡ true → now ≡ (if b then was ++ x ∷ [] else was) → now ≡ was ++ x ∷ []
pushed was now x true e h = h
pushed was now x false e h = cc
