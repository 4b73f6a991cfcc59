-- The sizes of the rings stay, whatever is done.
use Rattle.std.proofs.Common.{◌≡◌, ℕ, zero, suc, Bool, true, false, List, [], ◌∷◌, Option, Some, None, Result, Ok, Err, if◌then◌else◌, refl, ◌∙◌}
use Rattle.std.specs.Option.{option_or}
use Rattle.evl_base.specs.declared.refusal.Refusal.{Refusal}
use Rattle.evl_base.specs.declared.refusal.Refusal.TheVariants.{Again}
use Rattle.evl_base.specs.declared.stage.Stage.{Stage}
use Rattle.evl_base.specs.declared.way.Way.{Way}
use Rattle.evl_base.specs.declared.way.Way.TheVariants.{In, Out}
use Rattle.evl_sync.specs.Steps.{unless}
use Rattle.evl_xbuf.specs.declared.waiters.Reader.{Reader}
use Rattle.evl_xbuf.specs.declared.waiters.Writer.{Writer}
use Rattle.evl_xbuf.specs.Streams as streams
use Rattle.evl_xbuf.specs.Streams.{Stream, Service, Wrote, Got, at_once, can_read, can_write, fits, bytes_given, next_service, out_of_range, bytes_read, reader_served, services_made, served_from, too_big, waiting, with_bytes, with_reader, with_writer, without, writer_served, bytes_written}
use Rattle.evl_xbuf.specs.Xbufs as xbufs
use Rattle.evl_xbuf.specs.Xbufs.{Xbuf, reading_stage, stage_refusal, stream, unless_refused, with_other_way, writing_stage}
use Rattle.evl_xbuf.proofs.ServingLaws.{at_rest, goes_on}

-- one service
abbrev Sized : Stream → Option (Service × Stream) → Type 0
Sized s None = Unit {0}
Sized s (Some (one, mid)) = mid.size ≡ s.size

reader-sized : (s : Stream) (rs : List Reader) (o : Option (Service × Stream)) → Sized s o → Sized s (option_or (reader_served rs s) o)
reader-sized s [] o h = h
reader-sized s (r ∷ rs) o h = by (can_read s r.len)
  where
    by : (b : Bool) → Sized s (option_or {T = Service × Stream} (if b then Some (Got r.thread (bytes_given s r.len), record (bytes_read s r.len) { readers = rs }) else None) o)
    by true = refl
    by false = h

writer-sized : (s : Stream) (ws : List Writer) → Sized s (writer_served ws s)
writer-sized s [] = tt
writer-sized s (w ∷ ws) = by (fits s w.bytes.items)
  where
    by : (b : Bool) → Sized s (if b then Some (Wrote w.thread, record (bytes_written s w.bytes.items) { writers = ws }) else None)
    by true = refl
    by false = tt

next-sized : (s : Stream) → Sized s (next_service s)
next-sized s = reader-sized s s.readers (writer_served s.writers s) (writer-sized s s.writers)

served-sized : (n : ℕ) (s : Stream) → (served_from n s).1.size ≡ s.size
served-sized zero s = refl
served-sized (suc n) s = by (next_service s) refl (served-sized n)
  where
    by : (o : Option (Service × Stream)) → next_service s ≡ o → ((t : Stream) → (served_from n t).1.size ≡ t.size) → (served_from (suc n) s).1.size ≡ s.size
    by None e more = rw (at_rest s e (suc n)) refl
    by (Some (one, mid)) e more = rw (goes_on s mid one n e) (let is : Sized s (Some (one, mid)) = rw e at (next-sized s) in more mid ∙ is)

made-sized : (s : Stream) → (services_made s).1.size ≡ s.size
made-sized s = served-sized (waiting s) s

-- what a call on a way leaves, and what one on the cross-buffer does
module _ {A : Type 0} where
  abbrev KeepsSize : Stream → Result (A × Stream) Refusal → Type 0
  KeepsSize s (Ok (answer, after)) = after.size ≡ s.size
  KeepsSize s (Err refusal) = Unit {0}

  abbrev pub KeepsSizes : Xbuf → Result (A × Xbuf) Refusal → Type 0
  KeepsSizes x (Ok (answer, after)) = (after.inbound.size ≡ x.inbound.size) × (after.outbound.size ≡ x.outbound.size)
  KeepsSizes x (Err refusal) = Unit {0}

  beside-sized : (x : Xbuf) (way : Way) (r : Result (A × Stream) Refusal) → KeepsSize (stream x way) r → KeepsSizes x (unless_refused x way r)
  beside-sized x In (Ok (answer, after)) h = (h, refl)
  beside-sized x Out (Ok (answer, after)) h = (refl, h)
  beside-sized x way (Err refusal) h = tt

  refused-sized : (x : Xbuf) (o : Option Refusal) (r : Result (A × Xbuf) Refusal) → KeepsSizes x r → KeepsSizes x (unless o r)
  refused-sized x None r h = h
  refused-sized x (Some refusal) r h = tt

pub write-sized : (stage : Stage) (way : Way) (bytes : List ℕ) (x : Xbuf) → KeepsSizes x (xbufs.try_write stage way bytes x)
write-sized stage way bytes x =
    refused-sized x (stage_refusal (writing_stage way) stage) _ (beside-sized x way _ (by (too_big (stream x way) bytes) (can_write (stream x way) bytes)))
  where
    s : Stream
    s = stream x way

    by : (big : Option Refusal) (can : Bool) → KeepsSize s (unless big (if can then Ok (services_made (bytes_written s bytes)) else Err Again))
    by (Some refusal) can = tt
    by None true = made-sized (bytes_written s bytes)
    by None false = tt

pub read-sized : (stage : Stage) (way : Way) (len : ℕ) (x : Xbuf) → KeepsSizes x (xbufs.try_read stage way len x)
read-sized stage way len x =
    refused-sized x (out_of_range len) _ (refused-sized x (stage_refusal (reading_stage way) stage) _ (beside-sized x way _ (by (can_read (stream x way) len))))
  where
    s : Stream
    s = stream x way

    by : (can : Bool) → KeepsSize s (if can then Ok (with_bytes (bytes_given s len) (services_made (bytes_read s len))) else Err Again)
    by true = made-sized (bytes_read s len)
    by false = tt

pub begin_write-sized : (thread : ℕ) (stage : Stage) (way : Way) (bytes : List ℕ) (x : Xbuf) → KeepsSizes x (xbufs.begin_write thread stage way bytes x)
begin_write-sized thread stage way bytes x =
    refused-sized x (stage_refusal (writing_stage way) stage) _ (beside-sized x way _ (by (too_big (stream x way) bytes) (can_write (stream x way) bytes)))
  where
    s : Stream
    s = stream x way

    by : (big : Option Refusal) (can : Bool) → KeepsSize s (unless big (Ok (if can then at_once (services_made (bytes_written s bytes)) else (None, with_writer s thread bytes))))
    by (Some refusal) can = tt
    by None true = made-sized (bytes_written s bytes)
    by None false = refl

-- a way that was changed by a step that isn't refused
changed-sized : {A : Type 0} (x : Xbuf) (way : Way) (step : A × Stream) → step.1.size ≡ (stream x way).size → KeepsSizes x (Ok (with_other_way x way step))
changed-sized x In (answer, after) h = (h, refl)
changed-sized x Out (answer, after) h = (refl, h)

pub begin_read-sized : (thread : ℕ) (stage : Stage) (way : Way) (len : ℕ) (x : Xbuf) → KeepsSizes x (xbufs.begin_read thread stage way len x)
begin_read-sized thread stage way len x =
    refused-sized x (out_of_range len) _ (refused-sized x (stage_refusal (reading_stage way) stage) _ (changed-sized x way (streams.begin_read thread len (stream x way)) (by (can_read (stream x way) len))))
  where
    s : Stream
    s = stream x way

    by : (can : Bool) → (if can then at_once (with_bytes (bytes_given s len) (services_made (bytes_read s len))) else (None, with_reader s thread len)).1.size ≡ s.size
    by true = made-sized (bytes_read s len)
    by false = refl

pub drop-sized : (thread : ℕ) (way : Way) (x : Xbuf) → KeepsSizes x (Ok (xbufs.drop_waiter thread way x))
drop-sized thread way x = changed-sized x way (streams.drop_waiter thread (stream x way)) (made-sized (without (stream x way) thread))
