-- The queues of a cross-buffer as each step leaves them, and that it stays sound.
use Rattle.std.proofs.Common.{◌≡◌, ◌<◌, ℕ, ◌==◌, ◌⊎◌, inl, inr, Bool, true, false, ◌||◌, List, [], ◌∷◌, ◌++◌, map, Option, Some, None, Result, Ok, Err, if◌then◌else◌, refl, sym, ap, ◌∙◌, subst}
use Rattle.std.proofs.lemmas.Bool.{false≢true, eq-eqb, eqb-true, or_left, or_parts, or_right}
use Rattle.std.proofs.lemmas.Option.{none-some}
use Rattle.evl_base.proofs.Plain.{eqb-swap_false, some-none}
use Rattle.evl_base.specs.Limits.{thread_limit}
use Rattle.evl_base.specs.declared.refusal.Refusal.{Refusal}
use Rattle.evl_base.specs.declared.refusal.Refusal.TheVariants.{Again}
use Rattle.evl_base.specs.declared.reply.Reply.{Reply}
use Rattle.evl_base.specs.declared.reply.Reply.TheVariants as reply
use Rattle.evl_base.specs.declared.stage.Stage.{Stage}
use Rattle.evl_base.specs.declared.way.Way.{Way}
use Rattle.evl_base.specs.declared.way.Way.TheVariants.{In, Out}
use Rattle.evl_sync.specs.Steps.{unless}
use Rattle.evl_sync.specs.Queues.{dropped_by, stands_in}
use Rattle.evl_xbuf.specs.declared.waiters.Reader.{Reader}
use Rattle.evl_xbuf.specs.declared.waiters.Writer.{Writer}
use Rattle.evl_xbuf.specs.Arrivals.{readers_in, writers_in}
use Rattle.evl_xbuf.specs.Streams as streams
use Rattle.evl_xbuf.specs.Streams.{IsKeptStream, IsSoundStream, Service, Stream, Wrote, Got, can_read, can_write, bytes_given, out_of_range, bytes_read, services_made as served, too_big, with_bytes, with_reader, with_writer, without, bytes_written}
use Rattle.evl_xbuf.specs.Xbufs as xbufs
use Rattle.evl_xbuf.specs.Xbufs.{IsSoundXbuf, Xbuf, reading_stage, stage_refusal, stream, unless_refused, with_stream, writing_stage}
use Rattle.evl_xbuf.proofs.StreamLaws.{kept-without}
use Rattle.evl_xbuf.proofs.SoundLaws.{kept-can_write, kept-read, sound-dropped, sound-read, sound-with_reader, sound-with_writer, sound-written}
use Rattle.evl_xbuf.proofs.LeavingLaws.{is_among, served_go}
use Rattle.evl_kernel.specs.calls.Effects.{reply_by}
use Rattle.evl_kernel.specs.calls.CrossBuffers as through
use Rattle.evl_kernel.specs.calls.CrossBuffers.{answer_in, at_once, bytes_told, cross_buffer as machine, done_at_once, read_at_once, served_beside, served_in, service_told, xbuf_serves, xbuf_wakes}
use Rattle.evl_kernel.specs.waiting.Standing.{in_readers, in_writers, is_served}
use Rattle.evl_kernel.proofs.calls.ElementSteps.{err_ok, ok_is}
use Rattle.evl_kernel.proofs.calls.QueueSteps.{dropped_gone, dropped_stays}

-- one of the four queues of a cross-buffer
pub data Queue : Type 0 where
  reading : Way → Queue
  writing : Way → Queue

abbrev pub in_queue : Queue → Xbuf → ℕ → Bool
in_queue (reading way) = in_readers way
in_queue (writing way) = in_writers way

-- the thread was in one of them, and no longer is
pub record Gone (x : Xbuf) (thread : ℕ) (y : Xbuf) : Type 0 where
  pub queue : Queue
  pub stood : in_queue queue x thread ≡ true
  pub gone : in_queue queue y thread ≡ false

-- a cross-buffer after a step: sound, and these were let go
pub record Left (x y : Xbuf) (served : List (ℕ × Reply)) : Type 0 where
  pub sound : IsSoundXbuf y
  pub left : (t : ℕ) → is_served t served ≡ true → Gone x t y
  pub same : (q : Queue) (t : ℕ) → is_served t served ≡ false → in_queue q y t ≡ in_queue q x t
  pub old : (q : Queue) (t : ℕ) → in_queue q y t ≡ true → in_queue q x t ≡ true

-- this thread came to this queue
pub record Came (x y : Xbuf) (queue : Queue) (thread : ℕ) : Type 0 where
  pub there : in_queue queue y thread ≡ true
  pub alone : (q : Queue) → in_queue q y thread ≡ true → (queue ≡ q) ⊎ (in_queue q x thread ≡ true)
  pub same : (q : Queue) (t : ℕ) → (t == thread) ≡ false → in_queue q y t ≡ in_queue q x t

-- who was served was a reader or a writer
served_either : (t : ℕ) (services : List Service) → is_served t (map service_told services) ≡ true → (is_among t (readers_in services) ≡ true) ⊎ (is_among t (writers_in services) ≡ true)
served_either t [] is = absurd (false≢true is)
served_either t (Got thread bytes ∷ others) is = by (thread == t) refl is (served_either t others)
  where
    by : (b : Bool) → (thread == t) ≡ b → (b || is_served t (map service_told others)) ≡ true
        → (is_served t (map service_told others) ≡ true → (is_among t (readers_in others) ≡ true) ⊎ (is_among t (writers_in others) ≡ true))
        → (((thread == t) || is_among t (readers_in others)) ≡ true) ⊎ (is_among t (writers_in others) ≡ true)
    by true e is rest = inl (or_left (thread == t) (is_among t (readers_in others)) e)
    by false e is rest = deeper (rest is)
      where
        deeper : (is_among t (readers_in others) ≡ true) ⊎ (is_among t (writers_in others) ≡ true) → (((thread == t) || is_among t (readers_in others)) ≡ true) ⊎ (is_among t (writers_in others) ≡ true)
        deeper (inl r) = inl (or_right (thread == t) (is_among t (readers_in others)) r)
        deeper (inr w) = inr w
served_either t (Wrote thread ∷ others) is = by (thread == t) refl is (served_either t others)
  where
    by : (b : Bool) → (thread == t) ≡ b → (b || is_served t (map service_told others)) ≡ true
        → (is_served t (map service_told others) ≡ true → (is_among t (readers_in others) ≡ true) ⊎ (is_among t (writers_in others) ≡ true))
        → (is_among t (readers_in others) ≡ true) ⊎ (((thread == t) || is_among t (writers_in others)) ≡ true)
    by true e is rest = inr (or_left (thread == t) (is_among t (writers_in others)) e)
    by false e is rest = deeper (rest is)
      where
        deeper : (is_among t (readers_in others) ≡ true) ⊎ (is_among t (writers_in others) ≡ true) → (is_among t (readers_in others) ≡ true) ⊎ (((thread == t) || is_among t (writers_in others)) ≡ true)
        deeper (inl r) = inl r
        deeper (inr w) = inr (or_right (thread == t) (is_among t (writers_in others)) w)

-- and who wasn't served was neither
served_neither : (t : ℕ) (services : List Service) → is_served t (map service_told services) ≡ false → (is_among t (readers_in services) ≡ false) × (is_among t (writers_in services) ≡ false)
served_neither t [] is = (refl, refl)
served_neither t (Got thread bytes ∷ others) is =
    let two = or_parts (thread == t) (is_served t (map service_told others)) is in
    let rest = served_neither t others two.1 in
    (ap (λ (b : Bool). b || is_among t (readers_in others)) two.0 ∙ rest.0, rest.1)
served_neither t (Wrote thread ∷ others) is =
    let two = or_parts (thread == t) (is_served t (map service_told others)) is in
    let rest = served_neither t others two.1 in
    (rest.0, ap (λ (b : Bool). b || is_among t (writers_in others)) two.0 ∙ rest.1)

abbrev reads : ℕ → Stream → Bool
reads t s = stands_in (λ (r : Reader). r.thread) t s.readers

abbrev writes : ℕ → Stream → Bool
writes t s = stands_in (λ (w : Writer). w.thread) t s.writers

module _ (x : Xbuf) where
  with_way : (way : Way) (s : Stream) → stream (with_stream x way s) way ≡ s
  with_way In s = refl
  with_way Out s = refl

  -- one way changes: a thread that is in its queues as before is in all queues as before
  same_queues : (way : Way) (after : Stream) (q : Queue) (t : ℕ) → reads t after ≡ reads t (stream x way) → writes t after ≡ writes t (stream x way) → in_queue q (with_stream x way after) t ≡ in_queue q x t
  same_queues In after (reading In) t r w = r
  same_queues In after (reading Out) t r w = refl
  same_queues In after (writing In) t r w = w
  same_queues In after (writing Out) t r w = refl
  same_queues Out after (reading In) t r w = refl
  same_queues Out after (reading Out) t r w = r
  same_queues Out after (writing In) t r w = refl
  same_queues Out after (writing Out) t r w = w

  old_queues : (way : Way) (after : Stream) (q : Queue) (t : ℕ) → (reads t after ≡ true → reads t (stream x way) ≡ true) → (writes t after ≡ true → writes t (stream x way) ≡ true)
      → in_queue q (with_stream x way after) t ≡ true → in_queue q x t ≡ true
  old_queues In after (reading In) t r w = r
  old_queues In after (reading Out) t r w = λ is. is
  old_queues In after (writing In) t r w = w
  old_queues In after (writing Out) t r w = λ is. is
  old_queues Out after (reading In) t r w = λ is. is
  old_queues Out after (reading Out) t r w = r
  old_queues Out after (writing In) t r w = λ is. is
  old_queues Out after (writing Out) t r w = w

  sound_way : IsSoundXbuf x → (way : Way) → IsSoundStream (stream x way)
  sound_way h In = h.inbound
  sound_way h Out = h.outbound

  sound_with : IsSoundXbuf x → (way : Way) (s : Stream) → IsSoundStream s → IsSoundXbuf (with_stream x way s)
  sound_with h In s sound = record { inbound = sound; outbound = h.outbound }
  sound_with h Out s sound = record { inbound = h.inbound; outbound = sound }

  -- a way changes, whose queues then are these, and the heads of its queues are served
  module _ (h : IsSoundXbuf x) (way : Way) (changed : Stream) (kept : IsKeptStream changed) (sound : IsSoundStream (served changed).1)
      (old_reads : (t : ℕ) → reads t changed ≡ true → reads t (stream x way) ≡ true) (old_writes : (t : ℕ) → writes t changed ≡ true → writes t (stream x way) ≡ true) where
    abbrev after : Stream
    after = (served changed).1

    abbrev told : List (ℕ × Reply)
    told = map service_told (served changed).0

    gone_from : (t : ℕ) → is_served t told ≡ true → Gone x t (with_stream x way after)
    gone_from t is = by (served_either t (served changed).0 is)
      where
        by : (is_among t (readers_in (served changed).0) ≡ true) ⊎ (is_among t (writers_in (served changed).0) ≡ true) → Gone x t (with_stream x way after)
        by (inl r) =
            let went = (served_go changed kept).readers.left t r in
            record { queue = reading way; stood = old_reads t went.0; gone = ap (reads t) (with_way way after) ∙ went.1 }
        by (inr w) =
            let went = (served_go changed kept).writers.left t w in
            record { queue = writing way; stood = old_writes t went.0; gone = ap (writes t) (with_way way after) ∙ went.1 }

    reads_after : (t : ℕ) → reads t after ≡ true → reads t changed ≡ true
    reads_after t is = by (is_among t (readers_in (served changed).0)) refl
      where
        by : (b : Bool) → is_among t (readers_in (served changed).0) ≡ b → reads t changed ≡ true
        by true among = ((served_go changed kept).readers.left t among).0
        by false among = sym ((served_go changed kept).readers.same t among) ∙ is

    writes_after : (t : ℕ) → writes t after ≡ true → writes t changed ≡ true
    writes_after t is = by (is_among t (writers_in (served changed).0)) refl
      where
        by : (b : Bool) → is_among t (writers_in (served changed).0) ≡ b → writes t changed ≡ true
        by true among = ((served_go changed kept).writers.left t among).0
        by false among = sym ((served_go changed kept).writers.same t among) ∙ is

    old_after : (q : Queue) (t : ℕ) → in_queue q (with_stream x way after) t ≡ true → in_queue q x t ≡ true
    old_after q t = old_queues way after q t (λ is. old_reads t (reads_after t is)) (λ is. old_writes t (writes_after t is))

    -- a thread that isn't served is where the change left it
    same_after : (q : Queue) (t : ℕ) → is_served t told ≡ false → reads t changed ≡ reads t (stream x way) → writes t changed ≡ writes t (stream x way)
        → in_queue q (with_stream x way after) t ≡ in_queue q x t
    same_after q t is r w =
        let neither = served_neither t (served changed).0 is in
        same_queues way after q t ((served_go changed kept).readers.same t neither.0 ∙ r) ((served_go changed kept).writers.same t neither.1 ∙ w)

    flows : ((t : ℕ) → reads t changed ≡ reads t (stream x way)) → ((t : ℕ) → writes t changed ≡ writes t (stream x way)) → Left x (with_stream x way after) told
    flows r w = record { sound = sound_with h way after sound; left = gone_from; same = λ q t is. same_after q t is (r t) (w t); old = old_after }

  -- a write and a read that are done
  written_left : IsSoundXbuf x → (way : Way) (bytes : List ℕ) → can_write (stream x way) bytes ≡ true
      → Left x (with_stream x way (served (bytes_written (stream x way) bytes)).1) (map service_told (served (bytes_written (stream x way) bytes)).0)
  written_left h way bytes can =
      flows h way (bytes_written (stream x way) bytes) (kept-can_write (stream x way) bytes (sound_way h way) can) (sound-written (stream x way) bytes (sound_way h way) can)
      (λ t is. is) (λ t is. is) (λ t. refl) (λ t. refl)

  read_left : IsSoundXbuf x → (way : Way) (len : ℕ) → Left x (with_stream x way (served (bytes_read (stream x way) len)).1) (map service_told (served (bytes_read (stream x way) len)).0)
  read_left h way len =
      flows h way (bytes_read (stream x way) len) (kept-read (stream x way) len (sound_way h way).kept) (sound-read (stream x way) len (sound_way h way))
      (λ t is. is) (λ t is. is) (λ t. refl) (λ t. refl)

-- the steps that calls ask for
module _ (x y : Xbuf) (said : Reply) (h : IsSoundXbuf x) where
  pub write_left : (stage : Stage) (way : Way) (bytes : List ℕ) → machine x (through.write stage way bytes) ≡ Ok (said, y) → Left x y (xbuf_wakes x (through.write stage way bytes))
  write_left stage way bytes = by (stage_refusal (writing_stage way) stage) (too_big (stream x way) bytes) (can_write (stream x way) bytes) refl
    where
      asked : Option Refusal → Option Refusal → Bool → Result (List Service × Xbuf) Refusal
      asked a b c = unless a (unless_refused x way (unless b (if c then Ok (served (bytes_written (stream x way) bytes)) else Err Again)))

      by : (a b : Option Refusal) (c : Bool) → can_write (stream x way) bytes ≡ c → reply_by (λ (u : List Service). reply.Done) (asked a b c) ≡ Ok (said, y)
          → Left x y (map service_told (served_in (answer_in (asked a b c))))
      by (Some e) b c can is = absurd (err_ok is)
      by None (Some e) c can is = absurd (err_ok is)
      by None None false can is = absurd (err_ok is)
      by None None true can is =
          subst (λ (z : Xbuf). Left x z (map service_told (served (bytes_written (stream x way) bytes)).0)) (ap (λ (p : Reply × Xbuf). p.1) (ok_is is)) (written_left x h way bytes can)

  pub read_left_of : (stage : Stage) (way : Way) (len : ℕ) → machine x (through.read stage way len) ≡ Ok (said, y) → Left x y (xbuf_wakes x (through.read stage way len))
  read_left_of stage way len = by (out_of_range len) (stage_refusal (reading_stage way) stage) (can_read (stream x way) len)
    where
      asked : Option Refusal → Option Refusal → Bool → Result ((List ℕ × List Service) × Xbuf) Refusal
      asked a b c = unless a (unless b (unless_refused x way (if c then Ok (with_bytes (bytes_given (stream x way) len) (served (bytes_read (stream x way) len))) else Err Again)))

      by : (a b : Option Refusal) (c : Bool) → reply_by (λ (got : List ℕ × List Service). bytes_told got.0) (asked a b c) ≡ Ok (said, y)
          → Left x y (map service_told (served_beside (answer_in (asked a b c))))
      by (Some e) b c is = absurd (err_ok is)
      by None (Some e) c is = absurd (err_ok is)
      by None None false is = absurd (err_ok is)
      by None None true is =
          subst (λ (z : Xbuf). Left x z (map service_told (served (bytes_read (stream x way) len)).0)) (ap (λ (p : Reply × Xbuf). p.1) (ok_is is)) (read_left x h way len)

-- a wait that begins: it is served, or it goes on
pub record Begun (x y : Xbuf) (queue : Queue) (thread : ℕ) (told : Option Reply) (woken : List (ℕ × Reply)) : Type 0 where
  pub sound : IsSoundXbuf y
  pub at_once : (outcome : Reply) → told ≡ Some outcome → Left x y woken
  pub waits : told ≡ None → Came x y queue thread
  pub quiet : told ≡ None → woken ≡ []

at_once_as : (x y : Xbuf) (queue : Queue) (thread : ℕ) (outcome : Reply) (woken : List (ℕ × Reply)) → Left x y woken → Begun x y queue thread (Some outcome) woken
at_once_as x y queue thread outcome woken left = record { sound = left.sound; at_once = λ told is. left; waits = λ none. absurd (some-none _ none); quiet = λ none. absurd (some-none _ none) }

waits_as : (x y : Xbuf) (queue : Queue) (thread : ℕ) → IsSoundXbuf y → Came x y queue thread → Begun x y queue thread None []
waits_as x y queue thread sound came = record { sound = sound; at_once = λ told is. absurd (none-some _ is); waits = λ none. came; quiet = λ none. refl }

-- which threads are in a queue that one more came to
stands_last : {A : Type 0} (of : A → ℕ) (ws : List A) (w : A) (t : ℕ) → stands_in of t (ws ++ w ∷ []) ≡ (stands_in of t ws || (of w == t))
stands_last of [] w t = or_nothing (of w == t)
  where
    or_nothing : (b : Bool) → (b || false) ≡ b
    or_nothing true = refl
    or_nothing false = refl
stands_last of (v ∷ vs) w t = by (of v == t) (stands_last of vs w t)
  where
    by : (b : Bool) → stands_in of t (vs ++ w ∷ []) ≡ (stands_in of t vs || (of w == t)) → (b || stands_in of t (vs ++ w ∷ [])) ≡ ((b || stands_in of t vs) || (of w == t))
    by true rest = refl
    by false rest = rest

or_no : (a b : Bool) → b ≡ false → (a || b) ≡ a
or_no true b e = refl
or_no false b e = e

module _ (x : Xbuf) (thread : ℕ) where
  -- a writer comes to a way
  writer_came : (way : Way) (bytes : List ℕ) → Came x (with_stream x way (with_writer (stream x way) thread bytes)) (writing way) thread
  writer_came way bytes = record { there = there; alone = alone way; same = same }
    where
      stood : (t : ℕ) → writes t (with_writer (stream x way) thread bytes) ≡ (writes t (stream x way) || (thread == t))
      stood t = stands_last (λ (w : Writer). w.thread) (stream x way).writers (record { thread = thread; bytes = record { items = bytes } }) t

      there : in_queue (writing way) (with_stream x way (with_writer (stream x way) thread bytes)) thread ≡ true
      there =
          ap (writes thread) (with_way x way (with_writer (stream x way) thread bytes))
          ∙ (stood thread ∙ or_right (writes thread (stream x way)) (thread == thread) (eq-eqb thread thread refl))

      same : (q : Queue) (t : ℕ) → (t == thread) ≡ false → in_queue q (with_stream x way (with_writer (stream x way) thread bytes)) t ≡ in_queue q x t
      same q t ne = same_queues x way (with_writer (stream x way) thread bytes) q t refl (stood t ∙ or_no (writes t (stream x way)) (thread == t) (eqb-swap_false t thread ne))

      alone : (w : Way) (q : Queue) → in_queue q (with_stream x w (with_writer (stream x w) thread bytes)) thread ≡ true → (writing w ≡ q) ⊎ (in_queue q x thread ≡ true)
      alone In (reading In) is = inr is
      alone In (reading Out) is = inr is
      alone In (writing In) is = inl refl
      alone In (writing Out) is = inr is
      alone Out (reading In) is = inr is
      alone Out (reading Out) is = inr is
      alone Out (writing In) is = inr is
      alone Out (writing Out) is = inl refl

  -- and a reader
  reader_came : (way : Way) (len : ℕ) → Came x (with_stream x way (with_reader (stream x way) thread len)) (reading way) thread
  reader_came way len = record { there = there; alone = alone way; same = same }
    where
      stood : (t : ℕ) → reads t (with_reader (stream x way) thread len) ≡ (reads t (stream x way) || (thread == t))
      stood t = stands_last (λ (r : Reader). r.thread) (stream x way).readers (record { thread = thread; len = len }) t

      there : in_queue (reading way) (with_stream x way (with_reader (stream x way) thread len)) thread ≡ true
      there =
          ap (reads thread) (with_way x way (with_reader (stream x way) thread len))
          ∙ (stood thread ∙ or_right (reads thread (stream x way)) (thread == thread) (eq-eqb thread thread refl))

      same : (q : Queue) (t : ℕ) → (t == thread) ≡ false → in_queue q (with_stream x way (with_reader (stream x way) thread len)) t ≡ in_queue q x t
      same q t ne = same_queues x way (with_reader (stream x way) thread len) q t (stood t ∙ or_no (reads t (stream x way)) (thread == t) (eqb-swap_false t thread ne)) refl

      alone : (w : Way) (q : Queue) → in_queue q (with_stream x w (with_reader (stream x w) thread len)) thread ≡ true → (reading w ≡ q) ⊎ (in_queue q x thread ≡ true)
      alone In (reading In) is = inl refl
      alone In (reading Out) is = inr is
      alone In (writing In) is = inr is
      alone In (writing Out) is = inr is
      alone Out (reading In) is = inr is
      alone Out (reading Out) is = inl refl
      alone Out (writing In) is = inr is
      alone Out (writing Out) is = inr is

module _ (x y : Xbuf) (said : Reply) (h : IsSoundXbuf x) (thread : ℕ) (within : thread < thread_limit) where
  pub write_begun : (way : Way) (bytes : List ℕ) → in_writers way x thread ≡ false → machine x (through.begin_write thread way bytes) ≡ Ok (said, y)
      → Begun x y (writing way) thread (xbuf_serves x (through.begin_write thread way bytes)) (xbuf_wakes x (through.begin_write thread way bytes))
  write_begun way bytes away = by (stage_refusal (writing_stage way) (writing_stage way)) (too_big (stream x way) bytes) refl (can_write (stream x way) bytes) refl
    where
      asked : Option Refusal → Option Refusal → Bool → Result (Option (List Service) × Xbuf) Refusal
      asked a b c =
          unless a (unless_refused x way (unless b (Ok (if c then streams.at_once (served (bytes_written (stream x way) bytes)) else (None, with_writer (stream x way) thread bytes)))))

      by : (a b : Option Refusal) → too_big (stream x way) bytes ≡ b → (c : Bool) → can_write (stream x way) bytes ≡ c → reply_by (λ (u : Option (List Service)). reply.Begun) (asked a b c) ≡ Ok (said, y)
          → Begun x y (writing way) thread (done_at_once (at_once (answer_in (asked a b c)))) (map service_told (served_in (at_once (answer_in (asked a b c)))))
      by (Some e) b short c can is = absurd (err_ok is)
      by None (Some e) short c can is = absurd (err_ok is)
      by None None short true can is =
          subst (λ (z : Xbuf). Begun x z (writing way) thread (Some reply.Done) (map service_told (served (bytes_written (stream x way) bytes)).0)) (ap (λ (p : Reply × Xbuf). p.1) (ok_is is))
          (at_once_as x _ (writing way) thread reply.Done _ (written_left x h way bytes can))
      by None None short false can is =
          subst (λ (z : Xbuf). Begun x z (writing way) thread None []) (ap (λ (p : Reply × Xbuf). p.1) (ok_is is))
          (waits_as x _ (writing way) thread (sound_with x h way _ (sound-with_writer (stream x way) thread bytes (sound_way x h way) away within short can)) (writer_came x thread way bytes))

  pub read_begun : (way : Way) (len : ℕ) → in_readers way x thread ≡ false → machine x (through.begin_read thread way len) ≡ Ok (said, y)
      → Begun x y (reading way) thread (xbuf_serves x (through.begin_read thread way len)) (xbuf_wakes x (through.begin_read thread way len))
  read_begun way len away = by (out_of_range len) (stage_refusal (reading_stage way) (reading_stage way)) (can_read (stream x way) len) refl
    where
      asked : Option Refusal → Option Refusal → Bool → Result (Option (List ℕ × List Service) × Xbuf) Refusal
      asked a b c =
          unless a (unless b (Ok (xbufs.with_other_way x way (if c then streams.at_once (with_bytes (bytes_given (stream x way) len) (served (bytes_read (stream x way) len))) else (None, with_reader (stream x way) thread len)))))

      by : (a b : Option Refusal) (c : Bool) → can_read (stream x way) len ≡ c → reply_by (λ (u : Option (List ℕ × List Service)). reply.Begun) (asked a b c) ≡ Ok (said, y)
          → Begun x y (reading way) thread (read_at_once (at_once (answer_in (asked a b c)))) (map service_told (served_beside (at_once (answer_in (asked a b c)))))
      by (Some e) b c can is = absurd (err_ok is)
      by None (Some e) c can is = absurd (err_ok is)
      by None None true can is =
          subst (λ (z : Xbuf). Begun x z (reading way) thread (Some (bytes_told (bytes_given (stream x way) len))) (map service_told (served (bytes_read (stream x way) len)).0)) (ap (λ (p : Reply × Xbuf). p.1) (ok_is is))
          (at_once_as x _ (reading way) thread (bytes_told (bytes_given (stream x way) len)) _ (read_left x h way len))
      by None None false can is =
          subst (λ (z : Xbuf). Begun x z (reading way) thread None []) (ap (λ (p : Reply × Xbuf). p.1) (ok_is is))
          (waits_as x _ (reading way) thread (sound_with x h way _ (sound-with_reader (stream x way) thread len (sound_way x h way) away within can)) (reader_came x thread way len))

-- a waiter leaves a way, and others may be served by that
pub record Dropped (x y : Xbuf) (way : Way) (thread : ℕ) (served : List (ℕ × Reply)) : Type 0 where
  pub sound : IsSoundXbuf y
  pub no_reader : in_readers way y thread ≡ false
  pub no_writer : in_writers way y thread ≡ false
  pub left : (t : ℕ) → is_served t served ≡ true → Gone x t y
  pub same : (q : Queue) (t : ℕ) → (t == thread) ≡ false → is_served t served ≡ false → in_queue q y t ≡ in_queue q x t
  pub old : (q : Queue) (t : ℕ) → in_queue q y t ≡ true → in_queue q x t ≡ true

pub drop_left : (x : Xbuf) (h : IsSoundXbuf x) (thread : ℕ) (way : Way) → Dropped x (xbufs.drop_waiter thread way x).1 way thread (xbuf_wakes x (through.drop thread way))
drop_left x h thread way = record {
  sound = sound_with x h way (served changed).1 (sound-dropped (stream x way) thread (sound_way x h way));
  no_reader = ap (reads thread) (with_way x way (served changed).1) ∙ gone_reader;
  no_writer = ap (writes thread) (with_way x way (served changed).1) ∙ gone_writer;
  left = gone_from x h way changed kept (sound-dropped (stream x way) thread (sound_way x h way)) old_reads old_writes;
  same = λ q t ne is. same_after x h way changed kept (sound-dropped (stream x way) thread (sound_way x h way)) old_reads old_writes q t is
      (dropped_stays (λ (r : Reader). r.thread) thread t ne (stream x way).readers) (dropped_stays (λ (w : Writer). w.thread) thread t ne (stream x way).writers);
  old = old_after x h way changed kept (sound-dropped (stream x way) thread (sound_way x h way)) old_reads old_writes;
}
  where
    changed : Stream
    changed = without (stream x way) thread

    kept : IsKeptStream changed
    kept = kept-without (stream x way) thread (sound_way x h way).kept

    stays : {A : Type 0} (of : A → ℕ) (ws : List A) (t : ℕ) → stands_in of t (dropped_by of thread ws) ≡ true → stands_in of t ws ≡ true
    stays of ws t is = by (t == thread) refl
      where
        by : (b : Bool) → (t == thread) ≡ b → stands_in of t ws ≡ true
        by true same = absurd (false≢true (sym (dropped_gone of thread ws) ∙ (ap (λ (m : ℕ). stands_in of m (dropped_by of thread ws)) (sym (eqb-true t thread same)) ∙ is)))
        by false ne = sym (dropped_stays of thread t ne ws) ∙ is

    old_reads : (t : ℕ) → reads t changed ≡ true → reads t (stream x way) ≡ true
    old_reads t = stays (λ (r : Reader). r.thread) (stream x way).readers t

    old_writes : (t : ℕ) → writes t changed ≡ true → writes t (stream x way) ≡ true
    old_writes t = stays (λ (w : Writer). w.thread) (stream x way).writers t

    gone_reader : reads thread (served changed).1 ≡ false
    gone_reader = by (reads thread (served changed).1) refl
      where
        by : (b : Bool) → reads thread (served changed).1 ≡ b → b ≡ false
        by true is = absurd (false≢true (sym (dropped_gone (λ (r : Reader). r.thread) thread (stream x way).readers)
            ∙ reads_after x h way changed kept (sound-dropped (stream x way) thread (sound_way x h way)) old_reads old_writes thread is))
        by false is = refl

    gone_writer : writes thread (served changed).1 ≡ false
    gone_writer = by (writes thread (served changed).1) refl
      where
        by : (b : Bool) → writes thread (served changed).1 ≡ b → b ≡ false
        by true is = absurd (false≢true (sym (dropped_gone (λ (w : Writer). w.thread) thread (stream x way).writers)
            ∙ writes_after x h way changed kept (sound-dropped (stream x way) thread (sound_way x h way)) old_reads old_writes thread is))
        by false is = refl
