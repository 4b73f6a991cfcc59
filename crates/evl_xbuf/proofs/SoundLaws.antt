-- A way is sound after each call: it is kept, nobody waits who can be served, and at most one queue has anybody.
use Rattle.std.proofs.Common.{◌≡◌, ℕ, zero, suc, ◌+◌, ◌<◌, ◌≤◌, ◌==◌, nat_le, nat_lt, inl, inr, Bool, true, false, ◌&&◌, ◌||◌, List, [], ◌∷◌, ◌++◌, length, take, drop, remove, Option, Some, None, if◌then◌else◌, refl, sym, ap, ◌∙◌, subst, length-append, arith}
use Rattle.std.specs.Option.{option_or}
use Rattle.std.specs.List.{AllByRecursion}
use Rattle.std.proofs.lemmas.Bool.{false≢true, leb-false, leb-true, or_parts}
use Rattle.std.proofs.lemmas.Bool.Decides.{nat_tests}
use Rattle.std.proofs.lemmas.List.{take-append-drop}
use Rattle.std.proofs.lemmas.Option.{none-some}
use Rattle.evl_base.specs.Limits.{thread_limit}
use Rattle.evl_base.specs.declared.refusal.Refusal.TheVariants.{TooBig}
use Rattle.evl_sync.specs.Queues.{dropped_by, is_nobody, stands_in}
use Rattle.evl_xbuf.specs.declared.waiters.Reader.{Reader}
use Rattle.evl_xbuf.specs.declared.waiters.Writer.{Writer}
use Rattle.evl_xbuf.specs.Streams.{HasOneQueue, IsAtRest, IsKeptStream, IsSoundStream, Stream, Service, Wrote, Got, can_read, can_write, drop_waiter, empty, fits, bytes_given, is_empty, next_service, bytes_read, reader_served, services_made, served_from, too_big, waiting, with_reader, with_writer, without, writer_served, bytes_written}
use Rattle.evl_xbuf.proofs.StreamLaws.{kept-reader, kept-reader_gone, kept-without, kept-writer, kept-writer_gone}
use Rattle.evl_xbuf.proofs.ServingLaws.{at_rest, goes_on}

kept-written : (s : Stream) (bytes : List ℕ) → length s.there + length bytes ≤ s.size → IsKeptStream s → IsKeptStream (bytes_written s bytes)
kept-written s bytes l h = record { few = h.few; within = omega (arith, l, length-append s.there bytes); short = h.short; writers = h.writers; readers = h.readers }

pub kept-read : (s : Stream) (len : ℕ) → IsKeptStream s → IsKeptStream (bytes_read s len)
kept-read s len h = record {
  few = h.few;
  within = let parts = ap length (take-append-drop len s.there) in omega (arith, h.within, parts, length-append (take len s.there) (drop len s.there));
  short = h.short;
  writers = h.writers;
  readers = h.readers;
}

-- one service keeps what is known, and leaves one waiter fewer
abbrev Keeps : Stream → Option (Service × Stream) → Type 0
Keeps s None = Unit {0}
Keeps s (Some (one, mid)) = IsKeptStream mid × (HasOneQueue s → HasOneQueue mid) × (waiting s ≡ suc (waiting mid))

reader-keeps : (s : Stream) (rs : List Reader) (o : Option (Service × Stream)) → IsKeptStream s → s.readers ≡ rs → Keeps s o → Keeps s (option_or (reader_served rs s) o)
reader-keeps s [] o h e k = k
reader-keeps s (r ∷ rs) o h e k = by (can_read s r.len)
  where
    queue : HasOneQueue s → HasOneQueue (record (bytes_read s r.len) { readers = rs })
    queue (inl none) = inl none
    queue (inr none) = absurd (cc)

    by : (b : Bool) → Keeps s (option_or {T = Service × Stream} (if b then Some (Got r.thread (bytes_given s r.len), record (bytes_read s r.len) { readers = rs }) else None) o)
    by true = (kept-reader_gone (bytes_read s r.len) rs (sym (ap (λ (xs : List Reader). remove xs 0) e)) (kept-read s r.len h), queue, let l = ap length e in omega (arith, l))
    by false = k

writer-keeps : (s : Stream) (ws : List Writer) → IsKeptStream s → s.writers ≡ ws → Keeps s (writer_served ws s)
writer-keeps s [] h e = tt
writer-keeps s (w ∷ ws) h e = by (fits s w.bytes.items) refl
  where
    queue : HasOneQueue s → HasOneQueue (record (bytes_written s w.bytes.items) { writers = ws })
    queue (inl none) = absurd (cc)
    queue (inr none) = inr none

    by : (b : Bool) → fits s w.bytes.items ≡ b → Keeps s (if b then Some (Wrote w.thread, record (bytes_written s w.bytes.items) { writers = ws }) else None)
    by true fit = (
      kept-writer_gone (bytes_written s w.bytes.items) ws (sym (ap (λ (xs : List Writer). remove xs 0) e)) (kept-written s w.bytes.items (leb-true _ _ fit) h),
      queue,
      let l = ap length e in omega (arith, l),
    )
    by false fit = tt

next-keeps : (s : Stream) → IsKeptStream s → Keeps s (next_service s)
next-keeps s h = reader-keeps s s.readers (writer_served s.writers s) h refl (writer-keeps s s.writers h refl)

-- where nobody waits, nobody can be served
nobody : (s : Stream) → waiting s ≡ 0 → next_service s ≡ None
nobody s none = by s.readers refl s.writers refl
  where
    by : (rs : List Reader) → s.readers ≡ rs → (ws : List Writer) → s.writers ≡ ws → option_or (reader_served rs s) (writer_served ws s) ≡ None
    by [] r [] w = refl
    by (x ∷ rs) r ws w = let l = ap length r in absurd (omega (arith, none, l))
    by [] r (x ∷ ws) w = let l = ap length w in absurd (omega (arith, none, l))

served-keeps : (n : ℕ) (s : Stream) → waiting s ≤ n → IsKeptStream s → HasOneQueue s → IsSoundStream (served_from n s).1
served-keeps zero s few h q = record { kept = h; rest = record { rests = nobody s (omega (arith, few)); one_queue = q } }
served-keeps (suc n) s few h q = by (next_service s) refl (next-keeps s h) (served-keeps n)
  where
    by : (o : Option (Service × Stream)) → next_service s ≡ o → Keeps s o
        → ((t : Stream) → waiting t ≤ n → IsKeptStream t → HasOneQueue t → IsSoundStream (served_from n t).1) → IsSoundStream (served_from (suc n) s).1
    by None e k rest = rw (at_rest s e (suc n)) (record { kept = h; rest = record { rests = e; one_queue = q } })
    by (Some (one, mid)) e k rest = rw (goes_on s mid one n e) (rest mid (omega (arith, few, k.2)) k.0 (k.1 q))

pub sound-served : (s : Stream) → IsKeptStream s → HasOneQueue s → IsSoundStream (services_made s).1
sound-served s h q = served-keeps (waiting s) s (omega arith) h q

-- a write that is done
pub kept-can_write : (s : Stream) (bytes : List ℕ) → IsSoundStream s → can_write s bytes ≡ true → IsKeptStream (bytes_written s bytes)
kept-can_write s bytes h can = kept-written s bytes (room bytes can) h.kept
  where
    behind : (a b : Bool) → (a && b) ≡ true → b ≡ true
    behind true b e = e
    behind false b e = absurd (false≢true e)

    room : (bs : List ℕ) → can_write s bs ≡ true → length s.there + length bs ≤ s.size
    room [] e = let l = h.kept.within in omega (arith, l)
    room (byte ∷ bs) e = leb-true _ _ (behind (is_nobody s.writers) (fits s (byte ∷ bs)) e)

pub sound-written : (s : Stream) (bytes : List ℕ) → IsSoundStream s → can_write s bytes ≡ true → IsSoundStream (services_made (bytes_written s bytes)).1
sound-written s bytes h can = sound-served (bytes_written s bytes) (kept-can_write s bytes h can) h.rest.one_queue

-- a read that is done
pub sound-read : (s : Stream) (len : ℕ) → IsSoundStream s → IsSoundStream (services_made (bytes_read s len)).1
sound-read s len h = sound-served (bytes_read s len) (kept-read s len h.kept) h.rest.one_queue

-- a waiter that leaves
pub sound-dropped : (s : Stream) (t : ℕ) → IsSoundStream s → IsSoundStream (drop_waiter t s).1
sound-dropped s t h = sound-served (without s t) (kept-without s t h.kept) (queue h.rest.one_queue)
  where
    queue : HasOneQueue s → HasOneQueue (without s t)
    queue (inl none) = inl (ap (dropped_by (λ w. w.thread) t) none)
    queue (inr none) = inr (ap (dropped_by (λ r. r.thread) t) none)

-- the writer at the head can't be served where nobody reads, and the reader at the head can't be where nobody writes
writer_stuck : (x : Stream) (w : Writer) (ws : List Writer) → x.readers ≡ [] → x.writers ≡ w ∷ ws
    → next_service x ≡ (if fits x w.bytes.items then Some (Wrote w.thread, record (bytes_written x w.bytes.items) { writers = ws }) else None)
writer_stuck x w ws r e = ap (λ rs. option_or (reader_served rs x) (writer_served x.writers x)) r ∙ ap (λ vs. writer_served vs x) e

reader_stuck : (x : Stream) (r : Reader) (rs : List Reader) → x.readers ≡ r ∷ rs → x.writers ≡ []
    → next_service x ≡ (if can_read x r.len then Some (Got r.thread (bytes_given x r.len), record (bytes_read x r.len) { readers = rs }) else None)
reader_stuck x r rs e w = ap (λ vs. option_or (reader_served vs x) (writer_served x.writers x)) e ∙ by (can_read x r.len)
  where
    by : (b : Bool) → option_or {T = Service × Stream} (if b then Some (Got r.thread (bytes_given x r.len), record (bytes_read x r.len) { readers = rs }) else None) (writer_served x.writers x)
        ≡ (if b then Some (Got r.thread (bytes_given x r.len), record (bytes_read x r.len) { readers = rs }) else None)
    by true = refl
    by false = ap (λ vs. writer_served vs x) w

is_false : {A : Type 0} (b : Bool) (x : A) → (if b then Some x else None) ≡ None → b ≡ false
is_false true x e = absurd (none-some _ (sym e))
is_false false x e = refl

none_if : {A : Type 0} (b : Bool) (x : A) → b ≡ false → (if b then Some x else None) ≡ None
none_if true x e = absurd (false≢true (sym e))
none_if false x e = refl

not_both : {A : Type 0} (s : Stream) (w : Writer) (ws : List Writer) (r : Reader) (rs : List Reader) → s.writers ≡ w ∷ ws → s.readers ≡ r ∷ rs → HasOneQueue s → A
not_both s w ws r rs ew er (inl none) = absurd (cc)
not_both s w ws r rs ew er (inr none) = absurd (cc)

second : (a b : Bool) → a ≡ true → (a && b) ≡ false → b ≡ false
second true b e h = h
second false b e h = absurd (false≢true e)

-- where nothing can be read, nothing is there
empty_there : (s : Stream) (len : ℕ) → can_read s len ≡ false → length s.there ≡ 0
empty_there s len e = by s.there refl
  where
    wants : (len == 0) ≡ false → (xs : List ℕ) → s.there ≡ xs → length xs ≡ 0
    wants f [] there = refl
    wants f (x ∷ xs) there = let full : can_read s len ≡ true = rw (f, there) refl in absurd (false≢true (sym e ∙ full))

    by : (xs : List ℕ) → s.there ≡ xs → length s.there ≡ 0
    by xs there = by_len (len == 0) refl
      where
        by_len : (b : Bool) → (len == 0) ≡ b → length s.there ≡ 0
        by_len true t = let can : can_read s len ≡ true = rw t refl in absurd (false≢true (sym e ∙ can))
        by_len false f = ap length there ∙ wants f xs there

short_enough : (s : Stream) (bytes : List ℕ) → too_big s bytes ≡ None → length bytes ≤ s.size
short_enough s bytes e = by (nat_lt s.size (length bytes)) refl e
  where
    by : (b : Bool) → nat_lt s.size (length bytes) ≡ b → (if b then Some TooBig else None) ≡ None → length bytes ≤ s.size
    by true lt none = absurd (none-some _ (sym none))
    by false lt none = grind (arith, nat_tests)

abbrev writer_of : ℕ → List ℕ → Writer
writer_of t bytes = record { thread = t; bytes = record { items = bytes } }

abbrev reader_of : ℕ → ℕ → Reader
reader_of t len = record { thread = t; len = len }

-- a writer that begins to wait
pub sound-with_writer : (s : Stream) (t : ℕ) (bytes : List ℕ) → IsSoundStream s → stands_in (λ w. w.thread) t s.writers ≡ false → t < thread_limit → too_big s bytes ≡ None
    → can_write s bytes ≡ false → IsSoundStream (with_writer s t bytes)
sound-with_writer s t bytes h away below short cant = record { kept = kept-writer s t bytes away below l h.kept; rest = by s.writers refl s.readers refl }
  where
    l : length bytes ≤ s.size
    l = short_enough s bytes short

    unfit : s.writers ≡ [] → fits s bytes ≡ false
    unfit none = second (is_nobody s.writers) (fits s bytes) (ap is_nobody none) ((or_parts (is_empty bytes) (is_nobody s.writers && fits s bytes) cant).1)

    by : (ws : List Writer) → s.writers ≡ ws → (rs : List Reader) → s.readers ≡ rs → IsAtRest (with_writer s t bytes)
    by (v ∷ vs) w (r ∷ rs) e = not_both s v vs r rs w e h.rest.one_queue
    by (v ∷ vs) w [] e = record {
      rests = writer_stuck (with_writer s t bytes) v (vs ++ writer_of t bytes ∷ []) e (ap (λ (xs : List Writer). xs ++ writer_of t bytes ∷ []) w)
          ∙ none_if (fits s v.bytes.items) _ (is_false (fits s v.bytes.items) _ (sym (writer_stuck s v vs e w) ∙ h.rest.rests));
      one_queue = inr e;
    }
    by [] w [] e = record {
      rests = writer_stuck (with_writer s t bytes) (writer_of t bytes) [] e (ap (λ (xs : List Writer). xs ++ writer_of t bytes ∷ []) w) ∙ none_if (fits s bytes) _ (unfit w);
      one_queue = inr e;
    }
    by [] w (r ∷ rs) e =
        let stuck : can_read s r.len ≡ false = is_false (can_read s r.len) _ (sym (reader_stuck s r rs e w) ∙ h.rest.rests) in
        let none = empty_there s r.len stuck in
        let long = leb-false (length s.there + length bytes) s.size (unfit w) in
        absurd (omega (arith, none, long, l))

-- a reader that begins to wait
pub sound-with_reader : (s : Stream) (t len : ℕ) → IsSoundStream s → stands_in (λ r. r.thread) t s.readers ≡ false → t < thread_limit → can_read s len ≡ false → IsSoundStream (with_reader s t len)
sound-with_reader s t len h away below cant = record { kept = kept-reader s t len away below h.kept; rest = by s.writers refl s.readers refl }
  where
    by : (ws : List Writer) → s.writers ≡ ws → (rs : List Reader) → s.readers ≡ rs → IsAtRest (with_reader s t len)
    by (v ∷ vs) w (r ∷ rs) e = not_both s v vs r rs w e h.rest.one_queue
    by (v ∷ vs) w [] e =
        let stuck : fits s v.bytes.items ≡ false = is_false (fits s v.bytes.items) _ (sym (writer_stuck s v vs e w) ∙ h.rest.rests) in
        let none = empty_there s len cant in
        let long = leb-false (length s.there + length v.bytes.items) s.size stuck in
        let fit = subst (λ (ws : List Writer). AllByRecursion (λ u. length u.bytes.items ≤ s.size) ws) w h.kept.short in
        absurd (omega (arith, none, long, fit.0))
    by [] w [] e = record {
      rests = reader_stuck (with_reader s t len) (reader_of t len) [] (ap (λ (xs : List Reader). xs ++ reader_of t len ∷ []) e) w ∙ none_if (can_read s len) _ cant;
      one_queue = inl w;
    }
    by [] w (r ∷ rs) e = record {
      rests = reader_stuck (with_reader s t len) r (rs ++ reader_of t len ∷ []) (ap (λ (xs : List Reader). xs ++ reader_of t len ∷ []) e) w
          ∙ none_if (can_read s r.len) _ (is_false (can_read s r.len) _ (sym (reader_stuck s r rs e w) ∙ h.rest.rests));
      one_queue = inl w;
    }

-- a new way
pub sound-empty : (size : ℕ) → size ≤ 256 → IsSoundStream (empty size)
sound-empty size few = record {
  kept = record {
    few = few;
    within = omega arith;
    short = tt;
    writers = record { ranked = tt; few = λ t e. absurd (false≢true e) };
    readers = record { ranked = tt; few = λ t e. absurd (false≢true e) };
  };
  rest = record { rests = refl; one_queue = inl refl };
}
