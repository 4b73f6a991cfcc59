-- Bytes come out in the order in which they went in.
use Rattle.std.proofs.Common.{◌≡◌, ℕ, zero, suc, nat_lt, Bool, true, false, List, [], ◌∷◌, ◌++◌, length, take, drop, Option, Some, None, Ok, Err, if◌then◌else◌, refl, sym, ap, ◌∙◌, append_assoc, append-nil}
use Rattle.std.specs.Option.{option_or}
use Rattle.std.proofs.lemmas.List.{take-append-drop}
use Rattle.evl_base.specs.declared.refusal.Refusal.TheVariants.{Again, TooBig}
use Rattle.evl_sync.specs.Steps.{unless}
use Rattle.evl_xbuf.specs.declared.waiters.Reader.{Reader}
use Rattle.evl_xbuf.specs.declared.waiters.Writer.{Writer}
use Rattle.evl_xbuf.specs.Services.{read_by}
use Rattle.evl_xbuf.specs.Streams.{Stream, Service, Wrote, Got, at_once, can_read, can_write, empty, fits, bytes_given, next_service, bytes_read, reader_served, services_made, served_from, waiting, with_bytes, with_reader, with_writer, without, writer_served, bytes_written}
use Rattle.evl_xbuf.specs.Flows.{Call, Write, Read, BeginWrite, BeginRead, Drop, Flow, ReadsFollowWrites, flow, flowing, of_begin_read, of_begin_write, of_read, of_write, run, written_by}
use Rattle.evl_xbuf.proofs.ServingLaws.{at_rest, goes_on}

-- what is there, and then what comes, is what goes, and then what is there afterwards
abbrev pub Goes : List ℕ → Flow → Type 0
Goes there f = there ++ f.accepted ≡ f.taken ++ f.after.there

-- one service, and then the others
abbrev Flows : Stream → Option (Service × Stream) → Type 0
Flows s None = Unit {0}
Flows s (Some (one, mid)) = (rest : List Service) (x : List ℕ) → mid.there ++ written_by rest mid.writers ≡ read_by rest ++ x → s.there ++ written_by (one ∷ rest) s.writers ≡ read_by (one ∷ rest) ++ x

reader-flows : (s : Stream) (rs : List Reader) (o : Option (Service × Stream)) → Flows s o → Flows s (option_or (reader_served rs s) o)
reader-flows s [] o h = h
reader-flows s (r ∷ rs) o h = by (can_read s r.len)
  where
    by : (b : Bool) → Flows s (option_or {T = Service × Stream} (if b then Some (Got r.thread (bytes_given s r.len), record (bytes_read s r.len) { readers = rs }) else None) o)
    by true = λ rest x e.
        ap (λ xs. xs ++ written_by rest s.writers) (sym (take-append-drop r.len s.there)) ∙ append_assoc (take r.len s.there) (drop r.len s.there) (written_by rest s.writers)
        ∙ ap (λ xs. take r.len s.there ++ xs) e ∙ sym (append_assoc (take r.len s.there) (read_by rest) x)
    by false = h

writer-flows : (s : Stream) (ws : List Writer) → s.writers ≡ ws → Flows s (writer_served ws s)
writer-flows s [] e = tt
writer-flows s (w ∷ ws) e = by (fits s w.bytes.items)
  where
    by : (b : Bool) → Flows s (if b then Some (Wrote w.thread, record (bytes_written s w.bytes.items) { writers = ws }) else None)
    by true = λ rest x h. ap (λ vs. s.there ++ written_by (Wrote w.thread ∷ rest) vs) e ∙ sym (append_assoc s.there w.bytes.items (written_by rest ws)) ∙ h
    by false = tt

next-flows : (s : Stream) → Flows s (next_service s)
next-flows s = reader-flows s s.readers (writer_served s.writers s) (writer-flows s s.writers refl)

served-flows : (n : ℕ) (s : Stream) → s.there ++ written_by (served_from n s).0 s.writers ≡ read_by (served_from n s).0 ++ (served_from n s).1.there
served-flows zero s = append-nil s.there
served-flows (suc n) s = by (next_service s) refl (served-flows n)
  where
    by : (o : Option (Service × Stream)) → next_service s ≡ o
        → ((t : Stream) → t.there ++ written_by (served_from n t).0 t.writers ≡ read_by (served_from n t).0 ++ (served_from n t).1.there)
        → s.there ++ written_by (served_from (suc n) s).0 s.writers ≡ read_by (served_from (suc n) s).0 ++ (served_from (suc n) s).1.there
    by None e more = rw (at_rest s e (suc n)) (append-nil s.there)
    by (Some (one, mid)) e more = rw (goes_on s mid one n e) (let f : Flows s (Some (one, mid)) = rw e at (next-flows s) in f (served_from n mid).0 (served_from n mid).1.there (more mid))

-- a change, and whom it serves
write-goes : (s : Stream) (bytes : List ℕ) → Goes s.there (flowing s.writers bytes [] (services_made (bytes_written s bytes)))
write-goes s bytes = sym (append_assoc s.there bytes (written_by (services_made (bytes_written s bytes)).0 s.writers)) ∙ served-flows (waiting s) (bytes_written s bytes)

read-goes : (s : Stream) (len : ℕ) → Goes s.there (flowing s.writers [] (bytes_given s len) (services_made (bytes_read s len)))
read-goes s len =
    let ss = (services_made (bytes_read s len)).0 in
    ap (λ xs. xs ++ written_by ss s.writers) (sym (take-append-drop len s.there)) ∙ append_assoc (take len s.there) (drop len s.there) (written_by ss s.writers)
    ∙ ap (λ xs. take len s.there ++ xs) (served-flows (waiting s) (bytes_read s len)) ∙ sym (append_assoc (take len s.there) (read_by ss) (services_made (bytes_read s len)).1.there)

call-goes : (call : Call) (s : Stream) → Goes s.there (flow call s)
call-goes (Write bytes) s = by (nat_lt s.size (length bytes)) (can_write s bytes)
  where
    by : (big can : Bool) → Goes s.there (of_write s bytes (unless (if big then Some TooBig else None) (if can then Ok (services_made (bytes_written s bytes)) else Err Again)))
    by true can = append-nil s.there
    by false true = write-goes s bytes
    by false false = append-nil s.there
call-goes (Read len) s = by (can_read s len)
  where
    by : (can : Bool) → Goes s.there (of_read s (if can then Ok (with_bytes (bytes_given s len) (services_made (bytes_read s len))) else Err Again))
    by true = read-goes s len
    by false = append-nil s.there
call-goes (BeginWrite thread bytes) s = by (nat_lt s.size (length bytes)) (can_write s bytes)
  where
    by : (big can : Bool) → Goes s.there (of_begin_write s bytes (unless (if big then Some TooBig else None) (Ok (if can then at_once (services_made (bytes_written s bytes)) else (None, with_writer s thread bytes)))))
    by true can = append-nil s.there
    by false true = write-goes s bytes
    by false false = append-nil s.there
call-goes (BeginRead thread len) s = by (can_read s len)
  where
    by : (can : Bool) → Goes s.there (of_begin_read s (if can then at_once (with_bytes (bytes_given s len) (services_made (bytes_read s len))) else (None, with_reader s thread len)))
    by true = read-goes s len
    by false = append-nil s.there
call-goes (Drop thread) s = served-flows (waiting (without s thread)) (without s thread)

pub run-goes : (calls : List Call) (s : Stream) → Goes s.there (run calls s)
run-goes [] s = append-nil s.there
run-goes (call ∷ calls) s =
    let first = flow call s in let rest = run calls first.after in
    sym (append_assoc s.there first.accepted rest.accepted) ∙ ap (λ xs. xs ++ rest.accepted) (call-goes call s) ∙ append_assoc first.taken first.after.there rest.accepted
    ∙ ap (λ xs. first.taken ++ xs) (run-goes calls first.after) ∙ sym (append_assoc first.taken rest.taken rest.after.there)

pub reads_follow : ReadsFollowWrites
reads_follow size calls = run-goes calls (empty size)
