-- The one that is served was first.
use Rattle.std.proofs.Common.{◌≡◌, ℕ, zero, suc, Bool, true, false, List, [], ◌∷◌, map, Option, Some, None, if◌then◌else◌, refl, ap, ◌∙◌}
use Rattle.std.specs.Option.{option_or}
use Rattle.evl_xbuf.specs.declared.waiters.Reader.{Reader}
use Rattle.evl_xbuf.specs.declared.waiters.Writer.{Writer}
use Rattle.evl_xbuf.specs.Streams.{Stream, Service, Wrote, Got, can_read, fits, bytes_given, next_service, bytes_read, reader_served, served_from, waiting, writer_served, bytes_written}
use Rattle.evl_xbuf.specs.Arrivals.{GoesByArrival, ServicesGoByArrival}
use Rattle.evl_xbuf.proofs.ServingLaws.{at_rest, goes_on}

-- one service, and then the others
abbrev Goes : Stream → Option (Service × Stream) → Type 0
Goes s None = Unit {0}
Goes s (Some (one, mid)) = (rest : List Service) (end : Stream) → GoesByArrival mid rest end → GoesByArrival s (one ∷ rest) end

reader-goes : (s : Stream) (rs : List Reader) (o : Option (Service × Stream)) → s.readers ≡ rs → Goes s o → Goes s (option_or (reader_served rs s) o)
reader-goes s [] o e h = h
reader-goes s (r ∷ rs) o e h = by (can_read s r.len)
  where
    by : (b : Bool) → Goes s (option_or {T = Service × Stream} (if b then Some (Got r.thread (bytes_given s r.len), record (bytes_read s r.len) { readers = rs }) else None) o)
    by true = λ rest end i. record { readers = ap (map (λ r. r.thread)) e ∙ ap (λ xs. r.thread ∷ xs) i.readers; writers = i.writers }
    by false = h

writer-goes : (s : Stream) (ws : List Writer) → s.writers ≡ ws → Goes s (writer_served ws s)
writer-goes s [] e = tt
writer-goes s (w ∷ ws) e = by (fits s w.bytes.items)
  where
    by : (b : Bool) → Goes s (if b then Some (Wrote w.thread, record (bytes_written s w.bytes.items) { writers = ws }) else None)
    by true = λ rest end i. record { readers = i.readers; writers = ap (map (λ w. w.thread)) e ∙ ap (λ xs. w.thread ∷ xs) i.writers }
    by false = tt

next-goes : (s : Stream) → Goes s (next_service s)
next-goes s = reader-goes s s.readers (writer_served s.writers s) refl (writer-goes s s.writers refl)

none-goes : (s : Stream) → GoesByArrival s [] s
none-goes s = record { readers = refl; writers = refl }

served-goes : (n : ℕ) (s : Stream) → GoesByArrival s (served_from n s).0 (served_from n s).1
served-goes zero s = none-goes s
served-goes (suc n) s = by (next_service s) refl (served-goes n)
  where
    by : (o : Option (Service × Stream)) → next_service s ≡ o → ((t : Stream) → GoesByArrival t (served_from n t).0 (served_from n t).1)
        → GoesByArrival s (served_from (suc n) s).0 (served_from (suc n) s).1
    by None e more = rw (at_rest s e (suc n)) (none-goes s)
    by (Some (one, mid)) e more = rw (goes_on s mid one n e) (let g : Goes s (Some (one, mid)) = rw e at (next-goes s) in g (served_from n mid).0 (served_from n mid).1 (more mid))

pub by_arrival : ServicesGoByArrival
by_arrival s = served-goes (waiting s) s
