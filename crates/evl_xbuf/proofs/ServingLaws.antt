-- Serving waiters one by one.
use Rattle.std.proofs.Common.{◌≡◌, ℕ, zero, suc, ◌≤◌, inl, inr, Bool, true, false, List, [], ◌∷◌, ◌++◌, length, take, drop, Option, Some, None, if◌then◌else◌, refl, sym, subst, ap, append-nil, length-append, arith}
use Rattle.std.specs.Option.{is_some, option_or}
use Rattle.std.proofs.lemmas.List.{take-append-drop}
use Rattle.evl_base.specs.Limits.{thread_limit}
use Rattle.evl_sync.proofs.QueueLaws.{few_kept}
use Rattle.evl_xbuf.specs.declared.waiters.Reader.{Reader}
use Rattle.evl_xbuf.specs.declared.waiters.Writer.{Writer}
use Rattle.evl_xbuf.specs.Streams.{HasOneQueue, IsAtRest, IsKeptStream, Stream, Service, Got, can_read, bytes_given, next_service, preceded_by, bytes_read, reader_served, served_from, services_made, waiting, writer_served}
use Rattle.evl_xbuf.specs.Services.{read_by}
use Rattle.evl_xbuf.specs.Serving.{Fit, ServesOne, Serves}
use Rattle.evl_xbuf.proofs.ServedLaws.{read_by-append}

-- nobody can be served: so nobody is
pub at_rest : (s : Stream) → next_service s ≡ None → (n : ℕ) → served_from n s ≡ ([], s)
at_rest s e zero = refl
at_rest s e (suc n) = rw e refl

-- where nobody waits nobody is
idle-none : (s : Stream) → s.readers ≡ [] → s.writers ≡ [] → next_service s ≡ None
idle-none s readers writers =
    let P : List Reader → Type 0 = λ rs. option_or (reader_served rs s) (writer_served s.writers s) ≡ None in
    let Q : List Writer → Type 0 = λ ws. option_or None (writer_served ws s) ≡ None in
    subst P (sym readers) (subst Q (sym writers) refl)

pub idle-serves : (s : Stream) → s.readers ≡ [] → s.writers ≡ [] → ([], s) ≡ services_made s
idle-serves s readers writers = sym (at_rest s (idle-none s readers writers) (waiting s))

pub idle-rests : (s : Stream) → s.readers ≡ [] → s.writers ≡ [] → IsAtRest s
idle-rests s readers writers = record { rests = idle-none s readers writers; one_queue = inl writers }

-- one can be: it is the first of those that are
pub goes_on : (s mid : Stream) (one : Service) (n : ℕ) → next_service s ≡ Some (one, mid) → served_from (suc n) s ≡ preceded_by one (served_from n mid)
goes_on s mid one n e = rw e refl

few_waiting : (s : Stream) → IsKeptStream s → HasOneQueue s → waiting s ≤ thread_limit
few_waiting s h (inl e) = let l = few_kept (λ r. r.thread) (λ v. 0) s.readers h.readers in omega (arith, ap length e, l)
few_waiting s h (inr e) = let l = few_kept (λ w. w.thread) (λ v. 0) s.writers h.writers in omega (arith, ap length e, l)

pub serves-begin : (s : Stream) → IsKeptStream s → HasOneQueue s → Serves s [] s
serves-begin s h q = record {
  whole = refl;
  one_queue = q;
  few = omega (arith, few_waiting s h q);
  fit = inr (omega (arith, h.within, h.few));
}

-- the reader at the head is served
pub reader-serves : (mid : Stream) (r : Reader) (done : List Service) → can_read mid r.len ≡ true
    → HasOneQueue (record mid { readers = r ∷ mid.readers }) → Fit done (record mid { readers = r ∷ mid.readers })
    → ServesOne (record mid { readers = r ∷ mid.readers }) done (bytes_read mid r.len) (done ++ Got r.thread (bytes_given mid r.len) ∷ [])
reader-serves mid r done can q fit = record {
  one = Got r.thread (bytes_given mid r.len);
  is = rw can refl;
  told = refl;
  fewer = omega arith;
  one_queue = queue q;
  fit = within fit;
}
  where
    queue : HasOneQueue (record mid { readers = r ∷ mid.readers }) → HasOneQueue (bytes_read mid r.len)
    queue (inl e) = inl e
    queue (inr e) = absurd (cc)

    within : Fit done (record mid { readers = r ∷ mid.readers }) → Fit (done ++ Got r.thread (bytes_given mid r.len) ∷ []) (bytes_read mid r.len)
    within (inl e) = absurd (cc)
    within (inr l) =
        let parts = ap length (take-append-drop r.len mid.there) in
        inr (rw (read_by-append done (Got r.thread (bytes_given mid r.len) ∷ []), append-nil (take r.len mid.there)) (omega (arith, l, parts, length-append (read_by done) (take r.len mid.there), length-append (take r.len mid.there) (drop r.len mid.there))))

pub can_be_read : (s : Stream) (r : Reader) (rs : List Reader) → is_some (reader_served (r ∷ rs) s) ≡ true → can_read s r.len ≡ true
can_be_read s r rs e = by (can_read s r.len) e
  where
    by : (b : Bool) → is_some {T = Service × Stream} (if b then Some (Got r.thread (bytes_given s r.len), record (bytes_read s r.len) { readers = rs }) else None) ≡ true → b ≡ true
    by true h = refl
    by false h = cc
