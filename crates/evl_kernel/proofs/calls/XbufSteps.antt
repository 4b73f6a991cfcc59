-- The meaning of a change of one cross-buffer for the queues of all elements.
use Rattle.std.proofs.Common.{◌≡◌, ℕ, ◌==◌, ◌⊎◌, inl, inr, Bool, true, false, List, Some, slice_get, slice_set, refl, sym, ap, ◌∙◌}
use Rattle.std.proofs.lemmas.Bool.{eqb-true}
use Rattle.evl_base.specs.declared.reply.Reply.{Reply}
use Rattle.evl_base.specs.declared.way.Way.{Way}
use Rattle.evl_base.specs.declared.way.Way.TheVariants.{In}
use Rattle.evl_xbuf.specs.Xbufs.{IsSoundXbuf, Xbuf}
use Rattle.evl_kernel.specs.declared.waits.Awaited.{Awaited}
use Rattle.evl_kernel.specs.declared.waits.Awaited.TheVariants.{Sem, Flags, Writing, Reading, Mutex}
use Rattle.evl_kernel.specs.state.States.{Elements}
use Rattle.evl_kernel.specs.waiting.Standing.{AreSound, in_readers, in_writers, stands_for}
use Rattle.evl_kernel.proofs.calls.QueueSteps.{Comes, Drops, Gone, LetsGo, all_at, at_it, at_other, old_at, same_at, was_at_it}
use Rattle.evl_kernel.proofs.calls.XbufQueues as queues
use Rattle.evl_kernel.proofs.calls.XbufQueues.{Queue, reading, writing, in_queue}

-- who waits in this queue of the n-th waits for this
abbrev pub of_xbuf : ℕ → Queue → Awaited
of_xbuf n (reading way) = Reading (record { 0 = n }) way
of_xbuf n (writing way) = Writing (record { 0 = n }) way

module _ (e : Elements) (n : ℕ) (x y : Xbuf) (here : slice_get e.xbufs n ≡ Some x) where
  abbrev pub xbuf_set : Elements
  xbuf_set = record e { xbufs = slice_set e.xbufs n y }

  pub xbufs_sound : AreSound e → IsSoundXbuf y → AreSound xbuf_set
  xbufs_sound h sound = record { sems = h.sems; flags = h.flags; xbufs = all_at (in_readers In) e.xbufs n x y here IsSoundXbuf h.xbufs sound; mutexes = h.mutexes }

  pub was_there : (q : Queue) (t : ℕ) → stands_for e (of_xbuf n q) t ≡ in_queue q x t
  was_there (reading way) t = was_at_it (in_readers way) e.xbufs n x y here t
  was_there (writing way) t = was_at_it (in_writers way) e.xbufs n x y here t

  is_there : (q : Queue) (t : ℕ) → stands_for xbuf_set (of_xbuf n q) t ≡ in_queue q y t
  is_there (reading way) t = at_it (in_readers way) e.xbufs n x y here t
  is_there (writing way) t = at_it (in_writers way) e.xbufs n x y here t

  same_all : (t : ℕ) → ((q : Queue) → in_queue q y t ≡ in_queue q x t) → (on : Awaited) → stands_for xbuf_set on t ≡ stands_for e on t
  same_all t same (Sem id) = refl
  same_all t same (Flags id) = refl
  same_all t same (Mutex id) = refl
  same_all t same (Writing id way) = same_at (in_writers way) e.xbufs n x y here id.0 t (same (writing way))
  same_all t same (Reading id way) = same_at (in_readers way) e.xbufs n x y here id.0 t (same (reading way))

  old_all : (t : ℕ) → ((q : Queue) → in_queue q y t ≡ true → in_queue q x t ≡ true) → (on : Awaited) → stands_for xbuf_set on t ≡ true → stands_for e on t ≡ true
  old_all t old (Sem id) = λ is. is
  old_all t old (Flags id) = λ is. is
  old_all t old (Mutex id) = λ is. is
  old_all t old (Writing id way) = old_at (in_writers way) e.xbufs n x y here id.0 t (old (writing way))
  old_all t old (Reading id way) = old_at (in_readers way) e.xbufs n x y here id.0 t (old (reading way))

  gone_so : (t : ℕ) → queues.Gone x t y → Gone e t xbuf_set
  gone_so t one = record { on = of_xbuf n one.queue; stood = was_there one.queue t ∙ one.stood; gone = is_there one.queue t ∙ one.gone }

  pub xbuf_goes : (served : List (ℕ × Reply)) → queues.Left x y served → LetsGo e served xbuf_set
  xbuf_goes served left = record {
    left = λ t is. gone_so t (left.left t is);
    same = λ on t is. same_all t (λ q. left.same q t is) on;
    old = λ on t. old_all t (λ q. left.old q t) on;
  }

  pub xbuf_comes : (queue : Queue) (thread : ℕ) → queues.Came x y queue thread → Comes e (of_xbuf n queue) thread xbuf_set
  xbuf_comes queue thread came = record { there = is_there queue thread ∙ came.there; alone = alone; same = λ other t ne. same_all t (λ q. came.same q t ne) other }
    where
      either : (q : Queue) (m : ℕ) → n ≡ m → (queue ≡ q) ⊎ (in_queue q x thread ≡ true) → stands_for e (of_xbuf n q) thread ≡ in_queue q x thread
          → (of_xbuf n queue ≡ of_xbuf m q) ⊎ (stands_for e (of_xbuf m q) thread ≡ true)
      either q m at (inl same) was = inl (λ i. of_xbuf (at i) (same i))
      either q m at (inr stood) was = inr (ap (λ (k : ℕ). stands_for e (of_xbuf k q) thread) (sym at) ∙ (was ∙ stood))

      at_queue : (q : Queue) (m : ℕ) → stands_for xbuf_set (of_xbuf m q) thread ≡ true → ((n == m) ≡ false → stands_for xbuf_set (of_xbuf m q) thread ≡ stands_for e (of_xbuf m q) thread)
          → (of_xbuf n queue ≡ of_xbuf m q) ⊎ (stands_for e (of_xbuf m q) thread ≡ true)
      at_queue q m is elsewhere = by (n == m) refl
        where
          by : (b : Bool) → (n == m) ≡ b → (of_xbuf n queue ≡ of_xbuf m q) ⊎ (stands_for e (of_xbuf m q) thread ≡ true)
          by true at =
              let number = eqb-true n m at in
              either q m number (came.alone q (sym (is_there q thread) ∙ (ap (λ (k : ℕ). stands_for xbuf_set (of_xbuf k q) thread) number ∙ is))) (was_there q thread)
          by false ne = inr (sym (elsewhere ne) ∙ is)

      alone : (other : Awaited) → stands_for xbuf_set other thread ≡ true → (of_xbuf n queue ≡ other) ⊎ (stands_for e other thread ≡ true)
      alone (Sem id) is = inr is
      alone (Flags id) is = inr is
      alone (Mutex id) is = inr is
      alone (Writing id way) is = at_queue (writing way) id.0 is (λ ne. at_other (in_writers way) e.xbufs n x y here id.0 thread ne)
      alone (Reading id way) is = at_queue (reading way) id.0 is (λ ne. at_other (in_readers way) e.xbufs n x y here id.0 thread ne)

  module _ (way : Way) (thread : ℕ) (served : List (ℕ × Reply)) (dropped : queues.Dropped x y way thread served) where
    drops_so : (on : Awaited) → stands_for xbuf_set on thread ≡ false → Drops e on thread served xbuf_set
    drops_so on gone = record {
      gone = gone;
      left = λ t is. gone_so t (dropped.left t is);
      same = λ other t ne is. same_all t (λ q. dropped.same q t ne is) other;
      old = λ other t. old_all t (λ q. dropped.old q t) other;
    }

    pub writer_drops : Drops e (of_xbuf n (writing way)) thread served xbuf_set
    writer_drops = drops_so (of_xbuf n (writing way)) (is_there (writing way) thread ∙ dropped.no_writer)

    pub reader_drops : Drops e (of_xbuf n (reading way)) thread served xbuf_set
    reader_drops = drops_so (of_xbuf n (reading way)) (is_there (reading way) thread ∙ dropped.no_reader)
