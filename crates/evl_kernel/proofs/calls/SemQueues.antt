-- The queue of a semaphore as each step leaves it, and that it stays sound.
use Rattle.std.proofs.Common.{◌≡◌, ◌<◌, ◌+◌, ◌-◌, ℕ, ◌==◌, nat_lt, Bool, true, false, ◌||◌, List, [], ◌∷◌, Option, Some, None, Ok, Err, if◌then◌else◌, refl, sym, ap, ◌∙◌, subst, arith}
use Rattle.std.proofs.lemmas.Bool.{false≢true, eqb-true}
use Rattle.std.proofs.lemmas.Bool.Decides.{nat_tests}
use Rattle.evl_base.specs.Limits.{thread_limit}
use Rattle.evl_base.specs.declared.refusal.Refusal.TheVariants.{Again, Range}
use Rattle.evl_base.specs.declared.reply.Reply.{Reply}
use Rattle.evl_base.specs.declared.reply.Reply.TheVariants.{Done}
use Rattle.evl_sync.specs.declared.waiter.Waiter.{Waiter}
use Rattle.evl_sync.specs.Queues.{IsKept, dropped_by, enqueued_by, is_nobody, stands_in}
use Rattle.evl_sync.specs.Semaphores as sem
use Rattle.evl_sync.specs.Semaphores.{Semaphore, IsSoundSemaphore}
use Rattle.evl_sync.proofs.QueueLaws.{kept-dropped, kept-enqueued, kept-rest}
use Rattle.evl_kernel.specs.calls.Effects.{reply_by}
use Rattle.evl_kernel.specs.calls.Semaphores as semaphore
use Rattle.evl_kernel.specs.calls.Semaphores.{sem_wakes, sem_serves, semaphore as machine}
use Rattle.evl_kernel.specs.waiting.Standing.{in_sem}
use Rattle.evl_kernel.proofs.calls.ElementSteps.{err_ok, ok_is}
use Rattle.evl_kernel.proofs.calls.QueueSteps.{OneGoes, OneComes, OneDrops, dropped_drops, enqueued_comes, same_queue}

-- a semaphore after a step: sound, and these were let go
pub record Left (q p : Semaphore) (served : List (ℕ × Reply)) : Type 0 where
  pub sound : IsSoundSemaphore p
  pub goes : OneGoes (in_sem q) (in_sem p) served

less_count : (q : Semaphore) → IsSoundSemaphore q → Left q (record q { count = q.count - 1 }) []
less_count q h = record {
  sound = record { count = record { rests = λ some. omega (arith, h.count.rests some); few = omega (arith, h.count.few) }; queue = h.queue };
  goes = same_queue in_sem q (record q { count = q.count - 1 }) (λ t. refl);
}

pub get_left : (q p : Semaphore) (reply : Reply) → IsSoundSemaphore q → machine q semaphore.get ≡ Ok (reply, p) → Left q p []
get_left q p reply h = by (q.count == 0)
  where
    by : (b : Bool) → reply_by (λ (u : Unit {0}). Done) (if b then Err Again else Ok (tt, record q { count = q.count - 1 })) ≡ Ok (reply, p) → Left q p []
    by true is = absurd (err_ok is)
    by false is = subst (λ (x : Semaphore). Left q x []) (ap (λ (x : Reply × Semaphore). x.1) (ok_is is)) (less_count q h)

-- the head waiter goes
head_goes : (w : Waiter) (ws : List Waiter) → IsKept (λ (x : Waiter). x.thread) (λ x. x.rank) (w ∷ ws)
    → OneGoes (λ t. stands_in (λ (x : Waiter). x.thread) t (w ∷ ws)) (λ t. stands_in (λ (x : Waiter). x.thread) t ws) ((w.thread, Done) ∷ [])
head_goes w ws kept = record { left = left; same = same }
  where
    or_false : (b : Bool) → (b || false) ≡ true → b ≡ true
    or_false true e = refl
    or_false false e = e

    no_or : (b : Bool) → (b || false) ≡ false → b ≡ false
    no_or true e = e
    no_or false e = refl

    left : (t : ℕ) → ((w.thread == t) || false) ≡ true → (((w.thread == t) || stands_in (λ (x : Waiter). x.thread) t ws) ≡ true) × (stands_in (λ (x : Waiter). x.thread) t ws ≡ false)
    left t is =
        let same = or_false (w.thread == t) is in (
          ap (λ (b : Bool). b || stands_in (λ (x : Waiter). x.thread) t ws) same,
          ap (λ (m : ℕ). stands_in (λ (x : Waiter). x.thread) m ws) (sym (eqb-true w.thread t same)) ∙ kept.ranked.1,
        )

    same : (t : ℕ) → ((w.thread == t) || false) ≡ false → stands_in (λ (x : Waiter). x.thread) t ws ≡ ((w.thread == t) || stands_in (λ (x : Waiter). x.thread) t ws)
    same t is = sym (ap (λ (b : Bool). b || stands_in (λ (x : Waiter). x.thread) t ws) (no_or (w.thread == t) is))

pub put_left : (q p : Semaphore) (reply : Reply) → IsSoundSemaphore q → machine q semaphore.put ≡ Ok (reply, p) → Left q p (sem_wakes q semaphore.put)
put_left q p reply h = by q.waiters refl
  where
    below : (a b : ℕ) → nat_lt a b ≡ true → a < b
    below a b e = grind (arith, nat_tests)

    raised : q.waiters ≡ [] → (b : Bool) → nat_lt q.count 2147483647 ≡ b
        → reply_by (λ (u : Option ℕ). Done) (if b then Ok (None, record q { count = q.count + 1 }) else Err Range) ≡ Ok (reply, p) → Left q p []
    raised none true less is =
        subst (λ (x : Semaphore). Left q x []) (ap (λ (x : Reply × Semaphore). x.1) (ok_is is))
        (record {
          sound = record {
            count = record { rests = λ some. absurd (false≢true (sym some ∙ ap is_nobody none)); few = omega (arith, below q.count 2147483647 less) };
            queue = h.queue;
          };
          goes = same_queue in_sem q (record q { count = q.count + 1 }) (λ t. refl);
        })
    raised none false less is = absurd (err_ok is)

    by : (ws : List Waiter) → q.waiters ≡ ws → reply_by (λ (u : Option ℕ). Done) (sem.put_before q ws) ≡ Ok (reply, p) → Left q p (semaphore.head_served ws)
    by [] are is = raised are (nat_lt q.count 2147483647) refl is
    by (w ∷ ws) are is =
        let kept = subst (IsKept (λ (x : Waiter). x.thread) (λ x. x.rank)) are h.queue in
        let one = head_goes w ws kept in
        subst (λ (x : Semaphore). Left q x ((w.thread, Done) ∷ [])) (ap (λ (x : Reply × Semaphore). x.1) (ok_is is))
        (record {
          sound = record {
            count = record { rests = λ some. h.count.rests (ap is_nobody are); few = h.count.few };
            queue = kept-rest (λ (x : Waiter). x.thread) (λ x. x.rank) (w ∷ ws) kept;
          };
          goes = subst (λ (xs : List Waiter). OneGoes (λ t. stands_in (λ (x : Waiter). x.thread) t xs) (λ t. stands_in (λ (x : Waiter). x.thread) t ws) ((w.thread, Done) ∷ [])) (sym are) one;
        })

-- a wait that begins: it is served, or it goes on
pub record Begun (q p : Semaphore) (thread : ℕ) (served : Option Reply) : Type 0 where
  pub sound : IsSoundSemaphore p
  pub at_once : (outcome : Reply) → served ≡ Some outcome → OneGoes (in_sem q) (in_sem p) []
  pub waits : served ≡ None → OneComes (in_sem q) (in_sem p) thread

pub begun : (q p : Semaphore) (reply : Reply) (w : Waiter) → IsSoundSemaphore q → in_sem q w.thread ≡ false → w.thread < thread_limit → machine q (semaphore.begin w) ≡ Ok (reply, p)
    → Begun q p w.thread (sem_serves q (semaphore.begin w))
begun q p reply w h away within is =
    subst (λ (x : Semaphore). Begun q x w.thread (sem_serves q (semaphore.begin w))) (ap (λ (x : Reply × Semaphore). x.1) (ok_is is)) (by (q.count == 0) refl)
  where
    zero_is : (m : ℕ) → (m == 0) ≡ true → m ≡ 0
    zero_is m e = grind (arith, nat_tests)

    some_none : {A : Type 0} {x : A} → Some x ≡ None → ⊥
    some_none e = cc

    none_some : {A : Type 0} {x : A} → None ≡ Some x → ⊥
    none_some e = cc

    got : Bool → Bool × Semaphore
    got b = if b then (false, record q { waiters = enqueued_by (λ v. v.rank) w q.waiters }) else (true, record q { count = q.count - 1 })

    by : (b : Bool) → (q.count == 0) ≡ b → Begun q (got b).1 w.thread (if (got b).0 then Some Done else None)
    by true none = record {
      sound = record {
        count = record { rests = λ some. zero_is q.count none; few = h.count.few };
        queue = kept-enqueued (λ (v : Waiter). v.thread) (λ v. v.rank) w q.waiters away within h.queue;
      };
      at_once = λ outcome s. absurd (none_some s);
      waits = λ s. enqueued_comes (λ (v : Waiter). v.thread) (λ v. v.rank) q.waiters w (enqueued_by (λ v. v.rank) w q.waiters) refl;
    }
    by false some = record {
      sound = (less_count q h).sound;
      at_once = λ outcome s. (less_count q h).goes;
      waits = λ s. absurd (some_none s);
    }

-- a waiter leaves
pub drop_sound : (thread : ℕ) (q : Semaphore) → IsSoundSemaphore q → IsSoundSemaphore (sem.drop_waiter thread q)
drop_sound thread q h = record {
  count = record { rests = λ some. h.count.rests (nobody_left thread q.waiters some); few = h.count.few };
  queue = kept-dropped (λ (w : Waiter). w.thread) (λ w. w.rank) thread q.waiters h.queue;
}
  where
    nobody_left : (thread : ℕ) (ws : List Waiter) → is_nobody (dropped_by (λ (w : Waiter). w.thread) thread ws) ≡ false → is_nobody ws ≡ false
    nobody_left thread [] e = e
    nobody_left thread (w ∷ ws) e = refl

pub drop_drops : (thread : ℕ) (q : Semaphore) → OneDrops (in_sem q) (in_sem (sem.drop_waiter thread q)) thread
drop_drops thread q = dropped_drops (λ (w : Waiter). w.thread) thread q.waiters
