-- The queue of a mutex as each step leaves it, and that the recorded owners stay sound.
use Rattle.std.proofs.Common.{◌≡◌, ◌≢◌, ◌<◌, ℕ, suc, ◌==◌, Bool, true, false, not, ◌&&◌, ◌||◌, List, [], ◌∷◌, length, Some, is_some, Ok, Err, slice_get, if◌then◌else◌, refl, sym, ap, ◌∙◌, subst}
use Rattle.std.specs.List.{list_any}
use Rattle.std.proofs.lemmas.Bool.{false≢true, eq-eqb, eqb-true}
use Rattle.evl_base.proofs.Plain.{eqb-swap_false}
use Rattle.evl_base.specs.declared.refusal.Refusal.TheVariants.{Busy, Invalid, NotOwner}
use Rattle.evl_base.specs.declared.reply.Reply.{Reply}
use Rattle.evl_base.specs.declared.reply.Reply.TheVariants.{Done}
use Rattle.evl_mutex.specs.declared.waiter.Waiter.{Waiter}
use Rattle.evl_mutex.specs.Queues.{AreApart, is_nobody, stands_in}
use Rattle.evl_mutex.specs.Mutexes as recorded
use Rattle.evl_mutex.specs.Mutexes.{Mutex, IsSoundMutex, has_ceiling, is_open_to, is_waited_for_by}
use Rattle.evl_mutex.specs.Chains.{reaches, waits_for}
use Rattle.evl_mutex.specs.Owners.{Owners, IsSound, changed_at, with_mutex}
use Rattle.evl_mutex.proofs.ChainLaws.{reaches-complete}
use Rattle.evl_mutex.proofs.CallLaws.{low_wait}
use Rattle.evl_mutex.proofs.QueueLaws.{stands-dropped, stands-enqueued}
use Rattle.evl_mutex.proofs.SoundLaws.{all-at, sound-claimed, sound-idle, sound-left, sound-released}
use Rattle.evl_kernel.specs.calls.Effects.{Answered, done}
use Rattle.evl_kernel.specs.waiting.Beginnings.{waits_back}
use Rattle.evl_base.specs.Limits.{thread_limit}
use Rattle.evl_kernel.specs.calls.Mutexes as step
use Rattle.evl_kernel.specs.calls.Mutexes.{handed_told, mutex as machine, mutex_wakes}
use Rattle.evl_kernel.specs.calls.Semaphores.{one_served}
use Rattle.evl_kernel.specs.waiting.Standing.{in_mutex, stands_at}
use Rattle.evl_kernel.proofs.calls.ElementSteps.{err_ok, ok_is}
use Rattle.evl_kernel.proofs.calls.QueueSteps.{OneGoes, OneComes, OneDrops, same_queue}

-- that the owner waits for the thread is found within as many steps as there are threads
pub back_is : (ms : List Mutex) (owner thread : ℕ) → waits_back ms owner thread ≡ reaches thread_limit (waits_for ms) owner thread
unfolding waits_back
back_is ms owner thread = refl

-- a waiter comes
pub claim_comes : (m : Mutex) (w : Waiter) (owner : ℕ) → OneComes (in_mutex m) (in_mutex (recorded.claimed_mutex m w owner)) w.thread
claim_comes m w owner = record {
  there = stands-enqueued w m.waiters w.thread ∙ ap (λ (b : Bool). b || stands_in w.thread m.waiters) (eq-eqb w.thread w.thread refl);
  same = λ t ne. stands-enqueued w m.waiters t ∙ ap (λ (b : Bool). b || stands_in t m.waiters) (eqb-swap_false t w.thread ne);
}

-- and leaves
pub drop_drops : (thread : ℕ) (m : Mutex) → OneDrops (in_mutex m) (in_mutex (recorded.drop_waiter thread m)) thread
drop_drops thread m = record {
  gone = stands-dropped thread m.waiters thread ∙ ap (λ (b : Bool). not b && stands_in thread m.waiters) (eq-eqb thread thread refl);
  same = λ t ne. stands-dropped thread m.waiters t ∙ ap (λ (b : Bool). not b && stands_in t m.waiters) ne;
}

-- the first waiter goes
head_goes : (w : Waiter) (ws : List Waiter) → stands_in w.thread ws ≡ false → OneGoes (λ t. stands_in t (w ∷ ws)) (λ t. stands_in t ws) ((w.thread, Done) ∷ [])
head_goes w ws away = record { left = left; same = same }
  where
    or_false : (b : Bool) → (b || false) ≡ true → b ≡ true
    or_false true e = refl
    or_false false e = e

    no_or : (b : Bool) → (b || false) ≡ false → b ≡ false
    no_or true e = e
    no_or false e = refl

    left : (t : ℕ) → ((w.thread == t) || false) ≡ true → (((w.thread == t) || stands_in t ws) ≡ true) × (stands_in t ws ≡ false)
    left t is =
        let same = or_false (w.thread == t) is in (
          ap (λ (b : Bool). b || stands_in t ws) same,
          ap (λ (m : ℕ). stands_in m ws) (sym (eqb-true w.thread t same)) ∙ away,
        )

    same : (t : ℕ) → ((w.thread == t) || false) ≡ false → stands_in t ws ≡ ((w.thread == t) || stands_in t ws)
    same t is = sym (ap (λ (b : Bool). b || stands_in t ws) (no_or (w.thread == t) is))

handed_goes : (m : Mutex) → AreApart m.waiters → OneGoes (in_mutex m) (in_mutex (recorded.released_mutex m).after) (one_served (recorded.released_mutex m).next)
handed_goes m apart = by m.waiters refl
  where
    by : (ws : List Waiter) → m.waiters ≡ ws → OneGoes (in_mutex m) (in_mutex (recorded.handed_to m ws).after) (one_served (recorded.handed_to m ws).next)
    by [] are = same_queue in_mutex m (recorded.handed_to m []).after (λ t. sym (ap (stands_in t) are))
    by (w ∷ ws) are =
        subst (λ (xs : List Waiter). OneGoes (λ t. stands_in t xs) (λ t. stands_in t ws) ((w.thread, Done) ∷ [])) (sym are)
        (head_goes w ws (let P : List Waiter → Type 0 = AreApart in subst P are apart).0)

module _ (o : Owners) (n : ℕ) (m : Mutex) (at : slice_get o.mutexes n ≡ Some m) (is : IsSound o) where
  here : IsSoundMutex m
  here = all-at IsSoundMutex o.mutexes n m at is.each

  -- what is left of it: the owners are sound, and these were let go
  pub record Left (p : Mutex) (served : List (ℕ × Reply)) : Type 0 where
    pub sound : IsSound (with_mutex o n p)
    pub goes : OneGoes (in_mutex m) (in_mutex p) served

  pub release_left : (thread : ℕ) (p : Mutex) (reply : Reply) → machine m (step.release thread) ≡ Ok (reply, p) → Left p (mutex_wakes m (step.release thread))
  release_left thread p reply = by (is_open_to thread m)
    where
      by : (b : Bool) → if◌then◌else◌ {A = Answered Mutex} b (Ok (handed_told (recorded.released_mutex m), (recorded.released_mutex m).after)) (Err NotOwner) ≡ Ok (reply, p) → Left p (one_served (recorded.released_mutex m).next)
      by true made =
          subst (λ (x : Mutex). Left x (one_served (recorded.released_mutex m).next)) (ap (λ (x : Reply × Mutex). x.1) (ok_is made))
          (record { sound = sound-released o n m at is; goes = handed_goes m here.apart })
      by false made = absurd (err_ok made)

  pub raise_left : (thread : ℕ) (p : Mutex) (reply : Reply) → machine m (step.raise thread) ≡ Ok (reply, p) → Left p []
  raise_left thread p reply = by (has_ceiling m) (is_some m.owner) refl refl
    where
      idle : is_some m.owner ≡ false → (b : Bool) → is_nobody m.waiters ≡ b → b ≡ true
      idle free true f = refl
      idle free false f = absurd (false≢true (sym free ∙ here.owned f))

      by : (b c : Bool) → has_ceiling m ≡ b → is_some m.owner ≡ c → if◌then◌else◌ {A = Answered Mutex} b (if◌then◌else◌ {A = Answered Mutex} c (Err Busy) (done (recorded.raised_mutex m thread))) (Err Invalid) ≡ Ok (reply, p) → Left p []
      by true true ceiling free made = absurd (err_ok made)
      by true false ceiling free made =
          subst (λ (x : Mutex). Left x []) (ap (λ (x : Reply × Mutex). x.1) (ok_is made))
          (record { sound = sound-idle o n m at is (Some thread) (idle free (is_nobody m.waiters) refl) (λ some. ceiling); goes = same_queue in_mutex m (recorded.raised_mutex m thread) (λ t. refl) })
      by false c ceiling free made = absurd (err_ok made)

  -- a thread that is in no queue begins to wait, where that closes no ring
  pub claim_sound : (w : Waiter) (owner : ℕ) → ((k : ℕ) → stands_at in_mutex o.mutexes k w.thread ≡ false) → is_open_to owner m ≡ true → w.thread < length o.base → owner ≢ w.thread
      → reaches (length o.base) (waits_for o.mutexes) owner w.thread ≡ false → IsSound (with_mutex o n (recorded.claimed_mutex m w owner))
  claim_sound w owner away free below differs none =
      sound-claimed o n m at is w owner (waits_nowhere w.thread o.mutexes away) free below differs
      (λ h. false≢true (sym none ∙ reaches-complete (waits_for o.mutexes) is.no_ring (length o.base) (low_wait o is) owner w.thread h))
    where
      waits_nowhere : (thread : ℕ) (ms : List Mutex) → ((k : ℕ) → stands_at in_mutex ms k thread ≡ false) → list_any (is_waited_for_by thread) ms ≡ false
      waits_nowhere thread [] away = refl
      waits_nowhere thread (x ∷ xs) away = rw (away 0) (waits_nowhere thread xs (λ k. away (suc k)))

  pub drop_sound : (thread : ℕ) → IsSound (with_mutex o n (recorded.drop_waiter thread m))
  drop_sound thread = subst IsSound (ap (changed_at o n (recorded.drop_waiter thread)) at) (sound-left o n thread is)
