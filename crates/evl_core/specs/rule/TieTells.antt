-- All that the steps on the one table say of the ties.
use Rattle.std.specs.Prelude.{◌≡◌, ℕ, ◌-◌, ◌<◌, Bool, true, Option, Some, None, [], ◌∷◌}
use Rattle.atomic_table.specs.Table.{Step}
use Rattle.evl_mutex.specs.Mutexes.{Mutex, is_open_to}
use Rattle.evl_kernel.specs.histories.Histories.{History}
use Rattle.evl_kernel.specs.calls.MutexEffects.{record_at}
use Rattle.evl_words.specs.Parts.{Tells}
use Rattle.evl_words.specs.MutexWorld.{MutexKind, MutexView, owns}
use Rattle.evl_core.specs.declared.views.CorePart.{CorePart}
use Rattle.evl_core.specs.declared.views.ThreadView.{ThreadView}
use Rattle.evl_core.specs.rule.CoreRule.{noting}
use Rattle.evl_core.specs.rule.ThreadRule.{core_of, put_core, mutex_of, put_mutex, on_core}
use Rattle.evl_core.specs.rule.Ties.{StandsNoted}
use Rattle.evl_core.specs.worlds.CoreWorld.{gives, takes}
use Rattle.evl_core.specs.worlds.OneWorld.{IsOneEvent, OneKind, on_lock, on_word}

-- the thread that has the kernel, and has made no step on a word since: of each mutex that it owns no other owner is recorded
abbrev pub OwnsAsRecorded : {B : Type 0} → (B → ℕ) → ℕ → ThreadView B MutexView → Type 0
OwnsAsRecorded count k v = (h : History) → (core_of v).taken ≡ Some h → (core_of v).note ≡ None → (i : ℕ) → i < count (core_of v).first → owns (mutex_of i v).held.role ≡ true → (m : Mutex) → record_at h.state i ≡ Some m → is_open_to k m ≡ true

module _ {S B : Type 0} (past : S → History) (room : S → ℕ) (comes : B → S → Type 0) (ceilings : B → ℕ → Bool) (count : B → ℕ) where
  -- the step took what the thread knows from v to u, as an event of the world that its table is
  abbrev pub EventOf : ℕ → ThreadView B MutexView → OneKind S → ℕ → ThreadView B MutexView → Type 0
  EventOf k v kind found u = IsOneEvent past room comes ceilings count (core_of v).first k v kind found u

  -- a take says that of who makes it
  abbrev pub with_owned : Tells (Option S) (CorePart B) → Tells (Option S) (ThreadView B MutexView)
  with_owned tells st k m found n = on_core tells st k m found n × OwnsAsRecorded count k n.0 × EventOf k m.0 (on_lock takes) found n.0

  -- a give, which found some word
  abbrev pub with_given : Tells (Option S) (CorePart B) → Tells (Option S) (ThreadView B MutexView)
  with_given tells st k m found n =
      tells st k (core_of m.0, m.1) found (core_of n.0, n.1)
      × (n.0 ≡ put_core m.0 (core_of n.0))
      × ((y : S) → m.1 ≡ (0, Some y) ∷ [] → (other : ℕ) × EventOf k m.0 (on_lock (gives y)) other n.0)

  -- a step on a mutex's word by anybody
  abbrev pub on_mutex : MutexKind → Tells (Option S) MutexView → Tells (Option S) (ThreadView B MutexView)
  on_mutex kind tells st k m found n =
      let i = st.word - 1 in
      tells st k (mutex_of i m.0, m.1) found (mutex_of i n.0, n.1)
      × (n.0 ≡ put_mutex i m.0 (mutex_of i n.0))
      × EventOf k m.0 (on_word i kind) found n.0

  -- A step on a mutex's word by the thread that has the kernel notes what it left there, which is f of the step and of what it found, and says what stood of the mutex
  abbrev pub on_noted : MutexKind → (Step (Option S) → ℕ → ℕ) → Tells (Option S) MutexView → Tells (Option S) (ThreadView B MutexView)
  on_noted kind f tells st k m found n =
      let i = st.word - 1 in
      tells st k (mutex_of i m.0, m.1) found (mutex_of i n.0, n.1)
      × ((h : History) → (core_of m.0).taken ≡ Some h → StandsNoted (ceilings (core_of m.0).first) h.state i (core_of m.0).note found)
      × (n.0 ≡ put_core (put_mutex i m.0 (mutex_of i n.0)) (noting i (f st found) (core_of m.0)))
      × EventOf k m.0 (on_word i kind) found n.0
