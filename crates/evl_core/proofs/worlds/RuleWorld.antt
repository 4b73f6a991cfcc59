-- The rule of the running table says what holds of the one world, no less and no more.
use Rattle.std.proofs.Common.{◌≡◌, ⊎_elim, Some, ℕ, zero, suc, ◌+◌, ◌<◌, Bool, List, [], ◌∷◌, map, get_or, Option, refl, sym, ap, subst, arith}
use mathlib.Core.Option.{some, none}
use Rattle.atomic_table.specs.Table.{State}
use Rattle.evl_kernel.specs.histories.Histories.{History}
use Rattle.evl_words.specs.Hands.{Deals, Hand}
use Rattle.evl_words.specs.Mutex.{MutexEntry}
use Rattle.evl_words.specs.MutexWorld.{MutexView, IsMutexWorld}
use Rattle.evl_core.specs.declared.views.ThreadView.{ThreadView}
use Rattle.evl_core.specs.rule.CoreRule.{CoreKept, CoreStands, IsFree, IsTaken}
use Rattle.evl_core.specs.worlds.CoreWorld.{Slot}
use Rattle.evl_core.specs.worlds.OneWorld.{IsOneWorld, LiesSo, OneDealing, OneWorld, StandsInOne}
use Rattle.evl_core.specs.rule.ThreadRule.{MachineRule, ThreadRule, core_of, mutex_of}
use Rattle.evl_core.specs.rule.Ties.{mutex_tie}

-- the first of these, and then each further one
first_then : {A : Type 0} → A → (ℕ → A) → ℕ → A
first_then a f zero = a
first_then a f (suc i) = f i

first_each : {A : Type 0} (m : ℕ) (P : ℕ → A → Type 0) (a : A) (f : ℕ → A) → P 0 a → ((i : ℕ) → i < m → P (suc i) (f i)) → (i : ℕ) → i < suc m → P i (first_then a f i)
unfolding first_then
first_each m P a f p rest zero lt = p
first_each m P a f p rest (suc i) lt = rest i (omega (arith, lt))

-- what there is for each number below m, as one function
chosen : {A : Type 0} (m : ℕ) (P : ℕ → A → Type 0) (blank : A) → ((i : ℕ) → i < m → (a : A) × P i a) → (f : ℕ → A) × ((i : ℕ) → i < m → P i (f i))
chosen zero P blank all = (λ _. blank, λ i lt. absurd (omega (arith, lt)))
chosen (suc m) P blank all =
    let one = all 0 (omega arith) in
    let rest = chosen m (λ i. P (suc i)) blank (λ i lt. all (suc i) (omega (arith, lt))) in
    (first_then one.0 rest.0, first_each m P one.0 rest.0 one.1 rest.1)

-- a mutex's word comes after the core's
pub further : (word : ℕ) (words : List ℕ) (i : ℕ) → get_or (word ∷ words) (1 + i) 0 ≡ get_or words i 0
further word words i = ap (λ n. get_or (word ∷ words) n 0) (let more : 1 + i ≡ suc i = omega arith in more)

module _ {S B : Type 0} (past : S → History) (room : S → ℕ) (comes : B → S → Type 0) (first : B) (ceilings : ℕ → Bool) (m : ℕ) where
  abbrev pub Rule : List ℕ → List (Slot S) → List (ThreadView B MutexView) → Type 0
  Rule = ThreadRule past comes (mutex_tie past ceilings) first m

  -- the mutex of this number has this log
  abbrev HasLog : List ℕ → List (ThreadView B MutexView) → ℕ → List MutexEntry → Type 0
  HasLog xs views i log = IsMutexWorld (record { word = get_or xs i 0; log = log; views = map (mutex_of i) views })

  -- the lock has one slot
  only : (word : ℕ) (homes : List (Slot S)) (views : List (ThreadView B MutexView)) → CoreKept past comes first word homes (map core_of views) → (slot : Slot S) × (homes ≡ slot ∷ [])
  only word homes views kept = ⊎_elim
      (λ (f : IsFree past comes first kept.history word homes (map core_of views)). (some (Some f.kernel), f.slot_is))
      (λ (t : IsTaken kept.history word homes (map core_of views)). (none, t.slot_is))
      kept.who

  -- what the rule keeps of a table is a world that holds
  pub record WorldOf (words : List ℕ) (homes : List (Slot S)) (views : List (ThreadView B MutexView)) : Type 0 where
    pub world : OneWorld S B
    pub words_are : words ≡ world.word ∷ world.mutexes
    pub slot_is : homes ≡ world.slot ∷ []
    pub views_are : world.views ≡ views
    pub stands : IsOneWorld past room comes ceilings m first world

  pub world_of : (words : List ℕ) (homes : List (Slot S)) (views : List (ThreadView B MutexView)) → Rule words homes views → WorldOf words homes views
  world_of [] homes views t = absurd (let long = t.long in omega arith)
  world_of (x ∷ xs) homes views t =
      let long = t.long in
      let slot = only x homes views t.locked.1 in
      let word_at : (i word : ℕ) → Type 0 = λ i word. (log : List MutexEntry) × IsMutexWorld (record { word = word; log = log; views = map (mutex_of i) views }) in
      let logs = chosen m (HasLog xs views) [] (λ i lt. subst (word_at i) (further x xs i) (t.parts i (omega (arith, lt, long)))) in
      record {
        world = record { word = x; slot = slot.0; log = t.locked.0; mutexes = xs; logs = logs.0; views = views };
        words_are = refl;
        slot_is = slot.1;
        views_are = refl;
        stands = record {
          count = omega (arith, long);
          locked = subst (λ hs. CoreStands past comes first t.locked.0 x hs (map core_of views)) slot.1 (t.locked.1, t.locked.2);
          parts = logs.1;
          ties = λ i lt. subst (λ (z : List (Slot S) × ℕ). mutex_tie past ceilings i x z.0 (map core_of views) z.1) (λ j. (slot.1 j, further x xs i j)) (t.ties i (omega (arith, lt, long)));
        };
      }

  lies : (words : List ℕ) (homes : List (Slot S)) (hands : List (Hand (ThreadView B MutexView))) (views : List (ThreadView B MutexView)) → Deals views hands → Rule words homes views
      → (d : OneDealing S B) × LiesSo (record { words = words; homes = homes; views = hands }) d × StandsInOne past room comes ceilings m first d
  lies words homes hands views deals t =
      let o = world_of words homes views t in (
        record { world = o.world; hands = hands },
        record { words = o.words_are; slot = o.slot_is; hands = refl },
        (o.stands, subst (λ vs. Deals vs hands) (sym o.views_are) deals),
      )

  pub rule_to_world : (s : State (Option S) (Hand (ThreadView B MutexView))) → MachineRule past comes (mutex_tie past ceilings) first m s → (d : OneDealing S B) × LiesSo s d × StandsInOne past room comes ceilings m first d
  rule_to_world s kept = lies s.words s.homes s.views kept.views kept.deals kept.kept

  pub ruled : (w : OneWorld S B) → IsOneWorld past room comes ceilings m first w → Rule (w.word ∷ w.mutexes) (w.slot ∷ []) w.views
  ruled w stands =
      let count = stands.count in record {
        long = omega (arith, count);
        locked = (w.log, stands.locked.0, stands.locked.1);
        parts = λ i lt. (w.logs i, subst (λ n. IsMutexWorld (record { word = n; log = w.logs i; views = map (mutex_of i) w.views })) (sym (further w.word w.mutexes i)) (stands.parts i (omega (arith, lt, count))));
        ties = λ i lt. subst (mutex_tie past ceilings i w.word (w.slot ∷ []) (map core_of w.views)) (sym (further w.word w.mutexes i)) (stands.ties i (omega (arith, lt, count)));
      }

  pub world_to_rule : (s : State (Option S) (Hand (ThreadView B MutexView))) (d : OneDealing S B) → LiesSo s d → StandsInOne past room comes ceilings m first d → MachineRule past comes (mutex_tie past ceilings) first m s
  world_to_rule s d so stands = record {
    views = d.world.views;
    deals = subst (Deals d.world.views) (sym so.hands) stands.1;
    kept = subst (λ (z : List ℕ × List (Slot S)). Rule z.0 z.1 d.world.views) (λ j. (sym so.words j, sym so.slot j)) (ruled d.world stands.0);
  }
