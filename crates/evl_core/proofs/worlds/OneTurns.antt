-- A step on the one table is a step of the world that the table is, and an event there.
use Rattle.std.proofs.Common.{◌≡◌, ℕ, suc, ◌+◌, ◌≤◌, Bool, true, false, List, [], ◌∷◌, map, set, get_or, Option, Some, refl, sym, ap, ◌∙◌, subst, arith}
use Rattle.std.specs.Prelude.{MatchBool}
use mathlib.Core.Option.{some}
use lib.ListN.{get_elem?}
use Rattle.atomic_table.specs.Table.{Me, keeps}
use Rattle.atomic_table.proofs.Lists.{at_map}
use Rattle.evl_kernel.specs.histories.Histories.{History}
use Rattle.evl_words.specs.Events.{seat_after}
use Rattle.evl_words.specs.Hands.{Turns}
use Rattle.evl_words.specs.Mutex.{MutexStep, unowned}
use Rattle.evl_words.specs.MutexWorld as mutex
use Rattle.evl_words.specs.MutexWorld.{MutexDoes, MutexKind, MutexTie, MutexView, MutexWorld, IsMutexWorld, mutex_author, mutex_steps}
use Rattle.evl_words.proofs.Events.{extends_moved}
use Rattle.evl_words.proofs.MutexSteps as steps
use Rattle.evl_core.specs.declared.views.ThreadView.{ThreadView}
use Rattle.evl_core.specs.rule.CoreRule.{CoreStands, Homes}
use Rattle.evl_core.specs.rule.ThreadRule.{ThreadRule, core_of, mutex_of, put_core, put_mutex}
use Rattle.evl_core.specs.rule.TieTells.{EventOf}
use Rattle.evl_core.specs.rule.Ties.{StandsNoted, mutex_tie}
use Rattle.evl_core.specs.worlds.CoreWorld as core
use Rattle.evl_core.specs.worlds.CoreWorld.{CoreKind, IsCoreEvent}
use Rattle.evl_core.specs.worlds.OneWorld.{IsOneEvent, IsOneWorld, OneKind, OneWorld, looks, mutex_world, needs_kernel, noted_if, on_lock, on_word, one_after, one_may, view_after, word_for}
use Rattle.evl_core.proofs.rule.ThreadSteps.{parts_apart}
use Rattle.evl_core.proofs.worlds.OneWorldLaws.{one_keeps}
use Rattle.evl_core.proofs.worlds.RuleWorld.{further, ruled, world_of}

pub match_yes : (b : Bool) (X Y : Type 0) → b ≡ true → X → MatchBool b X Y
match_yes true X Y e x = x
match_yes false X Y e x = absurd (cc)

pub match_no : (b : Bool) (X Y : Type 0) → b ≡ false → Y → MatchBool b X Y
match_no true X Y e y = absurd (cc)
match_no false X Y e y = y

module _ {S B : Type 0} (past : S → History) (room : S → ℕ) (comes : B → S → Type 0) (ceilings_of : B → ℕ → Bool) (count_of : B → ℕ) where
  abbrev pub Thread : Type 0
  Thread = ThreadView B MutexView

  abbrev pub EventAt : B → ℕ → Thread → OneKind S → ℕ → Thread → Type 0
  EventAt = IsOneEvent past room comes ceilings_of count_of

  -- what a thread knows it knows of the table that was made with this
  pub event_of : (first : B) (k : ℕ) (v : Thread) (kind : OneKind S) (found : ℕ) (u : Thread) → (core_of v).first ≡ first → EventAt first k v kind found u → EventOf past room comes ceilings_of count_of k v kind found u
  event_of first k v kind found u knows e = subst (λ (b : B). EventAt b k v kind found u) (sym knows) e

  -- an event on the lock is one of the core's world
  pub core_event : (first : B) (k : ℕ) (v : Thread) (kind : CoreKind S) (found : ℕ) (u : Thread) → (core_of v).first ≡ first → EventAt first k v (on_lock kind) found u → IsCoreEvent past room comes k (core_of v) kind found (core_of u)
  core_event first k v kind found u knows e =
      let w = e.world in record {
        world = record { word = w.word; slot = w.slot; log = w.log; views = map core_of w.views };
        stands = subst (λ (b : B). CoreStands past comes b w.log w.word (w.slot ∷ []) (map core_of w.views)) (sym knows) e.stands.locked;
        at = at_map core_of w.views k v e.at;
        may = e.may.0;
        shows = e.shows;
        after = ap core_of e.after ∙ ap (λ n. core.step_part past room comes n w.slot w.log k (core_of v) kind) e.shows;
      }

  module _ (first : B) (k : ℕ) (v : Thread) (i : ℕ) (kind : MutexKind) (found : ℕ) (u : Thread) (e : EventAt first k v (on_word i kind) found u) where
    its : MutexWorld
    its = mutex_world past room comes (ceilings_of first) (count_of first) e.world i

    abbrev part : ℕ → MutexView
    part n = seat_after mutex_steps n (e.world.logs i) k (mutex_of i v) kind

    -- what the thread knows of the mutex then
    part_is : mutex_of i u ≡ part (get_or e.world.mutexes i 0)
    part_is = ap (mutex_of i) e.after ∙ parts_apart.part_put i v (part (get_or e.world.mutexes i 0))

    -- an event on a mutex's word is one of that word's world
    pub does_of : MutexDoes k (mutex_of i v) kind found (mutex_of i u)
    does_of =
        let w = e.world in
        let one : MutexWorld = mutex_world past room comes (ceilings_of first) (count_of first) w i in
        let stands : IsMutexWorld one = e.stands.parts i e.may.0 in
        let at = at_map (mutex_of i) w.views k v e.at in
        let n = get_or w.mutexes i 0 in
        let p = part n in
        let es = mutex.step_entries n k (mutex_of i v) kind in
        let after = steps.step_keeps one stands k (mutex_of i v) at kind e.may.1 in
        let d : MutexDoes k (mutex_of i v) kind n p = record {
          event = record { world = one; stands = stands; at = at; may = e.may.1; shows = refl; after = refl };
          held = refl;
          extends = extends_moved mutex_author MutexStep unowned MutexTie one stands k (mutex_of i v) at (mutex.step_word n k (mutex_of i v) kind) es (mutex.step_held n k (mutex_of i v) kind) after;
          leads = (after.state, after.history.run, map (λ (x : MutexView). x.held) (set one.views k p), after.history.tied);
        } in
        subst (λ (z : ℕ × MutexView). MutexDoes k (mutex_of i v) kind z.0 z.1) (λ j. (e.shows j, sym part_is j)) d

    -- and leaves the rest of what the thread knows, but for a note
    pub shape_of : (b : Bool) (left : ℕ) → needs_kernel (ceilings_of first i) kind ≡ b → mutex.step_word found k (mutex_of i v) kind ≡ left → u ≡ put_core (put_mutex i v (mutex_of i u)) (noted_if b i left (core_of v))
    shape_of b left needs word =
        let now : mutex.step_word (get_or e.world.mutexes i 0) k (mutex_of i v) kind ≡ left = ap (λ n. mutex.step_word n k (mutex_of i v) kind) e.shows ∙ word in
        e.after ∙ (λ j. put_core (put_mutex i v (sym part_is j)) (noted_if (needs j) i (now j) (core_of v)))

    -- and shows what held of the mutex by the thread's note
    pub stood_of : (h : History) → (core_of v).taken ≡ Some h → StandsNoted (ceilings_of first) h.state i (core_of v).note found
    stood_of h has = subst (λ n. StandsNoted (ceilings_of first) h.state i (core_of v).note n) e.shows ((e.stands.ties i e.may.0).taken k (core_of v) h (at_map core_of e.world.views k v e.at) has)

  module _ (first : B) where
    abbrev pub ceilings : ℕ → Bool
    ceilings = ceilings_of first

    abbrev pub m : ℕ
    m = count_of first

    abbrev pub Rule : List ℕ → Homes S → List Thread → Type 0
    Rule = ThreadRule past comes (mutex_tie past ceilings) first m

    abbrev pub Stands : OneWorld S B → Type 0
    Stands = IsOneWorld past room comes ceilings m first

    -- a thread knows what the table was made with
    pub knows_first : (w : OneWorld S B) → Stands w → (k : ℕ) (v : Thread) → get_elem? w.views k ≡ some v → (core_of v).first ≡ first
    knows_first w stands k v at = stands.locked.0.knows k (core_of v) (at_map core_of w.views k v at)

    pub its_event : (w : OneWorld S B) → Stands w → (k : ℕ) (v : Thread) → get_elem? w.views k ≡ some v → (kind : OneKind S) → one_may past room comes ceilings m k v kind → (found : ℕ) → word_for w kind ≡ found
        → EventAt first k v kind found (view_after past room comes ceilings m w k v kind)
    its_event w stands k v at kind may found shows = record { world = w; stands = stands; at = at; may = may; shows = shows; after = refl }

    -- a look, whose thread knows after it what it knew before
    pub look_event : (words : List ℕ) (homes : Homes S) (views : List Thread) → Rule words homes views → (k : ℕ) (v : Thread) → get_elem? views k ≡ some v → (n : ℕ) → n ≤ m → EventAt first k v (looks n) (get_or words n 0) v
    look_event words homes views kept k v at n within =
        let o = world_of past room comes first ceilings m words homes views kept in
        record { world = o.world; stands = o.stands; at = ap (λ vs. get_elem? vs k) o.views_are ∙ at; may = within; shows = sym (ap (λ l. get_or l n 0) o.words_are); after = refl }

    -- a step on a mutex's word
    pub word_turns : (slots k : ℕ) (v : Thread) (carried : List (ℕ × Option S)) (i : ℕ) (kind : MutexKind) → one_may past room comes ceilings m k v (on_word i kind)
        → (f : ℕ → ℕ) → ((n : ℕ) → mutex.step_word n k (mutex_of i v) kind ≡ f n) → (then : ℕ → Me (Option S) Thread → Type 0)
        → ((found : ℕ) (u : Thread) → (core_of v).first ≡ first → EventAt first k v (on_word i kind) found u → then found (u, carried))
        → Turns Rule slots k (v, carried) (1 + i) f then
    word_turns slots k v carried i kind may f same then told words homes views kept len at below =
        let o = world_of past room comes first ceilings m words homes views kept in
        let w = o.world in
        let at' : get_elem? w.views k ≡ some v = ap (λ vs. get_elem? vs k) o.views_are ∙ at in
        let n : ℕ = get_or words (1 + i) 0 in
        let u = view_after past room comes ceilings m w k v (on_word i kind) in
        let word : n ≡ get_or w.mutexes i 0 = ap (λ l. get_or l (1 + i) 0) o.words_are ∙ further w.word w.mutexes i in
        let next = ruled past room comes first ceilings m (one_after past room comes ceilings m w k v (on_word i kind)) (one_keeps past room comes first ceilings m w o.stands k v at' (on_word i kind) may) in
        let more : 1 + i ≡ suc i = omega arith in
        let left : mutex.step_word (get_or w.mutexes i 0) k (mutex_of i v) kind ≡ f n = same (get_or w.mutexes i 0) ∙ ap f (sym word) in
        let now : w.word ∷ set w.mutexes i (mutex.step_word (get_or w.mutexes i 0) k (mutex_of i v) kind) ≡ set words (1 + i) (f n) =
        ap (λ x. w.word ∷ set w.mutexes i x) left ∙ sym (ap (λ j. set (w.word ∷ w.mutexes) j (f n)) more) ∙ ap (λ l. set l (1 + i) (f n)) (sym o.words_are) in (
          u,
          keeps,
          tt,
          subst (λ (z : (List ℕ × Homes S) × List Thread). Rule z.0.0 z.0.1 z.1) (λ j. ((now j, sym o.slot_is j), set (o.views_are j) k u)) next,
          told n u (knows_first w o.stands k v at') (its_event w o.stands k v at' (on_word i kind) may n (sym word)),
        )
