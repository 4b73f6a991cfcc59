-- Each step on the core's lock and on the mutex words keeps the rule of their one table, and each owes its own part and the ties.
use Rattle.std.proofs.Common.{◌≡◌, ℕ, zero, suc, ◌+◌, ◌-◌, ◌≤◌, ◌<◌, List, [], ◌∷◌, length, map, get_or, Option, Some, refl, sym, ap, ◌∙◌, subst, arith}
use Rattle.std.proofs.lemmas.List.{length-replicate}
use Rattle.std.specs.Prelude.{replicate}
use mathlib.Core.Option.{some}
use Rattle.atomic_table.specs.Table.{Me, Splits, opening}
use Rattle.evl_base.specs.Limits.{thread_limit}
use Rattle.evl_kernel.specs.histories.Histories.{History, IsLegal}
use Rattle.evl_words.specs.Hands.{Hand, first_of, rest_of}
use Rattle.evl_words.specs.Parts.{AreParts}
use Rattle.evl_words.specs.MutexWorld.{MutexView, newcomer}
use Rattle.evl_words.specs.MutexRule.{MutexPart}
use Rattle.evl_words.proofs.Sequences.{map-replicate}
use Rattle.evl_words.proofs.Dealing.{deals_opening}
use Rattle.evl_words.proofs.Dealing as dealing
use Rattle.evl_words.proofs.Parts.{part_in-put, part_in-else}
use Rattle.evl_words.proofs.MutexEnds.{mutex_opens}
use Rattle.evl_core.specs.declared.views.CorePart.{CorePart}
use Rattle.evl_core.specs.declared.views.ThreadView.{ThreadView}
use Rattle.evl_core.specs.rule.CoreRule.{CoreRuled, newcomer_part}
use Rattle.evl_core.specs.accounts.Accounts.{threads_of}
use Rattle.evl_core.specs.rule.ThreadRule.{Tie, ThreadRule, MachineRule, core_of, put_core, mutex_of, put_mutex, newcomer_view, all_threads}
use Rattle.evl_core.proofs.rule.CoreSteps.{opens_ruled}

pub parts_apart : {B : Type 0} → AreParts {V = ThreadView B MutexView} core_of put_core mutex_of put_mutex
parts_apart = record {
  core_put = λ v c. refl;
  core_else = λ i v p. refl;
  core_same = λ v. refl;
  part_put = λ i v p. part_in-put (newcomer 0) i v.mutexes p;
  part_else = λ i j v p ne. part_in-else (newcomer 0) i j v.mutexes p ne;
  part_core = λ i v c. refl;
}

module _ {S B : Type 0} (past : S → History) (room : S → ℕ) (comes : B → S → Type 0) (tie : Tie S B) (first : B) (m : ℕ) where
  abbrev pub Seat : Type 0
  Seat = Me (Option S) (Hand (ThreadView B MutexView))

  -- splitting and joining are those of every hand
  pub splits_thread : (id : ℕ) (hand : Hand (ThreadView B MutexView)) → Splits (MachineRule past comes tie first m) id hand (first_of hand) (rest_of hand)
  splits_thread = dealing.splits (ThreadRule past comes tie first m)

  pub zeros : (n i : ℕ) → ◌≡◌ {A = ℕ} (get_or (replicate n 0) i 0) 0
  zeros zero i = refl
  zeros (suc n) zero = refl
  zeros (suc n) (suc i) = zeros n i

  pub at_blank : (x d : MutexView) (n i : ℕ) → i < n → get_or (replicate n x) i d ≡ x
  at_blank x d zero i lt = absurd (omega arith)
  at_blank x d (suc n) zero lt = refl
  at_blank x d (suc n) (suc i) lt = at_blank x d n i (omega arith)

  -- The table at the opening: n threads, at most 256 where there are mutexes, and m mutexes that nobody has. It owes the ties
  pub opens_thread : (y : S) (n : ℕ) → n ≡ threads_of (past y) → ((i : ℕ) → i < m → n ≤ thread_limit) → IsLegal (past y) → (past y).entries ≡ [] → comes first y → ((i : ℕ) → i < m → tie i 0 (some (Some y) ∷ []) (replicate n (newcomer_part (past y) first)) 0)
      → (words : List ℕ) → words ≡ replicate (1 + m) 0 → MachineRule past comes tie first m (opening words (Some y ∷ []) (all_threads (past y) first m n))
  opens_thread y n all few legal none_yet from ties words are =
      let one = newcomer_view (past y) first m n in
      let views = replicate n one in
      let zero_at : (i : ℕ) → get_or words i 0 ≡ 0 = λ i. ap (λ l. get_or l i 0) are ∙ zeros (1 + m) i in
      let long : length words ≡ 1 + m = ap length are ∙ length-replicate (1 + m) 0 in
      let cores : map core_of views ≡ replicate n (newcomer_part (past y) first) = map-replicate core_of n one in record {
        views = views;
        deals = deals_opening views;
        kept = record {
          long = long;
          locked = subst (λ (z : ℕ × List (CorePart B)). CoreRuled past comes first z.0 (some (Some y) ∷ []) z.1) (λ j. (sym (zero_at 0) j, sym cores j)) (opens_ruled past comes first y n all legal none_yet from);
          parts = λ i lt.
              let blank : map (mutex_of i) views ≡ replicate n (newcomer n) = map-replicate (mutex_of i) n one ∙ ap (replicate n) (at_blank (newcomer n) (newcomer 0) m i (omega arith)) in
              subst (λ (z : ℕ × List MutexView). MutexPart z.0 z.1) (λ j. (sym (zero_at (1 + i)) j, sym blank j)) ([], mutex_opens n (few i (omega arith)));
          ties = λ i lt. subst (λ (z : (ℕ × List (CorePart B)) × ℕ). tie i z.0.0 (some (Some y) ∷ []) z.0.1 z.1) (λ j. ((sym (zero_at 0) j, sym cores j), sym (zero_at (1 + i)) j)) (ties i (omega arith));
        };
      }
