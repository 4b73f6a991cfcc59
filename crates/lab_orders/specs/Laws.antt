-- The orders of a machine.
use Rattle.std.specs.Prelude.{ℕ, ◌≡◌, ◌≢◌, ◌↔◌, ◌+◌, ◌≤◌, ◌<◌, ◌==◌, List, [], ◌∷◌, length, AllPairs, Contains, Some, IsSome, count_by, option_map}
use Rattle.lab_orders.specs.Machines.{Machine, Run, IsRun, led_along, runs, orders}
use Rattle.lab_orders.specs.Weights.{total}

-- The runs of so many steps are just those: each run is there, and no other.
abbrev pub RunsAreAllRuns : Type 0 → Type 0
RunsAreAllRuns S =
    (m : Machine S) (s : S) (r : Run S) → Contains (runs m s (length r.order)) r ↔ IsRun m s r

-- and each is there once
abbrev pub RunsAreThereOnce : Type 0 → Type 0
RunsAreThereOnce S =
    (m : Machine S) (s : S) (k : ℕ) → AllPairs (λ r q. r.order ≢ q.order) (runs m s k)

-- If there is no run of so many steps, there is no order of as many or more.
abbrev pub OrdersEnd : Type 0 → Type 0
OrdersEnd S =
    (m : Machine S) (s : S) (k more : ℕ) → runs m s k ≡ [] → orders m s (k + more) ≡ orders m s k

-- the place of a caller is how many steps it has made
abbrev pub CountsSteps : {S : Type 0} → Machine S → (S → ℕ → ℕ) → Type 0
CountsSteps {S} m place = (s t : S) (c d : ℕ) → m.go s c ≡ Some t → place t d ≡ place s d + count_by (λ e. e == d) (c ∷ [])

-- So each order is a merge of what the callers have to do: the steps of each in their order, as many of them as it makes.
abbrev pub OrdersAreMerges : Type 0 → Type 0
OrdersAreMerges S =
    (m : Machine S) (place : S → ℕ → ℕ) → CountsSteps m place
    → (s t : S) (order : List ℕ) → led_along m s order ≡ Some t → (c : ℕ) → place t c ≡ place s c + count_by (λ e. e == c) order

-- And where each caller has so many steps, and nobody ever waits, each merge of them is a run.
abbrev pub MergesAreOrders : Type 0 → Type 0
MergesAreOrders S =
    (m : Machine S) (place : S → ℕ → ℕ) (ends : ℕ → ℕ) → CountsSteps m place
    → ((s : S) (c : ℕ) → place s c < ends c → IsSome (m.go s c))
    → (s : S) (order : List ℕ) → ((c : ℕ) → place s c + count_by (λ e. e == c) order ≤ ends c) → IsSome (led_along m s order)

-- One machine is what is seen of another: of the same callers, each of whose steps leads to what is seen of where it leads.
pub record IsSeenOf {S T : Type 0} (m : Machine S) (n : Machine T) (see : S → T) : Type 0 where
  pub callers : n.callers ≡ m.callers
  pub go : (s : S) (c : ℕ) → n.go (see s) c ≡ option_map see (m.go s c)

-- rule: With `--ask` the report says how many orders there are and how many of them end against `[ask]`, by the report
--   of their ends without the answers of callers of whom `never` asks none; and of each question about moments the
--   first order to one as it looks for. Forgetting answers leaves all counts as they are.
--   also: AskingAlone.{IsVerdict, ForgetsAnswers}; Outcomes.CanNotTell
--   clauses: ask_alone; seen_is_counted; forgets_answers
--   rows: what_is_asked_alone_is_counted
-- Then whatever is counted of its states is counted of what is seen of the other's, run by run and order by order.
pub record CountsWhatIsSeen {S T : Type 0} (m : Machine S) (n : Machine T) (see : S → T) (s : S) (k : ℕ) : Type 0 where
  pub each_run : (f : T → ℕ) → total f (runs n (see s) k) ≡ total (λ t. f (see t)) (runs m s k)
  pub each_order : (f : T → ℕ) → total f (orders n (see s) k) ≡ total (λ t. f (see t)) (orders m s k)

abbrev pub SeenIsCounted : Type 0 → Type 0 → Type 0
SeenIsCounted S T = (m : Machine S) (n : Machine T) (see : S → T) → IsSeenOf m n see → (s : S) (k : ℕ) → CountsWhatIsSeen m n see s k
