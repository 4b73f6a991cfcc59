-- The table that is written for a scenario is read back as this scenario.
use Rattle.std.proofs.Common.{arith, ◌≡◌, ℕ, suc, ◌+◌, ◌≤◌, ◌^◌, nat_lt, lt-ltb, le-leb, Bool, true, List, [], ◌∷◌, length, map, Option, Some, None, Ok, refl, sym, subst, ap}
use Rattle.std.proofs.lemmas.Bool.{and_parts}
use Rattle.std.proofs.lemmas.Bool.Decides.{nat_tests}
use Rattle.std.specs.List.{list_all}
use Rattle.toml.specs.Data.{Data, string}
use Rattle.toml.specs.Tables.{at_key, close}
use Rattle.toml.specs.View.{items_of}
use Rattle.evl_base.specs.Board.{board_fits}
use Rattle.evl_base.specs.Limits.{count_fits, sizes_fit, kind_fits, percent_fits, stax_fits, thread_limit, is_within}
use Rattle.evl_base.specs.declared.board.Board.{Board}
use Rattle.evl_base.specs.declared.mutex_kind.MutexKind.{MutexKind}
use Rattle.evl_base.specs.declared.mutex_kind.MutexKind.TheVariants.{Normal, Recursive, Ceiling}
use Rattle.evl_scenario.specs.Boards.{board_of, is_limit}
use Rattle.evl_scenario.specs.Scenarios.{are_tables, steps_of, script_of}
use Rattle.evl_scenario.specs.Tables.{all_given, list_of}
use Rattle.evl_scenario.specs.Values.{word_from, byte_from, ring_sizes_from, mutex_kind_from}
use Rattle.evl_scenario.specs.Widths.{AreWords, BoardHolds, StepsFit}
use Rattle.evl_scenario.specs.Writings.{whole_number, ring_data, kind_text, list_data}
use Rattle.evl_scenario.specs.declared.steps.Step.{Step}
use Rattle.evl_scenario.proofs.NodesRead.{board_nodes, steps_data, script_members}
use Rattle.evl_scenario.proofs.StepsRead.{step_read}
use Rattle.evl_scenario.proofs.TextsRead.{KindFits, kind-read}

-- ---- lists

module _ {A : Type 0} (data_of : A → Data) (from : Data → Option A) (fits : A → Bool) (reads : (x : A) → fits x ≡ true → from (data_of x) ≡ Some x) where
  each_given : (xs : List A) → list_all fits xs ≡ true → all_given from (items_of (map data_of xs)) ≡ Some xs
  each_given [] h = refl
  each_given (x ∷ xs) h =
      let (here, more) = and_parts (fits x) (list_all fits xs) h in
      rw (reads x here, each_given xs more) refl

  list_read : (most : ℕ) (xs : List A) → list_all fits xs ≡ true → length xs ≤ most → list_of from most (Some (list_data data_of xs)) ≡ Some xs
  list_read most xs h few = rw (each_given xs h, le-leb (length xs) most few) refl

abbrev pub is_word : ℕ → Bool
is_word n = nat_lt n (2 ^ 32)

word-read : (n : ℕ) → is_word n ≡ true → word_from (whole_number n) ≡ Some n
word-read n h = rw h refl

count-read : (n : ℕ) → count_fits n ≡ true → word_from (whole_number n) ≡ Some n
count-read n h = let small : nat_lt n (2 ^ 32) ≡ true = grind (arith, nat_tests) in rw small refl

percent-read : (n : ℕ) → percent_fits n ≡ true → byte_from (whole_number n) ≡ Some n
percent-read n h = let small : nat_lt n (2 ^ 8) ≡ true = grind (arith, nat_tests) in rw small refl

sizes-read : (sizes : ℕ × ℕ) → sizes_fit sizes ≡ true → ring_sizes_from (ring_data sizes) ≡ Some sizes
sizes-read sizes h =
    let (inbound, outbound) = and_parts (is_within 1 256 sizes.0) (is_within 1 256 sizes.1) h in
    let first : nat_lt sizes.0 (2 ^ 16) ≡ true = grind (arith, nat_tests) in
    let second : nat_lt sizes.1 (2 ^ 16) ≡ true = grind (arith, nat_tests) in
    rw (first, second) refl

pub kind_width : (k : MutexKind) → kind_fits k ≡ true → KindFits k
kind_width Normal h = tt
kind_width Recursive h = tt
kind_width (Ceiling prio) h = grind (arith, nat_tests)

kind_given : (k : MutexKind) → kind_fits k ≡ true → mutex_kind_from (string (kind_text k)) ≡ Some k
kind_given k h = kind-read k (kind_width k h)

pub all_words : (xs : List ℕ) → AreWords xs → list_all is_word xs ≡ true
all_words [] h = refl
all_words (x ∷ xs) h = rw (lt-ltb x (2 ^ 32) (h 0), all_words xs (λ i. h (suc i))) refl

-- ---- the board

-- the board without stage exclusion locks
abbrev bare : Board → Board
bare board = record board { staxes = record { items = [] } }

-- what is known of a board that is within its limits
pub record Within (board : Board) : Type 0 where
  pub threads : nat_lt board.threads (2 ^ 16) ≡ true
  pub sems : list_all count_fits board.sems.items ≡ true
  pub xbufs : list_all sizes_fit board.xbufs.items ≡ true
  pub mutexes : list_all kind_fits board.mutexes.items ≡ true
  pub groups : list_all percent_fits board.groups.items ≡ true

pub within_limits : (board : Board) → board_fits board ≡ true → Within board
within_limits board h =
    let a = and_parts _ (list_all stax_fits board.staxes.items) h in
    let b = and_parts _ (list_all percent_fits board.groups.items) a.0 in
    let c = and_parts _ (list_all kind_fits board.mutexes.items) b.0 in
    let d = and_parts _ (list_all sizes_fit board.xbufs.items) c.0 in
    let e = and_parts (is_within 1 thread_limit board.threads) (list_all count_fits board.sems.items) d.0 in
    let count : is_within 1 thread_limit board.threads ≡ true = e.0 in
    record {
      threads = grind (arith, nat_tests);
      sems = e.1;
      xbufs = d.1;
      mutexes = c.1;
      groups = b.1;
    }

bare_read : (board : Board) → board_fits (bare board) ≡ true → BoardHolds board → board_of (close (board_nodes (bare board))) ≡ Some (bare board)
unfolding at_key
bare_read board fits holds =
    let w = within_limits (bare board) fits in
    rw (
      w.threads,
      list_read whole_number word_from count_fits count-read 64 board.sems.items w.sems holds.0,
      list_read whole_number word_from is_word word-read 64 board.flags.items (all_words board.flags.items holds.5) holds.1,
      list_read ring_data ring_sizes_from sizes_fit sizes-read 16 board.xbufs.items w.xbufs holds.2,
      list_read (λ kind. string (kind_text kind)) mutex_kind_from kind_fits kind_given 32 board.mutexes.items w.mutexes holds.3,
      list_read whole_number byte_from percent_fits percent-read 16 board.groups.items w.groups holds.4,
      fits,
    ) refl

-- a board without stage exclusion locks, within its limits
pub board_read : (board : Board) → board_fits board ≡ true → board.staxes.items ≡ [] → BoardHolds board → board_of (close (board_nodes board)) ≡ Some board
board_read board fits none holds =
    let same : bare board ≡ board = ap (λ (s : List ℕ). record board { staxes = record { items = s } }) (sym none) in
    let P : Board → Type 0 = λ b. board_of (close (board_nodes b)) ≡ Some b in
    let Fits : Board → Type 0 = λ b. board_fits b ≡ true in
    subst P same (bare_read board (subst Fits (sym same) fits) holds)

-- ---- the steps

all_tables : (steps : List Step) → are_tables (steps_data steps) ≡ true
all_tables [] = refl
all_tables (step ∷ rest) = all_tables rest

steps_read : (n : ℕ) (steps : List Step) → StepsFit steps → steps_of n (steps_data steps) ≡ Ok steps
steps_read n [] h = refl
steps_read n (step ∷ rest) h = rw (step_read step h.0, steps_read (n + 1) rest h.1) refl

-- ---- the whole

limit_width : (limit : ℕ) → is_limit limit ≡ true → nat_lt limit (2 ^ 32) ≡ true
limit_width limit h = grind (arith, nat_tests)

pub script_read : (board : Board) (limit : ℕ) (steps : List Step) → board_of (close (board_nodes board)) ≡ Some board → is_limit limit ≡ true → StepsFit steps
    → script_of None (script_members board limit steps) ≡ Ok (record { board = board; limit = limit; steps = steps })
script_read board limit [] b l h = rw (b, limit_width limit l, l) refl
script_read board limit (step ∷ rest) b l h =
    rw (b, limit_width limit l, l, all_tables rest, steps_read 1 (step ∷ rest) h) refl
