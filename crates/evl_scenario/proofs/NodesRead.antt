-- The reader's results for the expressions of a scenario, one after the other.
use Rattle.std.proofs.Common.{◌≡◌, ℕ, List, [], ◌∷◌, ◌++◌, map, codes, Option, Some, None, option_map, option_and_then, unwrap_or, refl, sym, ◌∙◌}
use Rattle.toml.specs.Data.{Data, table, array, Items, no_items, item, push_item, Members, no_members, member}
use Rattle.toml.specs.Tables.{Nodes, no_nodes, node, value, open_table, open_array, header, Document, Expression, key_value, std_table, array_table, close, at_key, along_header, along_dots, define, replace}
use Rattle.toml.proofs.Fill.{run-append}
use Rattle.toml.proofs.ReadLines.{run}
use Rattle.toml.proofs.ReadValues.{item_join, item_join-none, item_join-push}
use Rattle.evl_base.specs.declared.board.Board.{Board}
use Rattle.evl_base.specs.declared.call.Call.{Call}
use Rattle.evl_base.specs.declared.call.Call.TheVariants.{Now}
use Rattle.evl_base.specs.declared.numbers.ThreadId.{ThreadId}
use Rattle.evl_scenario.specs.declared.steps.Step.{Step}
use Rattle.evl_scenario.specs.Writings.{Pair, whole_number, step_pairs, board_pairs}
use Rattle.evl_scenario.proofs.LinesPrinted.{pair_expression}

-- ---- the nodes of a table

-- the nodes with these keys
abbrev pub filled : List Pair → Nodes → Option Nodes
filled [] ns = Some ns
filled (p ∷ ps) ns = option_and_then (filled ps) (at_key p.0 (key_value p.1) ns)

abbrev pub step_nodes : Step → Nodes
step_nodes step = unwrap_or (filled (step_pairs step) no_nodes) no_nodes

abbrev pub board_nodes : Board → Nodes
board_nodes board = unwrap_or (filled (board_pairs board) no_nodes) no_nodes

-- the keys of a step differ
step_filled : (who : ThreadId) (call : Call) → filled (step_pairs (record { who = who; call = call })) no_nodes ≡ Some (step_nodes (record { who = who; call = call }))
unfolding at_key
step_filled who Now = refl
step_filled who _ = refl

-- ---- the document

-- a document with a board and a limit, and no step yet
abbrev pub opened_nodes : Nodes → Data → Nodes
opened_nodes board limit = node (codes "board") (open_table header board) (node (codes "limit") (value limit) no_nodes)

-- a document with steps that are done, and one that is being read
abbrev pub stepped_nodes : Nodes → Data → Items → Nodes → Nodes
stepped_nodes board limit done last =
    node (codes "board") (open_table header board) (node (codes "limit") (value limit) (node (codes "step") (open_array done last) no_nodes))

abbrev pub step_path : List (List ℕ)
step_path = codes "step" ∷ []

abbrev pub step_expressions : Step → List Expression
step_expressions step = (([], codes "step"), array_table) ∷ map pair_expression (step_pairs step)

abbrev pub steps_expressions : List Step → List Expression
steps_expressions [] = []
steps_expressions (step ∷ rest) = step_expressions step ++ steps_expressions rest

abbrev pub opening_expressions : Board → ℕ → List Expression
opening_expressions board limit =
    (([], codes "limit"), key_value (whole_number limit)) ∷ (([], codes "board"), std_table) ∷ map pair_expression (board_pairs board)

-- the limit and the board
opening_run : (board : Board) (limit : ℕ) → run (no_nodes, []) (opening_expressions board limit) ≡ Some (opened_nodes (board_nodes board) (whole_number limit), codes "board" ∷ [])
unfolding define along_header along_dots at_key
opening_run board limit = refl

module _ (board : Nodes) (limit : Data) where
  -- the document, where a step's table is this
  abbrev at_step : Items → Nodes → Document
  at_step done last = (stepped_nodes board limit done last, step_path)

  one_pair : (done : Items) (last : Nodes) (p : Pair)
      → define (at_step done last) (pair_expression p) ≡ option_map (at_step done) (at_key p.0 (key_value p.1) last)
  unfolding define along_header along_dots
  one_pair done last p = elim (at_key p.0 (key_value p.1) last) as (λ o. option_map (λ root. (root, step_path)) (option_map (λ new. replace (codes "step") new (stepped_nodes board limit done last)) (option_map (open_array done) o)) ≡ option_map (at_step done) o) [
    | None ↦ refl
    | Some n ↦ refl
  ]

  pairs_then : (done : Items) (ps : List Pair) (o : Option Nodes)
      → ((last : Nodes) → run (at_step done last) (map pair_expression ps) ≡ option_map (at_step done) (filled ps last))
      → option_and_then (λ next. run next (map pair_expression ps)) (option_map (at_step done) o) ≡ option_map (at_step done) (option_and_then (filled ps) o)
  pairs_then done ps None ih = refl
  pairs_then done ps (Some n) ih = ih n

  -- the keys of a step
  pairs_run : (done : Items) (ps : List Pair) (last : Nodes) → run (at_step done last) (map pair_expression ps) ≡ option_map (at_step done) (filled ps last)
  pairs_run done [] last = refl
  pairs_run done (p ∷ ps) last =
      rw (one_pair done last p) (pairs_then done ps (at_key p.0 (key_value p.1) last) (λ n. pairs_run done ps n))

  -- a step's header, after another step
  next_header : (done : Items) (last : Nodes) → define (at_step done last) (([], codes "step"), array_table) ≡ Some (at_step (push_item done (table (close last))) no_nodes)
  unfolding define along_header at_key
  next_header done last = refl

  -- the header of the first step
  first_header : (path : List (List ℕ)) → define (opened_nodes board limit, path) (([], codes "step"), array_table) ≡ Some (at_step no_items no_nodes)
  unfolding define along_header at_key
  first_header path = refl

  step_body : (done : Items) (step : Step) → run (at_step done no_nodes) (map pair_expression (step_pairs step)) ≡ Some (at_step done (step_nodes step))
  step_body done step = rw (pairs_run done (step_pairs step) no_nodes, step_filled step.who step.call) refl

  -- the steps that are done, and the last one
  abbrev ended : Items → Nodes → List Step → Items × Nodes
  ended done last [] = (done, last)
  ended done last (step ∷ rest) = ended (push_item done (table (close last))) (step_nodes step) rest

  more_steps : (rest : List Step) (done : Items) (last : Nodes)
      → run (at_step done last) (steps_expressions rest) ≡ Some (at_step (ended done last rest).0 (ended done last rest).1)
  more_steps [] done last = refl
  more_steps (step ∷ rest) done last =
      let pushed = push_item done (table (close last)) in
      run-append (at_step done last) (step_expressions step) (steps_expressions rest)
      ∙ rw (next_header done last, step_body pushed step) (more_steps rest pushed (step_nodes step))

-- ---- the table of the document

abbrev pub step_data : Step → Data
step_data step = table (close (step_nodes step))

abbrev pub steps_data : List Step → Items
steps_data [] = no_items
steps_data (step ∷ rest) = item (step_data step) (steps_data rest)

ended_items : (board : Nodes) (limit : Data) (rest : List Step) (done : Items) (last : Nodes)
    → push_item (ended board limit done last rest).0 (table (close (ended board limit done last rest).1)) ≡ item_join done (item (table (close last)) (steps_data rest))
ended_items board limit [] done last = sym (item_join-none (push_item done (table (close last)))) ∙ item_join-push done (table (close last)) no_items
ended_items board limit (step ∷ rest) done last =
    ended_items board limit rest (push_item done (table (close last))) (step_nodes step) ∙ item_join-push done (table (close last)) (item (step_data step) (steps_data rest))

abbrev pub step_members : List Step → Members
step_members [] = no_members
step_members (step ∷ rest) = member (codes "step") (array (steps_data (step ∷ rest))) no_members

abbrev pub script_members : Board → ℕ → List Step → Members
script_members board limit steps =
    member (codes "board") (table (close (board_nodes board))) (member (codes "limit") (whole_number limit) (step_members steps))

-- a document, and the table that it is
abbrev pub Makes : List Expression → Members → Type 0
Makes es ms = (doc : Document) × (run (no_nodes, []) es ≡ Some doc) × (close doc.0 ≡ ms)

-- the expressions of a scenario make its table
pub script_made : (board : Board) (limit : ℕ) (steps : List Step) → Makes (opening_expressions board limit ++ steps_expressions steps) (script_members board limit steps)
script_made board limit [] =
    let begun : Document = (opened_nodes (board_nodes board) (whole_number limit), codes "board" ∷ []) in
    (begun, run-append (no_nodes, []) (opening_expressions board limit) [] ∙ rw (opening_run board limit) refl, refl)
script_made board limit (step ∷ rest) =
    let b = board_nodes board in
    let l = whole_number limit in
    let e = ended b l no_items (step_nodes step) rest in
    let begun : Document = (opened_nodes b l, codes "board" ∷ []) in
    let ran : run begun (steps_expressions (step ∷ rest)) ≡ Some (at_step b l e.0 e.1) =
    run-append begun (step_expressions step) (steps_expressions rest)
    ∙ rw (first_header b l (codes "board" ∷ []), step_body b l no_items step) (more_steps b l rest no_items (step_nodes step)) in
    let items : push_item e.0 (table (close e.1)) ≡ steps_data (step ∷ rest) = ended_items b l rest no_items (step_nodes step) in
    (at_step b l e.0 e.1, run-append (no_nodes, []) (opening_expressions board limit) (steps_expressions (step ∷ rest)) ∙ rw (opening_run board limit) ran, rw items refl)
