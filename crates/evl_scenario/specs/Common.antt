-- Notions that the clauses of the reader of the common shape cite: how the lines of a document go on after what was read.
use Rattle.std.specs.Prelude.{◌≡◌, ℕ, ◌<◌, true, List, [], ◌∷◌, ◌++◌, length, codes, Option, Some, None, option_map, Ok}
use Rattle.toml_parser.specs.Lexical.{skip_blank}
use Rattle.toml.specs.Data.{Data, array, Items, no_items, item, Members, no_members, member}
use Rattle.toml.specs.Tables.{Nodes, no_nodes, node, value, get_node, insert, close, Edit, along_header, Document}
use Rattle.toml.specs.Parse.{lines, skip_bom}
use Rattle.evl_scenario.specs.declared.steps.Step.{Step}
use Rattle.evl_scenario.specs.Scenarios.{are_tables, steps_of}

-- the nodes of a table of values
abbrev pub held : Members → Nodes
held no_members = no_nodes
held (member k d ms) = node k (value d) (held ms)

-- the path leads to the nodes that `write` puts into a root
abbrev pub Opens : List (List ℕ) → (Nodes → Nodes) → Type 0
Opens path write = (edit : Edit) (ns : Nodes) → along_header path edit (write ns) ≡ option_map write (edit ns)

-- the lines of a text come to a document that goes on with the lines at `start`
abbrev pub GoesOn : ℕ → Document → List ℕ → Document → List ℕ → Type 0
GoesOn n doc text next start =
    (m : ℕ) × (rest : List ℕ) × (length rest < m) × (start ≡ skip_blank rest) × (lines n doc text ≡ lines m next rest)

-- the lines before `start` are the values of a table, after any header
abbrev pub FillsTable : List ℕ → Members → List ℕ → Type 0
FillsTable text ms start =
    (path : List (List ℕ)) (write : Nodes → Nodes) → Opens path write → (n : ℕ) → length text < n
    → GoesOn n (write no_nodes, path) text (write (held ms), path) start

-- rule: A text of only bare keys, `[board]` and then `[[step]]` tables is read a step at a time, as the document that
--   it is; any other text is read whole.
--   also: Common.{FillsTable, AddsSteps}
--   clauses: read_head; read_step_tables; read_common
--   rows: longest_text; whole_board; colourful_step; shape_changes_midway
-- the lines before `start` are those of a table without steps
abbrev pub OpensDocument : List ℕ → Members → List ℕ → Type 0
OpensDocument text ms start =
    (n : ℕ) → length text < n → (root : Nodes) × (path : List (List ℕ)) × (close root ≡ ms) × (get_node (codes "step") root ≡ None)
    × GoesOn n (no_nodes, []) (skip_bom text) (root, path) start

-- the table of a root with a list of steps, if there are any
abbrev pub with_steps : Nodes → Items → Members
with_steps root no_items = close root
with_steps root (item d ds) = close (insert (codes "step") (value (array (item d ds))) root)

-- the lines from `start` on are those of these steps, after any root without steps
abbrev pub AddsSteps : List ℕ → List Step → Type 0
AddsSteps start steps =
    (root : Nodes) (path : List (List ℕ)) → get_node (codes "step") root ≡ None → (n : ℕ) (rest : List ℕ) → length rest < n → start ≡ skip_blank rest
    → (items : Items) × (are_tables items ≡ true) × (steps_of 1 items ≡ Ok steps)
    × (doc : Document) × (lines n (root, path) rest ≡ Some doc) × (close doc.0 ≡ with_steps root items)
