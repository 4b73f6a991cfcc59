-- How the lines of a text of the common shape make its document.
use Rattle.std.proofs.Common.{◌≡◌, ℕ, suc, ◌+◌, ◌-◌, ◌<◌, ◌≤◌, ◌==◌, Bool, true, false, ◌&&◌, cond, if◌then◌else◌, List, [], ◌∷◌, ◌++◌, length, length-append, drop, codes, Option, Some, None, option_map, option_and_then, is_some, Result, Ok, Err, String, Global, BTreeMap, string_bytes, nat_cmp, is_eq, Ordering, Less, Equal, Greater, refl, sym, subst, ap, ◌∙◌, inl, inr, ◌⊎◌, arith}
use Rattle.std.proofs.lemmas.Bool.{and_parts, cases_Bool, false≢true}
use Rattle.std.proofs.lemmas.Bool.Decides.{nat_tests}
use Rattle.std.proofs.lemmas.Cmp.{nat_list_cmp_total}
use Rattle.std.specs.BTreeMap.{insert_entry, is_at}
use Rattle.std.specs.Cmp.{alike_right}
use Rattle.std.specs.Cmp.Lexicographic.{slice_cmp}
use Rattle.std.specs.List.{list_any}
use Rattle.std.specs.Map.{lookup}
use Rattle.std.specs.Ordering.{match_ordering}
use Rattle.std.specs.Str.{bytes_eq}
use Rattle.std.specs.String.{string_cmp}
use Rattle.toml_parser.specs.Lexical.{first, skip_blank, skip_ws}
use Rattle.toml_parser.specs.Strings.{key}
use Rattle.toml_parser.specs.Reading.{path_view}
use Rattle.toml_parser.proofs.OnLiterals.{toml_parser_on_literals}
use Rattle.toml.specs.Data.{Data, table, array, Items, no_items, item, push_item, Members, no_members, member, same_key, get_member, as_table}
use Rattle.toml.specs.Tables.{Node, Nodes, no_nodes, node, value, open_table, open_array, header, get_node, insert, replace, close, close_node, Edit, header_node, along_header, along_dots, at_key, put, Document, Expression, key_value, std_table, array_table, define}
use Rattle.toml.specs.Parse.{ends_line, header_key, key_equals, val, expression, line, lines, parse_document, skip_bom}
use Rattle.toml.specs.View.{view, members_view}
use Rattle.toml.specs.declared.value.Value.{Value}
use Rattle.toml.proofs.Blanks.{skip_within}
use Rattle.toml.proofs.NodeLaws.{along_found, get_node-insert, replace-insert}
use Rattle.toml.proofs.Turns.{at_key_new, at_key_ok, document_some, keyval_ok, lines_end, lines_more}
use Rattle.toml.proofs.Views.{Entry}
use Rattle.evl_base.specs.declared.board.Board.{Board}
use Rattle.evl_scenario.specs.declared.faults.Fault.{Fault}
use Rattle.evl_scenario.specs.declared.steps.Step.{Step}
use Rattle.evl_scenario.specs.Boards.{board_of, limit_with, own_limit}
use Rattle.evl_scenario.specs.Common.{held, Opens, GoesOn, FillsTable, OpensDocument, with_steps, AddsSteps}
use Rattle.evl_scenario.specs.Scenarios.{Script, are_tables, with_first, steps_of, step_tables, document_keys, opening_of, script_with, script_opened, script_of, document_script}
use Rattle.evl_scenario.specs.Steps.{step_in, step_of}
use Rattle.evl_scenario.specs.Tables.{has_only}

-- ---- tables of values

held_match : (o : Ordering) (a b c : List Entry) → held (members_view (match_ordering o a b c)) ≡ match_ordering o (held (members_view a)) (held (members_view b)) (held (members_view c))
held_match Less a b c = refl
held_match Equal a b c = refl
held_match Greater a b c = refl

-- a value that is put into the map of a table
pub held-insert : (k : String Global) (v : Value) (es : List Entry) → held (members_view (insert_entry string_cmp es k v)) ≡ insert (string_bytes k) (value (view v)) (held (members_view es))
held-insert k v [] = refl
held-insert k v (e ∷ es) = held_match (string_cmp k e.0) _ _ _ ∙ rw (held-insert k v es) refl

abbrev found_value : Option Value → Option Node
found_value = option_map (λ v. value (view v))

held_or : (o : Ordering) (v : Value) (rest : Option Value) (d : Option Node) → found_value rest ≡ d → found_value (cond (is_eq o) (Some v) rest) ≡ cond (is_eq o) (Some (value (view v))) d
held_or Less v rest d e = e
held_or Equal v rest d e = refl
held_or Greater v rest d e = e

held-lookup : (k : List ℕ) (es : List Entry) → found_value (lookup (is_at (λ x. slice_cmp nat_cmp k (string_bytes x))) es) ≡ get_node k (held (members_view es))
held-lookup k [] = refl
held-lookup k (e ∷ es) = held_or (slice_cmp nat_cmp k (string_bytes e.0)) e.1 _ _ (held-lookup k es)

-- a key that the map of a table hasn't
pub held-missing : (k : List ℕ) (es : List Entry) → lookup (is_at (λ x. slice_cmp nat_cmp k (string_bytes x))) es ≡ None → get_node k (held (members_view es)) ≡ None
held-missing k es none = sym (held-lookup k es) ∙ ap found_value none

pub close-held : (ms : Members) → close (held ms) ≡ ms
close-held no_members = refl
close-held (member k d ms) = ap (member k d) (close-held ms)

-- ---- nodes

cases_ordering : (o : Ordering) → (o ≡ Less) ⊎ ((o ≡ Equal) ⊎ (o ≡ Greater))
cases_ordering Less = inl refl
cases_ordering Equal = inr (inl refl)
cases_ordering Greater = inr (inr refl)

-- what is at other keys
pub get_node-other : (l k : List ℕ) (x : Node) (ns : Nodes) → same_key l k ≡ false → get_node l (insert k x ns) ≡ get_node l ns
get_node-other l k x no_nodes apart = rw apart refl
get_node-other l k x (node j y ns) apart =
    elim (cases_ordering (slice_cmp nat_cmp k j)) [
      | inl less ↦ rw (less, apart) refl
      | inr other ↦ elim other [
        | inl tie ↦
            let here : slice_cmp nat_cmp l k ≡ slice_cmp nat_cmp l j = alike_right nat_list_cmp_total k j l tie in
            let not_here : same_key l j ≡ false = ap is_eq (sym here) ∙ apart in
            rw (tie, not_here) refl
        | inr more ↦ elim (cases_Bool (same_key l j)) [
          | inl found ↦ rw (more, found) refl
          | inr missed ↦ rw (more, missed) (get_node-other l k x ns apart)
        ]
      ]
    ]

-- nodes that stand for the same data are written alike
close-insert : (k : List ℕ) (x y : Node) (ns : Nodes) → close_node x ≡ close_node y → close (insert k x ns) ≡ close (insert k y ns)
close-insert k x y no_nodes same = ap (λ d. member k d no_members) same
close-insert k x y (node j z ns) same =
    elim (cases_ordering (slice_cmp nat_cmp k j)) [
      | inl less ↦ rw less (ap (λ d. member k d (member j (close_node z) (close ns))) same)
      | inr other ↦ elim other [
        | inl tie ↦ rw tie (ap (λ d. member j d (close ns)) same)
        | inr more ↦ rw more (ap (member j (close_node z)) (close-insert k x y ns same))
      ]
    ]

closed_or : (o : Ordering) (z : Node) (rest : Option Node) (d : Option Data) → d ≡ option_map close_node rest
    → match_ordering o d (Some (close_node z)) d ≡ option_map close_node (cond (is_eq o) (Some z) rest)
closed_or Less z rest d e = e
closed_or Equal z rest d e = refl
closed_or Greater z rest d e = e

get_member-close : (k : List ℕ) (ns : Nodes) → get_member k (close ns) ≡ option_map close_node (get_node k ns)
get_member-close k no_nodes = refl
get_member-close k (node j z ns) = closed_or (slice_cmp nat_cmp k j) z _ _ (get_member-close k ns)

has_only-insert : (known : List (List ℕ)) (k : List ℕ) (x : Node) (ns : Nodes) → list_any (bytes_eq k) known ≡ true → has_only known (close (insert k x ns)) ≡ has_only known (close ns)
has_only-insert known k x no_nodes is = rw is refl
has_only-insert known k x (node j z ns) is =
    elim (cases_ordering (slice_cmp nat_cmp k j)) [
      | inl less ↦ rw (less, is) refl
      | inr other ↦ elim other [
        | inl tie ↦ rw tie refl
        | inr more ↦ rw more (ap (λ b. list_any (bytes_eq j) known && b) (has_only-insert known k x ns is))
      ]
    ]

-- ---- where a header leads

wrapped : (k : List ℕ) (wrap : Nodes → Node) (root ns : Nodes) (o : Option Nodes)
    → option_map (λ new. replace k new (insert k (wrap ns) root)) (option_map wrap o) ≡ option_map (λ new. insert k (wrap new) root) o
wrapped k wrap root ns None = refl
wrapped k wrap root ns (Some new) = ap Some (replace-insert k (wrap ns) (wrap new) root)

option_same : (o : Option Nodes) → o ≡ option_map (λ ns. ns) o
option_same None = refl
option_same (Some ns) = refl

-- before any header
pub opens-root : Opens [] (λ ns. ns)
unfolding along_header
opens-root edit ns = option_same (edit ns)

pub opens-table : (k : List ℕ) (root : Nodes) → Opens (k ∷ []) (λ ns. insert k (open_table header ns) root)
unfolding along_header
opens-table k root edit ns =
    along_found k [] edit (insert k (open_table header ns) root) (open_table header ns) (get_node-insert k (open_table header ns) root)
    ∙ wrapped k (open_table header) root ns (edit ns)

pub opens-array : (k : List ℕ) (done : Items) (root : Nodes) → Opens (k ∷ []) (λ ns. insert k (open_array done ns) root)
unfolding along_header
opens-array k done root edit ns =
    along_found k [] edit (insert k (open_array done ns) root) (open_array done ns) (get_node-insert k (open_array done ns) root)
    ∙ wrapped k (open_array done) root ns (edit ns)

-- ---- the lines of a table

pair_defined : (path : List (List ℕ)) (write : Nodes → Nodes) (k : List ℕ) (d : Data) (ns : Nodes) → Opens path write → get_node k ns ≡ None
    → define (write ns, path) (([], k), key_value d) ≡ Some (write (insert k (value d) ns), path)
unfolding define along_dots
pair_defined path write k d ns opens none =
    ap (option_map (λ (root : Nodes). (root, path))) (opens (put ([], k) d) ns ∙ ap (option_map write) (at_key_new k (key_value d) ns none))

pub path_none : (path : List (String Global)) → (length path == 0) ≡ true → path_view path ≡ []
path_none [] h = refl
path_none (part ∷ path) h = absurd (grind (arith, nat_tests))

key_then : (s at_sign k : List ℕ) → key s ≡ Some (([], k), at_sign) → (first at_sign == 61) ≡ true → key_equals s ≡ Some (([], k), skip_ws (drop 1 at_sign))
unfolding key_equals
key_then s at_sign k read is = rw (read, is) refl

-- a key with its value, on a line of their own
pub pair_line : (s at_sign rest k : List ℕ) (d : Data) → (first s == 91) ≡ false → key s ≡ Some (([], k), at_sign) → (first at_sign == 61) ≡ true
    → val 80 (skip_ws (drop 1 at_sign)) ≡ Some (d, rest) → ends_line (skip_ws rest) ≡ true → line s ≡ Some ((([], k), key_value d), rest)
unfolding line expression
pair_line s at_sign rest k d other read is value_read ends =
    let pair = keyval_ok (val 80) s (skip_ws (drop 1 at_sign)) rest ([], k) d (key_then s at_sign k read is) value_read in
    rw (other, pair, ends) refl

-- the lines before `rest` are the values of a table, after any header
abbrev pub Filled : List ℕ → Members → List ℕ → Type 0
Filled text ms rest =
    (path : List (List ℕ)) (write : Nodes → Nodes) → Opens path write → (n : ℕ) → length text < n
    → (m : ℕ) × (length rest < m) × (lines n (write no_nodes, path) text ≡ lines m (write (held ms), path) rest)

not_empty : (xs : List ℕ) → 0 < length xs → (length xs == 0) ≡ false
not_empty [] h = absurd (omega arith)
not_empty (x ∷ xs) h = grind (arith, nat_tests)

pub filled_more : (text rest after k : List ℕ) (d : Data) (ms more : Members) → Filled text ms rest → (length (skip_blank rest) == 0) ≡ false
    → line (skip_blank rest) ≡ Some ((([], k), key_value d), after) → length after < length (skip_blank rest)
    → get_node k (held ms) ≡ None → held more ≡ insert k (value d) (held ms) → Filled text more after
filled_more text rest after k d ms more filled other read shorter none written path write opens n h =
    let (m, room, loop) = filled path write opens n h in
    let defined : define (write (held ms), path) (([], k), key_value d) ≡ Some (write (held more), path) =
    pair_defined path write k d (held ms) opens none ∙ rw written refl in
    (m - 1, omega (arith, skip_within rest), loop ∙ lines_more m (write (held ms), path) (write (held more), path) rest (([], k), key_value d) after (omega arith) other read defined)

pub filled_end : (text rest : List ℕ) (ms : Members) → Filled text ms rest → FillsTable text ms (skip_blank rest)
filled_end text rest ms filled path write opens n h =
    let (m, room, loop) = filled path write opens n h in (m, rest, room, refl, loop)

-- ---- headers

board_expression : (rest : List ℕ) → expression (codes "[board]" ++ rest) ≡ Some ((([], codes "board"), std_table), rest)
unfolding toml_parser_on_literals header_key expression
board_expression rest = refl

step_expression : (rest : List ℕ) → expression (codes "[[step]]" ++ rest) ≡ Some ((([], codes "step"), array_table), rest)
unfolding toml_parser_on_literals header_key expression
step_expression rest = refl

board_line : (rest : List ℕ) → ends_line (skip_ws rest) ≡ true → line (codes "[board]" ++ rest) ≡ Some ((([], codes "board"), std_table), rest)
unfolding line
board_line rest ends = rw (board_expression rest, ends) refl

step_line : (rest : List ℕ) → ends_line (skip_ws rest) ≡ true → line (codes "[[step]]" ++ rest) ≡ Some ((([], codes "step"), array_table), rest)
unfolding line
step_line rest ends = rw (step_expression rest, ends) refl

board_defined : (ns : Nodes) → get_node (codes "board") ns ≡ None
    → define (ns, []) (([], codes "board"), std_table) ≡ Some (insert (codes "board") (open_table header no_nodes) ns, codes "board" ∷ [])
unfolding define along_header
board_defined ns none = rw (at_key_new (codes "board") std_table ns none) refl

-- ---- the head of a document

no_bom : (text : List ℕ) → (first text == 0xEF) ≡ false → skip_bom text ≡ text
unfolding skip_bom
no_bom text plain = rw plain refl

pub head_opens : (text after rest : List ℕ) (ms inner all : Members) → (first text == 0xEF) ≡ false → FillsTable text ms (codes "[board]" ++ after) → ends_line (skip_ws after) ≡ true
    → FillsTable after inner rest → get_node (codes "board") (held ms) ≡ None → get_node (codes "step") (held ms) ≡ None
    → held all ≡ insert (codes "board") (value (table inner)) (held ms) → OpensDocument text all rest
head_opens text after rest ms inner all plain fills ends more no_board no_step written n h =
    let (m, before, room, is, loop) = fills [] (λ ns. ns) opens-root n h in
    let write : Nodes → Nodes = λ ns. insert (codes "board") (open_table header ns) (held ms) in
    let path : List (List ℕ) = codes "board" ∷ [] in
    let long : length (codes "[board]" ++ after) ≡ 7 + length after = length-append (codes "[board]") after in
    let same : length (codes "[board]" ++ after) ≡ length (skip_blank before) = ap length is in
    let other : (length (skip_blank before) == 0) ≡ false = not_empty (skip_blank before) (omega (arith, long, same)) in
    let read : line (skip_blank before) ≡ Some ((([], codes "board"), std_table), after) = ap line (sym is) ∙ board_line after ends in
    let (m', before', room', is', loop') = more path write (opens-table (codes "board") (held ms)) (m - 1) (omega (arith, long, same, skip_within before)) in
    let root = write (held inner) in
    let closed : close root ≡ all =
    close-insert (codes "board") (open_table header (held inner)) (value (table inner)) (held ms) (ap table (close-held inner))
    ∙ ap close (sym written) ∙ close-held all in
    let none : get_node (codes "step") root ≡ None = get_node-other (codes "step") (codes "board") _ (held ms) refl ∙ no_step in (
      root,
      path,
      closed,
      none,
      (m', before', room', is', ap (lines n (no_nodes, [])) (no_bom text plain) ∙ loop ∙ lines_more m (held ms, []) (write no_nodes, path) before (([], codes "board"), std_table) after (omega arith) other read (board_defined (held ms) no_board) ∙ loop'),
    )

pub none_of : {A : Type 0} (o : Option A) → is_some o ≡ false → o ≡ None
none_of None h = refl
none_of (Some x) h = absurd (false≢true (sym h))

-- a head whose tables are maps opens a document
pub head_read : (text start after rest : List ℕ) (es inner all : List Entry) (k : String Global) (v : Value) → (first text == 0xEF) ≡ false
    → FillsTable text (members_view es) start → start ≡ codes "[board]" ++ after → ends_line (skip_ws after) ≡ true → FillsTable after (members_view inner) rest
    → string_bytes k ≡ codes "board" → view v ≡ table (members_view inner)
    → lookup (is_at (λ x. slice_cmp nat_cmp (codes "step") (string_bytes x))) es ≡ None → lookup (is_at (λ x. slice_cmp nat_cmp (string_bytes k) (string_bytes x))) es ≡ None
    → all ≡ insert_entry string_cmp es k v → OpensDocument text (members_view all) rest
head_read text start after rest es inner all k v plain fills front ends more key_is seen no_step no_board written =
    let there : FillsTable text (members_view es) (codes "[board]" ++ after) = subst (λ (at : List ℕ). FillsTable text (members_view es) at) front fills in
    let board_missing : get_node (codes "board") (held (members_view es)) ≡ None =
    subst (λ (name : List ℕ). get_node name (held (members_view es)) ≡ None) key_is (held-missing (string_bytes k) es no_board) in
    let put_in : held (members_view all) ≡ insert (codes "board") (value (table (members_view inner))) (held (members_view es)) =
    ap (λ (xs : List Entry). held (members_view xs)) written ∙ held-insert k v es
    ∙ ap (λ (name : List ℕ). insert name (value (view v)) (held (members_view es))) key_is
    ∙ ap (λ (d : Data). insert (codes "board") (value d) (held (members_view es))) seen in
    head_opens text after rest (members_view es) (members_view inner) (members_view all) plain there ends more board_missing (held-missing (codes "step") es no_step) put_in

-- ---- the steps

abbrev pub step_header : Expression
step_header = (([], codes "step"), array_table)

-- the document after the tables of these steps
abbrev pub IsBehind : Nodes → Items → Document → Type 0
IsBehind root items doc =
    (define doc step_header ≡ Some (insert (codes "step") (open_array items no_nodes) root, codes "step" ∷ [])) × (close doc.0 ≡ with_steps root items)

-- the lines before `start` are those of these steps, after any root without steps
abbrev pub Added : List ℕ → List Step → List ℕ → Type 0
Added text steps start =
    (root : Nodes) (path : List (List ℕ)) → get_node (codes "step") root ≡ None → (n : ℕ) (rest : List ℕ) → length rest < n → text ≡ skip_blank rest
    → (items : Items) × (are_tables items ≡ true) × (steps_of 1 items ≡ Ok steps)
    × (doc : Document) × IsBehind root items doc × GoesOn n (root, path) rest doc start

first_header : (root : Nodes) (path : List (List ℕ)) → get_node (codes "step") root ≡ None
    → define (root, path) step_header ≡ Some (insert (codes "step") (open_array no_items no_nodes) root, codes "step" ∷ [])
unfolding define along_header
first_header root path none = rw (at_key_new (codes "step") array_table root none) refl

next_header : (root : Nodes) (items : Items) (ms : Members)
    → define (insert (codes "step") (open_array items (held ms)) root, codes "step" ∷ []) step_header
    ≡ Some (insert (codes "step") (open_array (push_item items (table ms)) no_nodes) root, codes "step" ∷ [])
unfolding define along_header
next_header root items ms =
    let k = codes "step" in
    let old = insert k (open_array items (held ms)) root in
    let new = insert k (open_array (push_item items (table (close (held ms)))) no_nodes) root in
    let written : new ≡ replace k (open_array (push_item items (table (close (held ms)))) no_nodes) old = sym (replace-insert k _ _ root) in
    let found : at_key k array_table old ≡ Some new = at_key_ok k array_table old new (open_array items (held ms)) _ (get_node-insert k _ root) refl written in
    ap (option_map (λ (ns : Nodes). (ns, k ∷ []))) found
    ∙ ap (λ (all : Members). Some (insert k (open_array (push_item items (table all)) no_nodes) root, k ∷ [])) (close-held ms)

pushed : (root : Nodes) (items : Items) (d : Data) → close (insert (codes "step") (value (array (push_item items d))) root) ≡ with_steps root (push_item items d)
pushed root no_items d = refl
pushed root (item e rest) d = refl

are_tables-push : (items : Items) (ms : Members) → are_tables items ≡ true → are_tables (push_item items (table ms)) ≡ true
are_tables-push no_items ms h = refl
are_tables-push (item x rest) ms h =
    let (here, more) = and_parts (is_some (as_table x)) (are_tables rest) h in
    rw (here, are_tables-push rest ms more) refl

abbrev followed : Result (List Step) Fault → Step → Result (List Step) Fault
followed (Ok steps) step = Ok (steps ++ step ∷ [])
followed (Err e) step = Err e

followed_first : (n : ℕ) (o : Option Step) (r : Result (List Step) Fault) (step : Step) → with_first n o (followed r step) ≡ followed (with_first n o r) step
followed_first n None r step = refl
followed_first n (Some x) (Ok steps) step = refl
followed_first n (Some x) (Err e) step = refl

steps_of-push : (n : ℕ) (items : Items) (d : Data) (step : Step) → step_of d ≡ Some step → steps_of n (push_item items d) ≡ followed (steps_of n items) step
steps_of-push n no_items d step is = rw is refl
steps_of-push n (item x rest) d step is = rw (steps_of-push (n + 1) rest d step is) (followed_first n (step_of x) (steps_of (n + 1) rest) step)

pub added_none : (text : List ℕ) → Added text [] text
added_none text root path none n rest room is = (no_items, refl, refl, (root, path), (first_header root path none, refl), (n, rest, room, is, refl))

pub added_more : (text start after next : List ℕ) (steps more : List Step) (step : Step) (ms : Members) → Added text steps start
    → start ≡ codes "[[step]]" ++ after → ends_line (skip_ws after) ≡ true → FillsTable after ms next
    → Some step ≡ step_in ms → more ≡ steps ++ step ∷ [] → Added text more next
added_more text start after next steps more step ms added front ends fills is all root path none n rest room begins =
    let (items, tables, read, doc, behind, (m, before, left, at, loop)) = added root path none n rest room begins in
    let write : Nodes → Nodes = λ ns. insert (codes "step") (open_array items ns) root in
    let here : List (List ℕ) = codes "step" ∷ [] in
    let shown : skip_blank before ≡ codes "[[step]]" ++ after = sym at ∙ front in
    let long : length (skip_blank before) ≡ 8 + length after = ap length shown ∙ length-append (codes "[[step]]") after in
    let other : (length (skip_blank before) == 0) ≡ false = not_empty (skip_blank before) (omega (arith, long)) in
    let header_read : line (skip_blank before) ≡ Some (step_header, after) = ap line shown ∙ step_line after ends in
    let (m', before', left', at', loop') = fills here write (opens-array (codes "step") items root) (m - 1) (omega (arith, long, skip_within before)) in
    let closed : close (write (held ms)) ≡ with_steps root (push_item items (table ms)) =
    close-insert (codes "step") (open_array items (held ms)) (value (array (push_item items (table ms)))) root (ap (λ x. array (push_item items (table x))) (close-held ms))
    ∙ pushed root items (table ms) in
    let step_is : step_of (table ms) ≡ Some step = sym is in
    let steps_are : steps_of 1 (push_item items (table ms)) ≡ Ok more = steps_of-push 1 items (table ms) step step_is ∙ rw (read, all) refl in (
      push_item items (table ms),
      are_tables-push items ms tables,
      steps_are,
      (write (held ms), here),
      (next_header root items ms, closed),
      (m', before', left', at', loop ∙ lines_more m doc (write no_nodes, here) before step_header after (omega arith) other header_read behind.0 ∙ loop'),
    )

pub added_end : (text start : List ℕ) (steps : List Step) → Added text steps start → length start ≡ 0 → AddsSteps text steps
added_end text start steps added empty root path none n rest room begins =
    let (items, tables, read, doc, behind, (m, before, left, at, loop)) = added root path none n rest room begins in
    (items, tables, read, doc, loop ∙ lines_end m doc before (omega arith) (ap length (sym at) ∙ empty), behind.1)

-- ---- the whole

-- the board and the limit, by what is at the keys
abbrev opened_by : Option ℕ → Bool → Option Data → Option Data → Option (Board × ℕ)
opened_by given keys board limit =
    if keys then option_and_then (λ b. option_map (λ l. (b, l)) (option_and_then (limit_with given) (own_limit limit))) (option_and_then board_of (option_and_then as_table board))
    else None

opening_of-steps : (given : Option ℕ) (root : Nodes) (items : Items) → opening_of given (with_steps root items) ≡ opening_of given (close root)
opening_of-steps given root no_items = refl
opening_of-steps given root (item d ds) =
    let x : Node = value (array (item d ds)) in
    let k = codes "step" in
    let keys : has_only document_keys (close (insert k x root)) ≡ has_only document_keys (close root) = has_only-insert document_keys k x root refl in
    let board : get_member (codes "board") (close (insert k x root)) ≡ get_member (codes "board") (close root) =
    get_member-close (codes "board") (insert k x root) ∙ ap (option_map close_node) (get_node-other (codes "board") k x root refl) ∙ sym (get_member-close (codes "board") root) in
    let limit : get_member (codes "limit") (close (insert k x root)) ≡ get_member (codes "limit") (close root) =
    get_member-close (codes "limit") (insert k x root) ∙ ap (option_map close_node) (get_node-other (codes "limit") k x root refl) ∙ sym (get_member-close (codes "limit") root) in
    ap (λ (b : Bool). opened_by given b (get_member (codes "board") (close (insert k x root))) (get_member (codes "limit") (close (insert k x root)))) keys
    ∙ ap (λ (o : Option Data). opened_by given (has_only document_keys (close root)) o (get_member (codes "limit") (close (insert k x root)))) board
    ∙ ap (λ (o : Option Data). opened_by given (has_only document_keys (close root)) (get_member (codes "board") (close root)) o) limit

step_tables-steps : (root : Nodes) (items : Items) → get_node (codes "step") root ≡ None → are_tables items ≡ true → step_tables (get_member (codes "step") (with_steps root items)) ≡ Some items
step_tables-steps root no_items none tables =
    ap step_tables (get_member-close (codes "step") root ∙ ap (option_map close_node) none)
step_tables-steps root (item d ds) none tables =
    let x : Node = value (array (item d ds)) in
    ap step_tables (get_member-close (codes "step") (insert (codes "step") x root) ∙ ap (option_map close_node) (get_node-insert (codes "step") x root))
    ∙ ap (λ (b : Bool). if b then Some (item d ds) else None) tables

script_opened-is : (given : Option ℕ) (ms : Members) (items : Items) (steps : List Step) (board : Board) (limit : ℕ)
    → opening_of given ms ≡ Some (board, limit) → step_tables (get_member (codes "step") ms) ≡ Some items → steps_of 1 items ≡ Ok steps
    → script_of given ms ≡ Ok (record { board = board; limit = limit; steps = steps })
script_opened-is given ms items steps board limit opened tables read =
    ap (λ (o : Option (Board × ℕ)). script_opened o (step_tables (get_member (codes "step") ms))) opened
    ∙ ap (λ (o : Option Items). script_opened (Some (board, limit)) o) tables
    ∙ ap (λ (r : Result (List Step) Fault). script_with (board, limit) r) read

-- the document of a head and the steps after it
pub scenario_read : (given : Option ℕ) (text start : List ℕ) (ms : Members) (steps : List Step) (board : Board) (limit : ℕ)
    → OpensDocument text ms start → AddsSteps start steps → Some (board, limit) ≡ opening_of given ms
    → document_script given (parse_document text) ≡ Ok (record { board = board; limit = limit; steps = steps })
scenario_read given text start ms steps board limit opens adds opened =
    let (root, path, closed, none, (m, rest, room, at, loop)) = opens (suc (length text)) (omega arith) in
    let (items, tables, read, doc, ended, made) = adds root path none m rest room at in
    let parsed : parse_document text ≡ Some (close doc.0) = document_some text doc (loop ∙ ended) in
    rw (parsed, made) (script_opened-is given (with_steps root items) items steps board limit
    (opening_of-steps given root items ∙ rw closed (sym opened)) (step_tables-steps root items none tables) read)
