-- The text of a scenario is read back as this scenario.
use Rattle.std.proofs.Common.{arith, ◌≡◌, ℕ, ◌<◌, ◌≤◌, ◌^◌, Bool, true, false, List, [], ◌∷◌, ◌++◌, length, map, codes, Option, Some, None, Result, Ok, refl, ap, ◌∙◌, append_assoc}
use Rattle.std.proofs.lemmas.Bool.{and_parts, le-ltb, ltb-true}
use Rattle.std.proofs.lemmas.Bool.Decides.{nat_tests}
use Rattle.std.proofs.lemmas.Str.{is_utf8-from_IsUtf8}
use Rattle.std.specs.List.{list_all}
use Rattle.std.specs.Str.{IsUtf8}
use Rattle.toml.specs.Data.{Data, string}
use Rattle.toml.specs.Parse.{skip_bom, parse_document}
use Rattle.toml.specs.Text.{IsLinesText}
use Rattle.toml.specs.View.{items_of}
use Rattle.toml.proofs.ReadLines.{AllPrinted}
use Rattle.evl_base.specs.Board.{board_fits}
use Rattle.evl_base.specs.Limits.{count_fits, sizes_fit, kind_fits, percent_fits, is_within}
use Rattle.evl_base.specs.declared.board.Board.{Board}
use Rattle.evl_base.specs.declared.mutex_kind.MutexKind.{MutexKind}
use Rattle.evl_scenario.specs.Boards.{is_limit}
use Rattle.evl_scenario.specs.Scenarios.{Script, scenario_of, document_script}
use Rattle.evl_scenario.specs.Widths.{BoardHolds, StepsFit}
use Rattle.evl_scenario.specs.Writings.{whole_number, ring_data, kind_text, board_pairs, pairs_text, tables_text, scenario_text}
use Rattle.evl_scenario.specs.declared.steps.Step.{Step}
use Rattle.evl_scenario.proofs.LinesPrinted.{IsWritten, AreWritten, ArePairs, pair_line, pairs_lines, header_line, pair_printed, pairs_printed, printed-append, lines_read}
use Rattle.evl_scenario.proofs.NodesRead.{opening_expressions, steps_expressions, script_members, script_made}
use Rattle.evl_scenario.proofs.ScenarioPrinted.{half-written, word-written, byte-written, steps_lines, steps_printed}
use Rattle.evl_scenario.proofs.ScenarioRead.{is_word, all_words, Within, within_limits, kind_width, board_read, script_read}
use Rattle.evl_scenario.proofs.TextsRead.{kind-plain}

-- ---- lists

module _ {A : Type 0} (n : ℕ) (data_of : A → Data) (fits : A → Bool) (writes : (x : A) → fits x ≡ true → IsWritten n (data_of x)) where
  each_written : (xs : List A) → list_all fits xs ≡ true → AreWritten n (items_of (map data_of xs))
  each_written [] h = tt
  each_written (x ∷ xs) h =
      let (here, more) = and_parts (fits x) (list_all fits xs) h in
      (writes x here, each_written xs more)

word-fits : (n : ℕ) → is_word n ≡ true → IsWritten 1 (whole_number n)
word-fits n h = word-written n (ltb-true n (2 ^ 32) h)

count-fits : (n : ℕ) → count_fits n ≡ true → IsWritten 1 (whole_number n)
count-fits n h = let small : n < 2 ^ 32 = grind (arith, nat_tests) in word-written n small

percent-fits : (n : ℕ) → percent_fits n ≡ true → IsWritten 1 (whole_number n)
percent-fits n h = let small : n < 2 ^ 8 = grind (arith, nat_tests) in byte-written n small

ring-fits : (sizes : ℕ × ℕ) → sizes_fit sizes ≡ true → IsWritten 1 (ring_data sizes)
ring-fits sizes h =
    let (inbound, outbound) = and_parts (is_within 1 256 sizes.0) (is_within 1 256 sizes.1) h in
    let first : sizes.0 < 2 ^ 16 = grind (arith, nat_tests) in
    let second : sizes.1 < 2 ^ 16 = grind (arith, nat_tests) in
    (half-written sizes.0 first, (half-written sizes.1 second, tt))

kind-fits : (k : MutexKind) → kind_fits k ≡ true → IsWritten 1 (string (kind_text k))
kind-fits k h = kind-plain k (kind_width k h)

-- ---- the board

board_written : (board : Board) → Within board → BoardHolds board → ArePairs (board_pairs board)
board_written board w holds =
    let threads : board.threads < 2 ^ 16 = ltb-true board.threads (2 ^ 16) w.threads in (
      (refl, half-written board.threads threads),
      (
        (refl, each_written 1 whole_number count_fits count-fits board.sems.items w.sems),
        (
          (refl, each_written 1 whole_number is_word word-fits board.flags.items (all_words board.flags.items holds.5)),
          (
            (refl, each_written 1 ring_data sizes_fit ring-fits board.xbufs.items w.xbufs),
            (
              (refl, each_written 1 (λ kind. string (kind_text kind)) kind_fits kind-fits board.mutexes.items w.mutexes),
              ((refl, each_written 1 whole_number percent_fits percent-fits board.groups.items w.groups), tt),
            ),
          ),
        ),
      ),
    )

-- ---- the text

module _ (board : Board) (limit : ℕ) (steps : List Step) (small : limit < 2 ^ 32) (pairs : ArePairs (board_pairs board)) (fit : StepsFit steps) where
  abbrev script : Script
  script = record { board = board; limit = limit; steps = steps }

  text_lines : IsLinesText false false (opening_expressions board limit ++ steps_expressions steps) (scenario_text script)
  text_lines =
      let inner = pairs_text (board_pairs board) ++ tables_text steps in
      let below_header = pairs_lines true (board_pairs board) (steps_expressions steps) (tables_text steps) pairs (steps_lines steps fit) in
      let first = pairs_text ((codes "limit", whole_number limit) ∷ []) in
      let whole_text : scenario_text script ≡ first ++ (codes "\n[board]\n" ++ inner) = simp append_assoc refl in (
        first,
        codes "\n[board]\n" ++ inner,
        whole_text,
        pair_line false (codes "limit", whole_number limit) (refl, word-written limit small),
        (codes "\n[board]\n", inner, refl, header_line (codes "board") refl, below_header),
      )

  text_printed : AllPrinted (opening_expressions board limit ++ steps_expressions steps)
  text_printed =
      let first = pair_printed (codes "limit", whole_number limit) (refl, word-written limit small) in
      printed-append (opening_expressions board limit) (steps_expressions steps) (first.0, (omega arith, pairs_printed (board_pairs board) pairs)) (steps_printed steps fit)

  -- the reader of TOML has the table of the scenario
  pub text_parsed : parse_document (scenario_text script) ≡ Some (script_members board limit steps)
  unfolding skip_bom
  text_parsed =
      let (doc, ran, made) = script_made board limit steps in
      lines_read (scenario_text script) (opening_expressions board limit ++ steps_expressions steps) doc text_lines text_printed refl ran ∙ ap Some made

limit_small : (limit : ℕ) → is_limit limit ≡ true → limit < 2 ^ 32
limit_small limit h = grind (arith, nat_tests)

read_through : (given : Option ℕ) (text : List ℕ) (r : Result Script _) → length text ≤ 1048576 → IsUtf8 text → document_script given (parse_document text) ≡ r → scenario_of given text ≡ r
read_through given text r short utf8 h = rw (le-ltb 1048576 (length text) short, is_utf8-from_IsUtf8 text utf8) h

-- the text of a scenario is read back as this scenario
pub scenario_read_back : (board : Board) (limit : ℕ) (steps : List Step) → board_fits board ≡ true → board.staxes.items ≡ [] → BoardHolds board → is_limit limit ≡ true → StepsFit steps
    → IsUtf8 (scenario_text (record { board = board; limit = limit; steps = steps })) → length (scenario_text (record { board = board; limit = limit; steps = steps })) ≤ 1048576
    → scenario_of None (scenario_text (record { board = board; limit = limit; steps = steps })) ≡ Ok (record { board = board; limit = limit; steps = steps })
scenario_read_back board limit steps fits none holds l fit utf8 short =
    let pairs = board_written board (within_limits board fits) holds in
    let parsed = text_parsed board limit steps (limit_small limit l) pairs fit in
    read_through None _ _ short utf8 (ap (document_script None) parsed ∙ script_read board limit steps (board_read board fits none holds) l fit)
