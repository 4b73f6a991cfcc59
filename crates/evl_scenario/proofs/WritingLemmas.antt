-- The text of a scenario as it grows.
use Rattle.std.proofs.Common.{arith, ◌≡◌, ℕ, ◌+◌, ◌<◌, ◌≤◌, ◌==◌, true, List, [], ◌∷◌, ◌++◌, length, get_or, drop, map, codes, decimal, String, string_bytes, None, Ok, refl, sym, subst, ap, ◌∙◌, append_assoc}
use Rattle.std.proofs.lemmas.Bool.{and_parts}
use Rattle.std.proofs.lemmas.Bool.Decides.{nat_tests}
use Rattle.std.proofs.lemmas.List.{drop_more}
use Rattle.std.proofs.lemmas.Str.{IsUtf8-string_bytes}
use Rattle.std.specs.Str.{IsUtf8}
use Rattle.toml.specs.Data.{string}
use Rattle.evl_base.specs.Board.{board_fits}
use Rattle.evl_base.specs.declared.board.Board.{Board}
use Rattle.evl_base.specs.declared.entry.Entry.{Entry}
use Rattle.evl_scenario.specs.Boards.{is_limit}
use Rattle.evl_scenario.specs.Scenarios.{scenario_of}
use Rattle.evl_scenario.specs.Widths.{BoardHolds, StepFits, StepsFit}
use Rattle.evl_scenario.specs.Writings.{whole_number, ring_data, kind_text, list_data, pairs_text, opening_text, table_text, tables_text, step_of_entry, script_of_history, has_keys}
use Rattle.evl_scenario.proofs.RoundTrip.{scenario_read_back}

-- the head of a scenario, in the parts in which it is written
pub opening_written : (board : Board) (limit : ℕ) (old head sems flags xbufs mutexes groups : List ℕ)
    → head ≡ old ++ (codes "limit = " ++ (decimal limit ++ (codes "\n\n[board]\nthreads = " ++ (decimal board.threads ++ codes "\n"))))
    → sems ≡ head ++ pairs_text ((codes "sems", list_data whole_number board.sems.items) ∷ [])
    → flags ≡ sems ++ pairs_text ((codes "flags", list_data whole_number board.flags.items) ∷ [])
    → xbufs ≡ flags ++ pairs_text ((codes "xbufs", list_data ring_data board.xbufs.items) ∷ [])
    → mutexes ≡ xbufs ++ pairs_text ((codes "mutexes", list_data (λ kind. string (kind_text kind)) board.mutexes.items) ∷ [])
    → groups ≡ mutexes ++ pairs_text ((codes "groups", list_data whole_number board.groups.items) ∷ [])
    → groups ≡ old ++ opening_text board limit
opening_written board limit old head sems flags xbufs mutexes groups a b c d e f =
    f ∙ rw (e, d, c, b, a) (simp append_assoc refl)

-- ---- one entry after the other

module _ (entries : List Entry) (i : ℕ) (entry : Entry) (inside : i < length entries) (at : entry ≡ get_or entries i entry) where
  rest_at : drop i entries ≡ entry ∷ drop (i + 1) entries
  rest_at = drop_more entries i entry inside ∙ ap (λ (e : Entry). e ∷ drop (i + 1) entries) (sym at)

  -- what is written, before what the rest comes to, is the whole
  pub rest_kept : (old new all : List ℕ) → new ≡ old ++ table_text (step_of_entry entry) → old ++ tables_text (map step_of_entry (drop i entries)) ≡ all
      → new ++ tables_text (map step_of_entry (drop (i + 1) entries)) ≡ all
  rest_kept old new all wrote kept =
      ap (λ (t : List ℕ). t ++ tables_text (map step_of_entry (drop (i + 1) entries))) wrote
      ∙ append_assoc old (table_text (step_of_entry entry)) (tables_text (map step_of_entry (drop (i + 1) entries)))
      ∙ ap (λ (es : List Entry). old ++ tables_text (map step_of_entry es)) (sym rest_at) ∙ kept

  -- the steps fit, where the rest of them do
  pub fit_kept : {P : Type 0} → StepFits (step_of_entry entry) → (StepsFit (map step_of_entry (drop i entries)) → P)
      → StepsFit (map step_of_entry (drop (i + 1) entries)) → P
  fit_kept here kept more =
      let Q : List Entry → Type 0 = λ es. StepsFit (map step_of_entry es) in
      kept (subst Q (sym rest_at) (here, more))

-- ---- the whole

none_there : (staxes : List ℕ) → (length staxes == 0) ≡ true → staxes ≡ []
none_there [] h = refl
none_there (limit ∷ staxes) h = absurd (grind (arith, nat_tests))

-- a text that was written is read back
pub written_read_back : {Z : Type 0} (text : String Z) (board : Board) (limit : ℕ) (entries : List Entry) → has_keys board ≡ true → BoardHolds board → is_limit limit ≡ true
    → StepsFit (map step_of_entry entries) → length (string_bytes text) ≤ 1048576 → string_bytes text ≡ opening_text board limit ++ tables_text (map step_of_entry entries)
    → scenario_of None (string_bytes text) ≡ Ok (script_of_history board limit entries)
written_read_back text board limit entries keys holds l fit short wrote =
    let (fits, none) = and_parts (board_fits board) (length board.staxes.items == 0) keys in
    let steps = map step_of_entry entries in
    let all = opening_text board limit ++ tables_text steps in
    let utf8 : IsUtf8 all = subst IsUtf8 wrote (IsUtf8-string_bytes text) in
    let few : length all ≤ 1048576 = omega (arith, short, ap length wrote) in
    ap (scenario_of None) wrote ∙ scenario_read_back board limit steps fits (none_there board.staxes.items none) holds l fit utf8 few
