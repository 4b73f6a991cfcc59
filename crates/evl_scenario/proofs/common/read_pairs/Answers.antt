use Rattle.std.proofs.Common.{◌≡◌, ◌==◌, false, List, length, le_refl, string_bytes, refl, sym, ap, ◌∙◌, rules, arith}
use Rattle.std.proofs.lemmas.Grind.{common_steps}
use Rattle.toml_parser.specs.Lexical.{first, skip_blank}
use Rattle.toml.specs.View.{view, members_view, table_view}
use Rattle.toml.proofs.Views.{Entry}
use Rattle.evl_scenario.specs.Common.{held}
use Rattle.evl_scenario.proofs.CommonLaws.{filled_end, filled_more, held-insert, held-missing}
use Rattle.evl_scenario.proofs.common.read_pairs.Goals as goal

pub pairs-init : goal.pairs-init
pairs-init c = (search rules, le_refl _, λ path write opens n h. (n, h, rw c.new-table.ensures.empty refl))

pub returns-then-is_empty-clause-fills : goal.returns-then-is_empty-clause-fills
returns-then-is_empty-clause-fills c =
    rw c.skip_blank-start.ensures.rest (filled_end c.args.s.now c.pairs.rest.now (table_view c.pairs.table) c.pairs.invariant.2)

pub pairs-preserved : goal.pairs-preserved
pairs-preserved c =
    let l = c.pairs in
    let start_is = c.skip_blank-start.ensures.rest in
    let before = c.skip_blank-start.ensures.within in
    let shorter = c.in_ok-key.ensures.shorter in
    let other : (length (skip_blank l.rest.now) == 0) ≡ false = grind (arith, common_steps) in
    let no_header : (first (skip_blank l.rest.now) == 91) ≡ false = grind (arith, common_steps) in
    let k = string_bytes c.in_ok-key.key in
    let missing = held-missing k l.table.entries (sym c.in-Ok-None.ensures.old ∙ c.in-Ok-None.field-0-is) in
    let written = ap (λ (es : List Entry). held (members_view es)) c.in-Ok-None.ensures.entries ∙ held-insert c.in_ok-key.key c.in_ok-key.value l.table.entries in (
      search rules,
      omega (arith, l.invariant.1),
      filled_more c.args.s.now l.rest.now c.in_ok-key.after.now k (view c.in_ok-key.value) (table_view l.table) _ l.invariant.2 other
          ((rw start_is at c.in_ok-key.ensures.value) no_header) (rw start_is at shorter) missing written,
    )
