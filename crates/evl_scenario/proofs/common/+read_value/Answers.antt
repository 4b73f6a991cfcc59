use Rattle.std.proofs.Common.{◌≡◌, ◌==◌, ◌-◌, ◌<◌, true, false, length, le_refl, ◌∙◌, rules, arith}
use Rattle.std.proofs.lemmas.Grind.{common_steps}
use Rattle.toml_parser.specs.Lexical.{first, skip_blank}
use Rattle.toml.specs.Parse.{val}
use Rattle.toml.proofs.Turns.{items_end, items_more, val_atom, val_open_array}
use Rattle.toml.proofs.Views.{items_view-push, view-Array}
use Rattle.evl_scenario.proofs.common.+read_value.Goals as goal

pub read_list-items-init : goal.read_list-items-init
read_list-items-init c c' = (search rules, le_refl _, λ n h. (n, h, rw c'.new-found.ensures.items))

pub read_list-returns-then-first-eq93-clause-value : goal.read_list-returns-then-first-eq93-clause-value
read_list-returns-then-first-eq93-clause-value c c' n h =
    let l = c'.items in
    let (m, room, loop) = l.invariant.2 n h in
    let closing : (first (skip_blank l.rest.now) == 93) ≡ true = grind (arith, common_steps) in
    loop ∙ items_end (val c'.args.depth) m _ l.rest.now (omega arith) closing ∙ rw (c'.skip.ensures.rest, c'.skip_blank-start.ensures.rest)

pub read_list-items-preserved : goal.read_list-items-preserved
read_list-items-preserved c c' =
    let l = c'.items in
    let start_is = c'.skip_blank-start.ensures.rest in
    let other : (first (skip_blank l.rest.now) == 93) ≡ false = grind (arith, common_steps) in
    let shorter = c'.in_ok-item.ensures.shorter in
    let within = c'.in_ok-rest.ensures.within in
    let before = c'.skip_blank-start.ensures.within in (
      search rules,
      omega (arith, l.invariant.1),
      λ n h.
          let (m, room, loop) = l.invariant.2 n h in
          (m - 1, omega arith, loop ∙ items_more (val c'.args.depth) m _ l.rest.now _ _ _ (omega arith) other (rw start_is at c'.in_ok-item.ensures.value) c'.in_ok-rest.ensures.value ∙ rw (c'.in-Ok.ensures.items, items_view-push l.found.items c'.in_ok-item.item)),
    )

pub read_value-returns-then-byte-ne123-clause-value : goal.read_value-returns-then-byte-ne123-clause-value
read_value-returns-then-byte-ne123-clause-value c c' =
    let s = c'.args.s.now in
    let a : (first s == 91) ≡ false = grind (arith, common_steps) in
    let b : (first s == 123) ≡ false = grind (arith, common_steps) in
    rw (val_atom c'.args.depth s a b) c'.read_atom.ensures.value

pub read_value-returns-clause-value : goal.read_value-returns-clause-value
read_value-returns-clause-value c c' =
    let s = c'.args.s.now in
    let some : 0 < c'.args.depth = omega arith in
    let a : (first s == 91) ≡ true = grind (arith, common_steps) in
    val_open_array c'.args.depth s some a ∙ rw (← c'.skip.ensures.rest, c'.in_ok-items.ensures.value (length s) c'.skip.ensures.shorter, view-Array c'.in_ok-items.items)
