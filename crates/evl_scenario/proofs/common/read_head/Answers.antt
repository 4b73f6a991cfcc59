use Rattle.std.proofs.Common.{◌≡◌, ◌==◌, false, sym, ◌∙◌, arith}
use Rattle.std.proofs.lemmas.Grind.{common_steps}
use Rattle.toml_parser.specs.Lexical.{first}
use Rattle.toml.proofs.Views.{view-Table}
use Rattle.evl_scenario.proofs.CommonLaws.{head_read, none_of}
use Rattle.evl_scenario.proofs.common.read_head.Goals as goal

pub returns-in-Ok-None : goal.returns-in-Ok-None
returns-in-Ok-None c =
    let plain : (first c.args.text.now == 0xEF) ≡ false = grind (arith, common_steps) in
    head_read c.args.text.now c.in_ok-table.rest.now c.in_ok-behind.behind.now c.in_ok-board.start.now c.in_ok-table.table.entries c.in_ok-board.board.entries _ c.in-Ok.key _ plain
    c.in_ok-table.ensures.fills c.in_ok-behind.ensures.front c.in_ok-behind.ensures.ends c.in_ok-board.ensures.fills c.in-Ok.ensures.ok
    (view-Table c.in_ok-board.board) (none_of _ (sym c.contains_key.ensures ∙ c.if-contains_key.false)) (sym c.in-Ok-None.ensures.old ∙ c.in-Ok-None.field-0-is) c.in-Ok-None.ensures.entries
