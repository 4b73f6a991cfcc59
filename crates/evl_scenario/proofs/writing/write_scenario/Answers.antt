use Rattle.std.proofs.Common.{List, ℕ, ◌++◌, map, sym, ap, ◌∙◌}
use Rattle.evl_scenario.specs.Writings.{step_of_entry, tables_text}
use Rattle.evl_scenario.proofs.WritingLemmas.{written_read_back}
use Rattle.evl_scenario.proofs.writing.write_scenario.Goals as goal

pub returns-in-Ok-write_entries-clause-reads_back : goal.returns-in-Ok-write_entries-clause-reads_back
returns-in-Ok-write_entries-clause-reads_back g c =
    let tables = tables_text (map step_of_entry c.args.entries.now) in
    let opened = rw c.new-text.ensures.bytes at c.in-Ok.ensures in
    written_read_back c.write_entries.new.text c.args.board.now c.args.limit c.args.entries.now
    (sym c.has_all_keys.ensures ∙ c.if-not-has_all_keys.false) c.know_board.ensures (sym c.is_limit_in_range.ensures ∙ c.if-not-is_limit_in_range.false)
    c.in-Ok-write_entries.ensures.fit c.in-Ok-write_entries.ensures.short
    (c.in-Ok-write_entries.ensures.text ∙ ap (λ (t : List ℕ). t ++ tables) opened)
