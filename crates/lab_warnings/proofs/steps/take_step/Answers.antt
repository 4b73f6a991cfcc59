use Rattle.std.proofs.Common.{◌∙◌, ◌++◌, List, ap, flat_map, map, string_bytes}
use Rattle.evl_base.specs.declared.entry.Entry.{Entry}
use Rattle.evl_plans.specs.Told.{handler_of}
use Rattle.lab_warnings.specs.Warnings.{entry_lines}
use Rattle.lab_warnings.proofs.RunLaws.{stepped}
use Rattle.lab_warnings.proofs.steps.take_step.Goals as goal

pub returns-clause-told : goal.returns-clause-told
returns-clause-told c =
    let new = c.make_step.new.kernel in
    let second = string_bytes c.warn_of_installed.new.told in
    let lines = entry_lines c.args.name.now c.args.counts c.args.number c.spurious_so_far-before.result new.history.state in
    stepped c.args.kernel.now new c.args.step c.in_ok-make_step.ensures c.args.name.now c.args.counts (map handler_of c.args.bank.now) c.args.number c.spurious_so_far-before.result c.entry_count-start.result
    (string_bytes c.args.told.now) (string_bytes c.warn_of_reasons.new.told) second (string_bytes c.warn_of_entries.new.told)
    c.spurious_so_far-before.ensures c.entry_count-start.ensures c.in_ok-warn_of_reasons.ensures (rw c.callback_of.ensures at c.in_ok-warn_of_installed.ensures)
    (c.in_ok-warn_of_entries.ensures ∙ ap (λ (es : List Entry). second ++ flat_map lines es) (c.as_slice-since.ensures.value ∙ c.in_ok-since.ensures))
