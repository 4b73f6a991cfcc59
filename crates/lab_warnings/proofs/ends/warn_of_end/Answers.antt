use Rattle.std.proofs.Common.{ℕ, ◌∙◌, ◌++◌, List, ap, length, string_bytes}
use Rattle.evl_base.specs.declared.entry.Entry.{Entry}
use Rattle.evl_kernel.specs.state.KernelViews.{KernelView}
use Rattle.evl_plans.specs.declared.planned.Planned.{Planned}
use Rattle.lab_warnings.specs.Warnings.{end_lines, full_line}
use Rattle.lab_warnings.proofs.LineLaws.{behind_three}
use Rattle.lab_warnings.proofs.ends.warn_of_end.Goals as goal

pub returns : goal.returns
unfolding end_lines
returns c =
    let own = c.history.ensures.entries ∙ ap (λ (k : KernelView Planned). k.history.entries) c.kernel.ensures in
    let before = string_bytes c.args.told.now in
    let one = c.in_ok-warn_of_limit.ensures ∙ ap (λ (n : ℕ). before ++ full_line c.args.name.now n c.args.asked) (c.len-entries.ensures ∙ ap (λ (es : List Entry). length es) own) in
    behind_three before _ _ _ _ _ _ _ _ one c.in_ok-warn_of_waits.ensures c.in_ok-warn_of_pending.ensures c.in_ok-warn_of_pending-2.ensures
