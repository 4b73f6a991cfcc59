use Rattle.std.proofs.Common.{◌∙◌, ◌++◌, List, ℕ, ap, codes, string_bytes}
use Rattle.evl_base.specs.Reply.{outcome_text}
use Rattle.evl_scenario.specs.Lines.{step_text}
use Rattle.evl_scenario.specs.Writings.{step_of_entry}
use Rattle.lab_warnings.proofs.LineLaws.{behind}
use Rattle.lab_warnings.proofs.refusals.write_reason.Goals as goal

pub returns : goal.returns
returns c =
    let entry = c.args.entry.now in
    let mid = string_bytes c.write_step.new.told in
    behind (string_bytes c.args.told.now) mid (string_bytes c.write.new.self) (step_text (step_of_entry entry)) (codes " is refused: " ++ outcome_text entry.reply)
    c.in_ok-write_step.ensures
    (c.in_ok-write.ensures.bytes ∙ ap (λ (reason : List ℕ). mid ++ (codes " is refused: " ++ reason)) c.reason_of-reason.ensures)
