use Rattle.std.proofs.Common.{◌∙◌, arith, sym}
use Rattle.lab_faults.proofs.StepLaws.{was_read, some_noted, none_noted}
use Rattle.lab_faults.proofs.steps.check_step.Goals as goal

pub returns-then-branch-clause-told : goal.returns-then-branch-clause-told
returns-then-branch-clause-told c = was_read c.args.number c.args.items.now c.args.finding.now (sym c.if-branch.true ∙ c.in_ok-is_step.ensures)

pub returns-then-len-before-clause-told : goal.returns-then-len-before-clause-told
returns-then-len-before-clause-told c =
    some_noted c.args.number c.args.items.now c.args.finding.now c.note_step.new.finding (sym c.if-branch.false ∙ c.in_ok-is_step.ensures)
    (rw c.first_byte-at.ensures at c.in_ok-note_step.ensures.told)
    (omega (arith, c.if-len-before.true, c.len-before.ensures, c.len.ensures))

pub returns-clause-told : goal.returns-clause-told
returns-clause-told c =
    none_noted c.args.number c.args.items.now c.args.finding.now c.note_step.new.finding _ (sym c.if-branch.false ∙ c.in_ok-is_step.ensures)
    (rw c.first_byte-at.ensures at c.in_ok-note_step.ensures.told)
    (omega (arith, c.if-len-before.false, c.len-before.ensures, c.len.ensures))
    (rw c.first_byte-at.ensures at c.in_ok-note_unread.ensures.told)
