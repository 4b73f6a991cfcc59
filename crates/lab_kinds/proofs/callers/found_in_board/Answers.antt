use Rattle.lab_faults.proofs.CheckLaws.{second}
use Rattle.lab_kinds.proofs.callers.found_in_board.Goals as goal

pub returns : goal.returns
returns c = rw (← c.in_ok-items.ensures.headings, ← c.in_ok-items.ensures.keys)
    (second (record { text = c.args.text; found = c.new.result }) c.check_own_board.new.finding c.check_own_steps.new.finding _ _ c.new.ensures.items c.in_ok-check_own_board.ensures
    (rw (c.in_ok-check_own_board.ensures.text, c.as_slice.ensures.value) at c.in_ok-check_own_steps.ensures.told.told))
