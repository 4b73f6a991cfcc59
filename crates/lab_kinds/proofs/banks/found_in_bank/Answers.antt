use Rattle.lab_faults.proofs.CheckLaws.{second}
use Rattle.lab_kinds.specs.Banks.{bank_faults}
use Rattle.lab_kinds.proofs.banks.found_in_bank.Goals as goal

pub returns : goal.returns
unfolding bank_faults
returns c = rw (← c.in_ok-items.ensures.headings, ← c.in_ok-items.ensures.keys, ← c.in_ok-rows.ensures)
    (second (record { text = c.args.text; found = c.new.result }) c.check_headings.new.finding c.check_keys.new.finding _ _ c.new.ensures.items
    (rw c.as_slice.ensures.value at c.in_ok-check_headings.ensures)
    (rw (c.in_ok-check_headings.ensures.text, c.as_slice-2.ensures.value, c.as_slice-3.ensures.value) at c.in_ok-check_keys.ensures.told))
