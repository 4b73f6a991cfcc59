use Rattle.evl_scenario.proofs.WritingLemmas.{opening_written}
use Rattle.evl_scenario.proofs.writing.write_opening.Goals as goal

pub returns : goal.returns
returns g c =
    opening_written c.args.board.now c.args.limit _ _ _ _ _ _ _
    c.in_ok-write.ensures.bytes
    (rw c.as_slice.ensures.value at c.in_ok-write_list_pair.ensures)
    (rw c.as_slice-2.ensures.value at c.in_ok-write_list_pair-2.ensures)
    (rw c.as_slice-3.ensures.value at c.in_ok-write_list_pair-3.ensures)
    (rw c.as_slice-4.ensures.value at c.in_ok-write_list_pair-4.ensures)
    (rw c.as_slice-5.ensures.value at c.in_ok-write_list_pair-5.ensures)
