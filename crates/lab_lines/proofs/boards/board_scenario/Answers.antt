use Rattle.lab_lines.specs.Boards.{board_text}
use Rattle.lab_lines.proofs.SaidLaws.{three_parts}
use Rattle.lab_lines.proofs.boards.board_scenario.Goals as goal

pub returns : goal.returns
unfolding board_text
returns c =
    three_parts _ _ _ _ _ _ _ c.new-text.ensures.items c.in_ok-put_all_before.ensures c.in_ok-extend_from_slice.ensures.items c.in_ok-put_all_in.ensures
