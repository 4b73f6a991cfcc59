use Rattle.std.proofs.Common.{arith, sym}
use Rattle.lab_drawing.proofs.PageLaws.{length_taken, take_short}
use Rattle.lab_drawing.proofs.pages.first_page.Goals as goal

pub slice_bounds-result-end : goal.slice_bounds-result-end
slice_bounds-result-end c = length_taken c.args.marks.now 2000 (omega (arith, c.if-marks-le-PAGE.false))

pub returns-then-marks-le-PAGE : goal.returns-then-marks-le-PAGE
returns-then-marks-le-PAGE c = record { page = sym (take_short c.args.marks.now 2000 c.if-marks-le-PAGE.true) }
