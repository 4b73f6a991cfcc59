use Rattle.std.proofs.Common.{◌≡◌, ◌+◌, ◌++◌, drop}
use Rattle.std.specs.Prelude.{string_bytes}
use Rattle.lab_step_orders.specs.Moments.{IsMoment, seen_of}
use Rattle.lab_step_texts.specs.Lines.{lines_text}
use Rattle.lab_step_texts.proofs.lines.put_lines.Given as goal

abbrev pub invariant-loop-i : goal.invariant-loop-i
invariant-loop-i l =
    IsMoment l.crew l.at
    × (string_bytes l.text ++ lines_text l.crew (l.i + 1) (seen_of l.crew l.at) (drop l.i l.order) ≡ string_bytes l.initial.text ++ lines_text l.crew 1 (seen_of l.crew l.fn.start) l.order)
