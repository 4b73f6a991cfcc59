use Rattle.std.proofs.Common.{◌≡◌, inl, inr, arith}
use Rattle.lab_callers_text.specs.Readings.{steps_as}
use Rattle.lab_callers_text.proofs.ReadingLaws.{marks_end, steps_end}
use Rattle.lab_callers_text.proofs.reading.steps_of.Goals as goal

pub returns : goal.returns
returns c =
    let all = c.loop-mark.all.items in
    let wanted = steps_as c.args.marks.items c.args.steps.items in
    let left = c.loop-mark.mark-iterator in
    elim c.in-None.ensures.steps as (λ v. all ≡ wanted) [
      | inl ended ↦ marks_end all wanted left.a.rest.items left.b.rest.items (omega (arith, left.a.rest.ok.0, ended.1.0)) c.loop-mark.invariant
      | inr ended ↦ steps_end all wanted left.a.rest.items left.b.rest.items (omega (arith, left.b.rest.ok.0, ended.1.0)) c.loop-mark.invariant
    ]
