use Rattle.std.proofs.Common.{None}
use Rattle.std.proofs.KnownBytes.{Appends-nil, Appends-trans}
use Rattle.lab_reports.specs.declared.differences.Difference.{Difference}
use Rattle.lab_plays.proofs.CompareLemmas.{apart_more}
use Rattle.lab_plays.proofs.compares.tell_differences.Goals as goal

pub loop-difference-init : goal.loop-difference-init
loop-difference-init g c = Appends-nil _

pub loop-difference-preserved : goal.loop-difference-preserved
loop-difference-preserved g c =
    let none : Difference = record { line = 0; stored = None; made = None } in
    let more = apart_more c.args.name.now c.args.differences.now c.loop-difference.difference-index none c.loop-difference-test.true in
    rw more (Appends-trans _ _ _ _ _ c.loop-difference.invariant c.in_ok-tell_difference.ensures.text)
