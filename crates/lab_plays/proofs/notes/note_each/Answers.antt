use Rattle.std.proofs.Common.{[], map}
use Rattle.std.proofs.lemmas.List.{map_more}
use Rattle.evl_plans.specs.Told.{handler_of}
use Rattle.lab_plays.proofs.NoteLemmas.{each_next, each_none}
use Rattle.lab_plays.proofs.notes.note_each.Goals as goal

pub loop-name-init : goal.loop-name-init
loop-name-init g c = each_none _ _

pub loop-name-preserved : goal.loop-name-preserved
loop-name-preserved g c =
    let next = each_next (map handler_of c.args.plans.now) _ _ _ _ _ _ _ c.loop-name.invariant c.in_ok-ended.ensures.each in
    rw (map_more (λ name. name.now) c.args.names.now c.loop-name.name-index (record { ref_ptr = (0, 0); now = [] }) c.loop-name-test.true, c.worse-status.ensures) next
