use Rattle.std.proofs.Common.{ap, [], refl}
use Rattle.std.proofs.lemmas.List.{map_more}
use Rattle.lab_plays.proofs.PlayLemmas.{each_next, each_none}
use Rattle.lab_plays.proofs.states.tell_each.Goals as goal

pub loop-file-init : goal.loop-file-init
loop-file-init g c = (each_none _ _ _ _, λ none. refl)

pub loop-file-preserved : goal.loop-file-preserved
loop-file-preserved g c =
    let kept = c.loop-file.invariant in
    let next = each_next _ _ _ _ _ _ _ _ _ _ _ _ _ _ kept.0 kept.1 c.in_ok-ended.ensures.told (λ no. ap g.I.Read.remaining (c.in_ok-ended.ensures.input no)) in
    rw (map_more (λ file. file.now) c.args.files.now c.loop-file.file-index (record { ref_ptr = (0, 0); now = [] }) c.loop-file-test.true, c.worse-status.ensures) next
