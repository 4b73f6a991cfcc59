use Rattle.std.proofs.Common.{◌<◌, length, refl, arith}
use Rattle.evl_sync.proofs.LikenessLaws.{alike-at, alike-more}
use Rattle.evl_kernel.proofs.elements.likeness.are_xbufs_alike.Goals as goal

pub returns-then-not-is_like-clause-other : goal.returns-then-not-is_like-clause-other
returns-then-not-is_like-clause-other g c same =
    let within : c.loop-n.n < length c.args.theirs.now = omega (arith, c.loop-n-test.true, c.if-ours-theirs.false) in
    c.if-not-is_like.ensures.other (alike-at c.args.ours.now c.args.theirs.now c.loop-n.n c.index-ours-n.result c.index-theirs-n.result within c.index-ours-n.is c.index-theirs-n.is same)

pub loop-n-preserved : goal.loop-n-preserved
loop-n-preserved g c =
    let within : c.loop-n.n < length c.args.theirs.now = omega (arith, c.loop-n-test.true, c.if-ours-theirs.false) in
    alike-more c.args.ours.now c.args.theirs.now c.loop-n.n c.index-ours-n.result c.index-theirs-n.result c.loop-n-test.true within c.index-ours-n.is c.index-theirs-n.is (c.if-not-is_like.ensures.alike refl) c.loop-n.invariant
