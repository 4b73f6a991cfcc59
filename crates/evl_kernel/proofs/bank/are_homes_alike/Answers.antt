use Rattle.std.proofs.Common.{◌≡◌, ◌<◌, length, refl, arith}
use Rattle.evl_kernel.specs.state.Callbacks.{is_home}
use Rattle.evl_pipeline.proofs.LikenessLaws.{alike-at, alike-more}
use Rattle.evl_kernel.proofs.bank.are_homes_alike.Goals as goal

pub returns-then-not-are_both_home-clause-other : goal.returns-then-not-are_both_home-clause-other
returns-then-not-are_both_home-clause-other g c same =
    let within : c.loop-i.i < length c.args.other.now = omega (arith, c.loop-i-test.true, c.if-one-other.false) in
    c.if-not-are_both_home.ensures.other (alike-at is_home c.args.one.now c.args.other.now c.loop-i.i c.index-one-i.result c.index-other-i.result c.loop-i-test.true within c.index-one-i.is c.index-other-i.is same)

pub loop-i-preserved : goal.loop-i-preserved
loop-i-preserved g c =
    let within : c.loop-i.i < length c.args.other.now = omega (arith, c.loop-i-test.true, c.if-one-other.false) in
    alike-more is_home c.args.one.now c.args.other.now c.loop-i.i c.index-one-i.result c.index-other-i.result c.loop-i-test.true within c.index-one-i.is c.index-other-i.is (c.if-not-are_both_home.ensures.alike refl) c.loop-i.invariant
