use Rattle.std.proofs.Common.{◌<◌, length, map, option_map, refl, sym, ap, ◌∙◌, arith}
use Rattle.std.proofs.lemmas.Bool.{false≢true}
use Rattle.std.proofs.lemmas.List.{length-map, take_all}
use Rattle.evl_clock.specs.Names.{named_timer}
use Rattle.evl_pipeline.proofs.LikenessLaws.{alike-at, alike-more}
use Rattle.evl_clock.proofs.clock.likeness.are_timers_alike.Goals as goal

pub returns-then-not-is_place_alike-clause-other : goal.returns-then-not-is_place_alike-clause-other
returns-then-not-is_place_alike-clause-other g c same =
    let within : c.loop-n.n < length c.args.theirs.now = omega (arith, c.loop-n-test.true, c.if-ours-theirs.false) in
    c.if-not-is_place_alike.ensures.other (alike-at (option_map (named_timer g.C.Named.name)) c.args.ours.now c.args.theirs.now c.loop-n.n c.index-ours-n.result c.index-theirs-n.result c.loop-n-test.true within c.index-ours-n.is c.index-theirs-n.is same)

pub loop-n-preserved : goal.loop-n-preserved
loop-n-preserved g c =
    let within : c.loop-n.n < length c.args.theirs.now = omega (arith, c.loop-n-test.true, c.if-ours-theirs.false) in
    alike-more (option_map (named_timer g.C.Named.name)) c.args.ours.now c.args.theirs.now c.loop-n.n c.index-ours-n.result c.index-theirs-n.result c.loop-n-test.true within c.index-ours-n.is c.index-theirs-n.is (c.if-not-is_place_alike.ensures.alike refl) c.loop-n.invariant

pub returns-then-ours-theirs-clause-alike : goal.returns-then-ours-theirs-clause-alike
returns-then-ours-theirs-clause-alike g c e = absurd (false≢true e)

pub returns-then-ours-theirs-clause-other : goal.returns-then-ours-theirs-clause-other
returns-then-ours-theirs-clause-other g c same =
    let f = option_map (named_timer g.C.Named.name) in
    absurd (c.if-ours-theirs.true (sym (length-map c.args.ours.now f) ∙ ap length same ∙ length-map c.args.theirs.now f))

pub loop-n-init : goal.loop-n-init
loop-n-init g c = refl

pub returns-then-not-is_place_alike-clause-alike : goal.returns-then-not-is_place_alike-clause-alike
returns-then-not-is_place_alike-clause-alike g c e = absurd (false≢true e)

pub returns-clause-alike : goal.returns-clause-alike
returns-clause-alike g c e =
    let f = option_map (named_timer g.C.Named.name) in
    let ours = take_all c.loop-n.n (map f c.args.ours.now) (omega (arith, c.loop-n-test.false, length-map c.args.ours.now f)) in
    let theirs = take_all c.loop-n.n (map f c.args.theirs.now) (omega (arith, c.loop-n-test.false, c.if-ours-theirs.false, length-map c.args.theirs.now f)) in
    sym ours ∙ c.loop-n.invariant ∙ theirs

pub returns-clause-other : goal.returns-clause-other
returns-clause-other g c same = refl
