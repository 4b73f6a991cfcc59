use Rattle.std.proofs.Common.{◌<◌, length, refl, sym, ap, ◌∙◌, arith}
use Rattle.std.proofs.lemmas.Bool.{false≢true}
use Rattle.std.proofs.lemmas.List.{take_all}
use Rattle.evl_mutex.specs.Views.{mutex_of, mutexes_of}
use Rattle.evl_mutex.proofs.ListLaws.{count-map}
use Rattle.evl_mutex.proofs.LikenessLaws.{alike-at, alike-more}
use Rattle.evl_mutex.proofs.mutex_record.likeness.are_alike.Goals as goal

pub returns-then-not-is_like-clause-other : goal.returns-then-not-is_like-clause-other
returns-then-not-is_like-clause-other g c same =
    let within : c.loop-n.n < length c.args.theirs.now = omega (arith, c.loop-n-test.true, c.if-ours-theirs.false) in
    c.if-not-is_like.ensures.other (alike-at mutex_of mutex_of c.args.ours.now c.args.theirs.now c.loop-n.n c.index-ours-n.result c.index-theirs-n.result within c.index-ours-n.is c.index-theirs-n.is same)

pub loop-n-preserved : goal.loop-n-preserved
loop-n-preserved g c =
    let within : c.loop-n.n < length c.args.theirs.now = omega (arith, c.loop-n-test.true, c.if-ours-theirs.false) in
    alike-more mutex_of mutex_of c.args.ours.now c.args.theirs.now c.loop-n.n c.index-ours-n.result c.index-theirs-n.result c.loop-n-test.true within c.index-ours-n.is c.index-theirs-n.is (c.if-not-is_like.ensures.alike refl) c.loop-n.invariant

pub returns-then-ours-theirs-clause-alike : goal.returns-then-ours-theirs-clause-alike
returns-then-ours-theirs-clause-alike g c e = absurd (false≢true e)

pub returns-then-ours-theirs-clause-other : goal.returns-then-ours-theirs-clause-other
returns-then-ours-theirs-clause-other g c same =
    absurd (c.if-ours-theirs.true (sym (count-map mutex_of c.args.ours.now) ∙ ap length same ∙ count-map mutex_of c.args.theirs.now))

pub loop-n-init : goal.loop-n-init
loop-n-init g c = refl

pub returns-then-not-is_like-clause-alike : goal.returns-then-not-is_like-clause-alike
returns-then-not-is_like-clause-alike g c e = absurd (false≢true e)

pub returns-clause-alike : goal.returns-clause-alike
returns-clause-alike g c e =
    let ours = take_all c.loop-n.n (mutexes_of c.args.ours.now) (omega (arith, c.loop-n-test.false, count-map mutex_of c.args.ours.now)) in
    let theirs = take_all c.loop-n.n (mutexes_of c.args.theirs.now) (omega (arith, c.loop-n-test.false, c.if-ours-theirs.false, count-map mutex_of c.args.theirs.now)) in
    sym ours ∙ c.loop-n.invariant ∙ theirs

pub returns-clause-other : goal.returns-clause-other
returns-clause-other g c same = refl
