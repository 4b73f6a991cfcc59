use Rattle.std.proofs.Common.{subst}
use Rattle.evl_words.specs.Looks as looks
use Rattle.evl_machine.specs.callers.Actors.{SeatedActor}
use Rattle.evl_core.specs.rule.Known.{first_of}
use Rattle.evl_core.specs.words.MutexTokens.{AreItsPlaces, IsAtTable}
use Rattle.evl_core.specs.accounts.OneHistory.{AgreeOnStaxes, AreTogether}
use Rattle.evl_machine.proofs.callers.Gathering.{joins_known}
use Rattle.evl_machine.proofs.callers.Seating.{splits_known}
use Rattle.evl_core.proofs.accounts.OneHistory.{two_known}
use Rattle.evl_machine.proofs.callers.Together.{kernel_together, lock_together, mutexes_together}
use Rattle.evl_machine.proofs.machine.MachineOf.agree_by.Goals as goal

pub look_together-requires-clause-splits : goal.look_together-requires-clause-splits
look_together-requires-clause-splits g c = splits_known c.self.inside.core.shared.key.value

pub look_together-requires-clause-joins : goal.look_together-requires-clause-joins
look_together-requires-clause-joins g c = joins_known c.self.inside.core.shared.key.value

pub look_together-requires-clause-tells : goal.look_together-requires-clause-tells
look_together-requires-clause-tells g c = two_known c.self.inside.core.shared.key.value

pub returns-clause-kernel : goal.returns-clause-kernel
returns-clause-kernel g c =
    kernel_together c.args.one.now c.args.other.now c.requires.rests.0 c.requires.rests.1
    (subst (λ (a : SeatedActor _). AreItsPlaces a.me.0 a.places) c.one.view_is c.one.invariant.places.its)
    (subst (λ (a : SeatedActor _). AreItsPlaces a.me.0 a.places) c.other.view_is c.other.invariant.places.its)
    (subst (λ (z : SeatedActor g.row.C.Denot × SeatedActor g.row.C.Denot). looks.AreTogether AreTogether z.0.me.0 z.1.me.0) (λ i. (c.one.view_is i, c.other.view_is i)) c.look_together.ensures.together)

pub returns-clause-lock : goal.returns-clause-lock
returns-clause-lock g c =
    lock_together c.args.one.now c.args.other.now
    (subst (λ (a : SeatedActor _). AreItsPlaces a.me.0 a.places) c.one.view_is c.one.invariant.places.its)
    (subst (λ (a : SeatedActor _). AreItsPlaces a.me.0 a.places) c.other.view_is c.other.invariant.places.its)
    (subst (λ (z : SeatedActor g.row.C.Denot × SeatedActor g.row.C.Denot). looks.AreTogether AreTogether z.0.me.0 z.1.me.0) (λ i. (c.one.view_is i, c.other.view_is i)) c.look_together.ensures.together)

pub returns-clause-mutexes : goal.returns-clause-mutexes
returns-clause-mutexes g c =
    mutexes_together c.args.one.now c.args.other.now
    (subst (λ (a : SeatedActor _). IsAtTable a.table (first_of a.me.0) a.table a.me.0 a.places) c.one.view_is c.one.invariant.places)
    (subst (λ (a : SeatedActor _). AreItsPlaces a.me.0 a.places) c.other.view_is c.other.invariant.places.its)
    (subst (λ (z : SeatedActor g.row.C.Denot × SeatedActor g.row.C.Denot). looks.AreTogether AreTogether z.0.me.0 z.1.me.0) (λ i. (c.one.view_is i, c.other.view_is i)) c.look_together.ensures.together)

pub returns-clause-staxes : goal.returns-clause-staxes
returns-clause-staxes g c =
    subst (λ (z : SeatedActor g.row.C.Denot × SeatedActor g.row.C.Denot). AgreeOnStaxes z.0.staxes z.1.staxes) (λ i. (c.one.view_is i, c.other.view_is i)) c.agree.ensures.agree
