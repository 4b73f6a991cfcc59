use Rattle.std.proofs.Common.{sym, ap, ◌∙◌, subst}
use Rattle.std.specs.Prelude.{⊤, MatchOption}
use Rattle.evl_kernel.specs.state.KernelViews.{KernelView}
use Rattle.evl_machine.specs.callers.Actors.{SeatedActor, acting}
use Rattle.evl_machine.specs.callers.Callers.{HasInHand}
use Rattle.evl_machine.specs.callers.Handles.{HeldState, MachineState, caller_of}
use Rattle.evl_core.specs.accounts.Seats.{account_of}
use Rattle.evl_machine.specs.mutex_locks.InWord.{Agrees, SaysTied}
use Rattle.evl_core.specs.rule.Known.{ceilings_of, lock_in, seen}
use Rattle.evl_machine.proofs.mutex_locks.InWords.{agreed_if, tied_if}
use Rattle.evl_machine.proofs.held.HeldOf.in_word.Goals as goal

pub look-requires : goal.look-requires
look-requires g c = record { machine = (sym (ap (λ (m : MachineState _). m.id) c.self.invariant.0), sym (ap (λ (m : MachineState _). m.first) c.self.invariant.0)) }

pub invariant_of-self : goal.invariant_of-self
invariant_of-self g c = subst (λ (a : SeatedActor _). HasInHand c.self.inside.machine.now a c.self.inside.kernel) (sym c.look.ensures.same) c.self.invariant

pub returns-clause-same : goal.returns-clause-same
returns-clause-same g c = ap (λ (a : SeatedActor _). record { caller = caller_of c.self.inside.machine.now (account_of (seen a.me)) (lock_in a.me.0) a.staxes (acting a).mutexes; kernel = c.self.inside.kernel }) c.look.ensures.same ∙ c.self.view_is

pub returns-clause-agrees : goal.returns-clause-agrees
returns-clause-agrees g c =
    subst (λ (k : KernelView _). MatchOption c.look.result ⊤ (Agrees k.history.state c.args.mutex.0)) (ap (λ (h : HeldState _). h.kernel) c.self.view_is)
    (agreed_if c.self.inside.machine.now c.self.inside.actor c.self.inside.kernel c.self.invariant c.args.mutex.0 c.look.result c.look.ensures.stood)

pub returns-clause-tied : goal.returns-clause-tied
returns-clause-tied g c =
    subst (λ (h : HeldState _). MatchOption c.look.result ⊤ (SaysTied (ceilings_of h.caller.machine.first) h.kernel.history.state c.args.mutex.0)) c.self.view_is
    (tied_if c.self.inside.machine.now c.self.inside.actor c.self.inside.kernel c.self.invariant c.args.mutex.0 c.look.result c.look.ensures.stood)
