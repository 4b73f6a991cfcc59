use Rattle.std.proofs.Common.{ap, subst, ◌∙◌}
use Rattle.evl_machine.specs.callers.Callers.{caller_by}
use Rattle.evl_machine.specs.callers.Handles.{CallerState, MachineState}
use Rattle.evl_core.specs.accounts.OneHistory.{AgreeOnLock, AgreeOnMutexes, AgreeOnStaxes, OneHistory}
use Rattle.evl_machine.proofs.machine.MachineOf.agree.Goals as goal

pub agree_by-requires-clause-machine : goal.agree_by-requires-clause-machine
agree_by-requires-clause-machine g c = (
  ap (λ (s : CallerState _). s.machine.id) c.one.view_is ∙ ap (λ (m : MachineState _). m.id) c.requires.machine.0,
  ap (λ (s : CallerState _). s.machine.id) c.other.view_is ∙ ap (λ (m : MachineState _). m.id) c.requires.machine.1,
)

pub agree_by-requires-clause-homes : goal.agree_by-requires-clause-homes
agree_by-requires-clause-homes g c = (
  ap (λ (s : CallerState _). s.machine.staxes) c.one.view_is ∙ ap (λ (m : MachineState _). m.staxes) c.requires.machine.0,
  ap (λ (s : CallerState _). s.machine.staxes) c.other.view_is ∙ ap (λ (m : MachineState _). m.staxes) c.requires.machine.1,
)

pub returns-clause-same : goal.returns-clause-same
returns-clause-same g c = (ap caller_by c.agree_by.ensures.same.0 ∙ c.one.view_is, ap caller_by c.agree_by.ensures.same.1 ∙ c.other.view_is)

pub returns-clause-kernel : goal.returns-clause-kernel
returns-clause-kernel g c = subst (λ (z : CallerState g.row.C.Denot × CallerState g.row.C.Denot). OneHistory z.0.account z.1.account) (λ i. (c.one.view_is i, c.other.view_is i)) c.agree_by.ensures.kernel

pub returns-clause-mutexes : goal.returns-clause-mutexes
returns-clause-mutexes g c = subst (λ (z : CallerState g.row.C.Denot × CallerState g.row.C.Denot). AgreeOnMutexes z.0.mutexes z.1.mutexes) (λ i. (c.one.view_is i, c.other.view_is i)) c.agree_by.ensures.mutexes

pub returns-clause-staxes : goal.returns-clause-staxes
returns-clause-staxes g c = subst (λ (z : CallerState g.row.C.Denot × CallerState g.row.C.Denot). AgreeOnStaxes z.0.staxes z.1.staxes) (λ i. (c.one.view_is i, c.other.view_is i)) c.agree_by.ensures.staxes

pub returns-clause-lock : goal.returns-clause-lock
returns-clause-lock g c = subst (λ (z : CallerState g.row.C.Denot × CallerState g.row.C.Denot). AgreeOnLock z.0.account.thread z.0.lock z.1.account.thread z.1.lock) (λ i. (c.one.view_is i, c.other.view_is i)) c.agree_by.ensures.lock
