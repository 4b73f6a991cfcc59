use Rattle.std.proofs.Common.{sym, ◌∙◌}
use Rattle.evl_kernel.specs.state.ElementsViews.{ElementsView, owners_of}
use Rattle.evl_kernel.proofs.calls.MutexCalls.{claimed-step, ring-told, unrefused}
use Rattle.evl_kernel.proofs.elements.Elements.claim.Goals as goal

pub returns-clause-ring : goal.returns-clause-ring
returns-clause-ring g c = λ refused.
    let v : ElementsView = c.args.self.now in
    let o = owners_of v in
    let none = unrefused o c.args.mutex.0 c.args.thread.0 c.args.owner.0 c.requires.away c.requires.open c.requires.differs c.requires.few c.requires.named in
    ring-told o c.args.mutex.0 c.args.thread.0 c.args.owner.0 none c.claim_noting.result (rw (← c.self.view_is) c.claim_noting.ensures.answer) (sym c.is_ok.ensures.value ∙ refused)

pub returns-clause-noted : goal.returns-clause-noted
returns-clause-noted g c = rw (← c.self.view_is) c.claim_noting.ensures.noted

pub returns-clause-step : goal.returns-clause-step
returns-clause-step g c = λ begun.
    let v : ElementsView = record { elements = record { sems = c.self.inside.sems.items; flags = c.self.inside.flags.items; xbufs = c.self.inside.xbufs.items; mutexes = c.self.inside.owners.mutexes }; base = c.self.inside.owners.base } in
    rw (← c.self.view_is) (claimed-step v c.claim_noting.new.self c.args.mutex.0 c.args.thread.0 c.args.owner.0 c.claim_noting.result c.claim_noting.ensures.claim (rw (← c.self.view_is) at c.requires.open) (sym c.is_ok.ensures.value ∙ begun))
