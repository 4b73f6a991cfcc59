use Rattle.evl_kernel.specs.state.ElementsViews.{ElementsView}
use Rattle.evl_kernel.proofs.calls.MutexCalls.{released-step}
use Rattle.evl_kernel.proofs.elements.Elements.release.Goals as goal

pub returns-clause-step : goal.returns-clause-step
returns-clause-step g c =
    let v : ElementsView = record { elements = record { sems = c.self.inside.sems.items; flags = c.self.inside.flags.items; xbufs = c.self.inside.xbufs.items; mutexes = c.self.inside.owners.mutexes }; base = c.self.inside.owners.base } in
    rw (← c.self.view_is) (released-step v c.release_noting.new.self c.args.mutex.0 c.args.thread.0 c.release_noting.result c.release_noting.ensures.release).done

pub returns-clause-served : goal.returns-clause-served
returns-clause-served g c =
    let v : ElementsView = record { elements = record { sems = c.self.inside.sems.items; flags = c.self.inside.flags.items; xbufs = c.self.inside.xbufs.items; mutexes = c.self.inside.owners.mutexes }; base = c.self.inside.owners.base } in
    rw (← c.self.view_is) (released-step v c.release_noting.new.self c.args.mutex.0 c.args.thread.0 c.release_noting.result c.release_noting.ensures.release).served

pub returns-clause-refused : goal.returns-clause-refused
returns-clause-refused g c =
    let v : ElementsView = record { elements = record { sems = c.self.inside.sems.items; flags = c.self.inside.flags.items; xbufs = c.self.inside.xbufs.items; mutexes = c.self.inside.owners.mutexes }; base = c.self.inside.owners.base } in
    rw (← c.self.view_is) (released-step v c.release_noting.new.self c.args.mutex.0 c.args.thread.0 c.release_noting.result c.release_noting.ensures.release).refused

pub returns-clause-base : goal.returns-clause-base
returns-clause-base g c =
    let v : ElementsView = record { elements = record { sems = c.self.inside.sems.items; flags = c.self.inside.flags.items; xbufs = c.self.inside.xbufs.items; mutexes = c.self.inside.owners.mutexes }; base = c.self.inside.owners.base } in
    rw (← c.self.view_is) (released-step v c.release_noting.new.self c.args.mutex.0 c.args.thread.0 c.release_noting.result c.release_noting.ensures.release).base

pub returns-clause-noted : goal.returns-clause-noted
returns-clause-noted g c = rw (← c.self.view_is) c.release_noting.ensures.noted
