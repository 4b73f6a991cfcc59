use Rattle.std.proofs.Common.{refl}
use Rattle.evl_kernel.specs.state.Records.{RecordsView}
use Rattle.evl_kernel.specs.state.RecordsInside.{records_view}
use Rattle.evl_kernel.proofs.state.ResetLaws.{keeps_reset, opened_again, sound_reset}
use Rattle.evl_kernel.proofs.records.Records.reset.Goals as goal

pub invariant_of-self : goal.invariant_of-self
invariant_of-self g c =
    let r = records_view c.self.inside in
    let new : RecordsView g.row.C.Denot = record { threads = r.threads; elements = c.reset.new.self; bank = r.bank; lines = c.reset-2.new.self; clock = c.reset-3.new.self; sched = c.reset-4.new.self; waits = c.clear_waits.new.waits.items } in
    let home = rw (← c.self.view_is) at c.bring_home.ensures in
    sound_reset g.C.Handler.declared g.C.Handler.plan c.args.board.now c.args.self.now r new c.requires.shape home.stands home.comes
    refl refl c.reset.ensures.opened c.reset-2.ensures.opening c.reset-3.ensures.opening c.reset-4.ensures.fresh c.clear_waits.ensures.waits c.self.invariant c.reset.ensures.base

pub returns-clause-opened : goal.returns-clause-opened
returns-clause-opened g c =
    let r = records_view c.self.inside in
    let new : RecordsView g.row.C.Denot = record { threads = r.threads; elements = c.reset.new.self; bank = r.bank; lines = c.reset-2.new.self; clock = c.reset-3.new.self; sched = c.reset-4.new.self; waits = c.clear_waits.new.waits.items } in
    let home = rw (← c.self.view_is) at c.bring_home.ensures in
    opened_again g.C.Handler.declared g.C.Handler.plan c.args.board.now c.args.self.now r new c.requires.shape home.stands home.comes
    refl refl c.reset.ensures.opened c.reset-2.ensures.opening c.reset-3.ensures.opening c.reset-4.ensures.fresh c.clear_waits.ensures.waits c.self.invariant
    c.requires.by_plan c.requires.places home.lines home.timers

pub returns-clause-stands : goal.returns-clause-stands
returns-clause-stands g c =
    let r = records_view c.self.inside in
    let new : RecordsView g.row.C.Denot = record { threads = r.threads; elements = c.reset.new.self; bank = r.bank; lines = c.reset-2.new.self; clock = c.reset-3.new.self; sched = c.reset-4.new.self; waits = c.clear_waits.new.waits.items } in
    let home = rw (← c.self.view_is) at c.bring_home.ensures in
    keeps_reset g.C.Handler.declared g.C.Handler.plan c.args.board.now c.args.self.now r new c.requires.shape home.stands home.comes
    refl refl c.reset.ensures.opened c.reset-2.ensures.opening c.reset-3.ensures.opening c.reset-4.ensures.fresh c.clear_waits.ensures.waits c.self.invariant
