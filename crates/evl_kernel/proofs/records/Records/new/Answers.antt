use Rattle.std.proofs.Common.{refl}
use Rattle.evl_kernel.proofs.state.OpeningLaws.{opened_records, allowed-new, ranks-new, timers_allowed-new, sound-opening_clock, waits-new}
use Rattle.evl_kernel.specs.state.Records.{RecordsView}
use Rattle.evl_kernel.proofs.records.Records.new.Goals as goal

pub invariant_of-result : goal.invariant_of-result
invariant_of-result g c =
    let board = c.args.board.now in let made = c.in-Ok.parts in let told = c.in-Ok.ensures in
    let r : RecordsView g.row.C.Denot = record { threads = board.threads; elements = made.0; bank = c.in_ok-bank.bank.items; lines = made.2; clock = made.3; sched = c.in_ok-scheduling.scheduling.1; waits = made.1.items } in
    record {
      allowed = allowed-new r told.lines;
      timers_allowed = timers_allowed-new r board.threads told.clock;
      clock_sound = sound-opening_clock r board.threads told.clock;
      ranks = ranks-new r board c.requires.fits told.base c.in_ok-scheduling.ensures.sched;
      waits = waits-new board made.0.elements made.1.items c.requires.fits told.opened told.waits;
    }

pub returns-in-Ok-clause-opened : goal.returns-in-Ok-clause-opened
returns-in-Ok-clause-opened g c =
    let told = c.in-Ok.ensures in
    opened_records g.C.Handler.declared g.C.Handler.plan c.args.board.now c.args.bank.items _ refl told.opened told.waits c.in_ok-bank.ensures.places told.lines told.clock c.in_ok-scheduling.ensures.sched
