use Rattle.std.proofs.Common.{◌∙◌}
use Rattle.evl_machine.proofs.callers.Gathering.{one_full, none_full, closes_known}
use Rattle.evl_machine.proofs.machine.MachineOf.close_with.Goals as goal

pub take-requires : goal.take-requires
take-requires g c =
    let e = c.close_with-closed.ensures in
    one_full _ _ (e.counts.1 ∙ c.self.invariant.1) e.values.1

pub free-requires : goal.free-requires
free-requires g c =
    let e = c.close_with-closed.ensures in
    none_full _ _ _ (c.take.ensures.others.2 ∙ (e.counts.1 ∙ c.self.invariant.1)) c.take.ensures.others.1

pub returns-clause-fits : goal.returns-clause-fits
returns-clause-fits g c =
    let f = c.close_with-closed.ensures.values.2 in
    closes_known _ _ _ c.args.kernel.history f.0 f.1.0 f.1.1 c.requires.taken
