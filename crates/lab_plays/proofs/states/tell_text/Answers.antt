use Rattle.std.proofs.Common.{map}
use Rattle.evl_plans.specs.Told.{handler_of}
use Rattle.lab_kinds.specs.Kinds.{kind_of}
use Rattle.lab_plays.proofs.StateLemmas.{fault_told, whole_told}
use Rattle.lab_plays.proofs.states.tell_text.Goals as goal

pub returns-in-Ok-clause-told : goal.returns-in-Ok-clause-told
returns-in-Ok-clause-told g c =
    whole_told _ (map handler_of c.args.plans.now) c.args.name.now (kind_of c.args.text.now) c.in-Ok.scenario _ _ _ _ _ c.tell_whole.result c.in-Ok.ensures.ok c.tell_whole.ensures.told

pub returns-in_ok-tell_fault_by-in-Err-clause-told : goal.returns-in_ok-tell_fault_by-in-Err-clause-told
returns-in_ok-tell_fault_by-in-Err-clause-told g c =
    rw (← c.in_ok-kind-in-Err.ensures)
    (fault_told (map handler_of c.args.plans.now) c.args.name.now c.in_ok-kind-in-Err.kind _ c.in-Err.fault _ _ _ c.in-Err.ensures.err c.in_ok-tell_fault_by-in-Err.ensures.line)
