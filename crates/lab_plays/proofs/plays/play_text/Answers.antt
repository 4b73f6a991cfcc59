use Rattle.std.proofs.Common.{◌≡◌, ◌∙◌, ℕ, List, Result, Ok, ap, sym, subst}
use Rattle.evl_scenario.specs.declared.faults.Fault.{Fault}
use Rattle.lab_kinds.specs.Kinds.{kind_of}
use Rattle.lab_plays.specs.Plays.{TellsPlayed}
use Rattle.lab_plays.proofs.PlayLemmas.{fault_told, told_as}
use Rattle.lab_plays.proofs.plays.play_text.Goals as goal

pub returns-in-Ok-clause-told : goal.returns-in-Ok-clause-told
returns-in-Ok-clause-told g c =
    let traced = c.in-Ok.ensures.traced ∙ ap (λ (t : List ℕ). Ok t) (sym c.as_slice.ensures.value) in
    told_as _ _ _ _ _ _ _ c.tell_trace.result
    (λ told h. subst (λ (r : Result (List ℕ) Fault). TellsPlayed c.args.playing.telling c.args.name.now (kind_of c.args.text.now) r told) (sym traced) h) c.tell_trace.ensures.told

pub returns-in_ok-tell_fault_by-in-Err-clause-told : goal.returns-in_ok-tell_fault_by-in-Err-clause-told
returns-in_ok-tell_fault_by-in-Err-clause-told g c =
    rw (← c.in_ok-kind-in-Err.ensures)
    (fault_told c.args.playing.telling c.args.name.now c.in_ok-kind-in-Err.kind _ c.in-Err.fault _ _ _ c.in-Err.ensures.refused c.in_ok-tell_fault_by-in-Err.ensures.line)
