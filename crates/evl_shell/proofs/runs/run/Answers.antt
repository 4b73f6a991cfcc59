use Rattle.std.proofs.Common.{◌∙◌, inl, inr, sym, ap, Err}
use Rattle.evl_scenario.specs.declared.faults.Fault.{Fault}
use Rattle.evl_scenario.proofs.FaultLemmas.{scenario_of-fault}
use Rattle.evl_shell.specs.Faults.{is_write_fault}
use Rattle.evl_shell.proofs.SinkLemmas.{WritesPart-nothing, WritesLines-nothing}
use Rattle.evl_shell.proofs.PassLemmas.{refused-fails}
use Rattle.evl_shell.proofs.runs.run.Goals as goal

pub returns-in-Err-clause-memory : goal.returns-in-Err-clause-memory
returns-in-Err-clause-memory g c = λ _. WritesLines-nothing _ _

pub returns-in-Err-clause-write : goal.returns-in-Err-clause-write
returns-in-Err-clause-write g c = λ _. WritesPart-nothing _ _

pub returns-in-Err-clause-failed : goal.returns-in-Err-clause-failed
returns-in-Err-clause-failed g c =
    c.requires.working ∙ elim c.in-Err.ensures.err [
      | inl memory ↦ sym (ap (λ (f : Fault). is_write_fault (Err f)) memory)
      | inr refused ↦ sym (refused-fails c.in-Err.fault (scenario_of-fault c.args.limit c.args.text.now c.in-Err.fault refused))
    ]
