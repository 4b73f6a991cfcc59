use Rattle.std.proofs.Common.{◌≡◌, ◌∙◌, sym}
use Rattle.lab_kinds.specs.declared.kinds.TextKind.TheVariants.{Scenario, Orders, Callers, Bank}
use Rattle.lab_draws.proofs.DrawLemmas.{others_told}
use Rattle.lab_draws.proofs.draw_faults.tell_neither.Goals as goal

pub returns-in-Orders-clause-line : goal.returns-in-Orders-clause-line
returns-in-Orders-clause-line g c =
    others_told c.args.kind c.args.line c.args.fault _ _ c.tell_other.result (λ h. let both : Orders ≡ Scenario = sym c.in-Orders.is ∙ h in cc) c.tell_other.ensures.line

pub returns-in-Callers-clause-line : goal.returns-in-Callers-clause-line
returns-in-Callers-clause-line g c =
    others_told c.args.kind c.args.line c.args.fault _ _ c.tell_other-in-Callers.result (λ h. let both : Callers ≡ Scenario = sym c.in-Callers.is ∙ h in cc) c.tell_other-in-Callers.ensures.line

pub returns-in-Bank-clause-line : goal.returns-in-Bank-clause-line
returns-in-Bank-clause-line g c =
    others_told c.args.kind c.args.line c.args.fault _ _ c.tell_other-in-Bank.result (λ h. let both : Bank ≡ Scenario = sym c.in-Bank.is ∙ h in cc) c.tell_other-in-Bank.ensures.line
