use Rattle.std.proofs.Common.{◌∙◌, sym, ap}
use Rattle.evl_scenario.specs.Scenarios.{Script}
use Rattle.lab_live.proofs.OpeningLaws.{is_driven}
use Rattle.lab_live.proofs.session.open_scenarios.Goals as goal

pub invariant_of-result : goal.invariant_of-result
invariant_of-result c =
    let opened = c.in-Ok.ensures.opened in
    let same = c.into_parts-own.ensures.board ∙ sym (ap (λ (s : Script). s.board) c.requires.same) ∙ sym c.into_parts-board.ensures.board in (
      c.make_steps.ensures.limit ∙ opened.limit_is,
      c.requires.copied ∙ sym (c.make_steps.ensures.keeps.bank ∙ opened.bank_is),
      is_driven _ _ c.args.bank.items _ c.in-Ok.machine c.make_steps.new.machine.history same opened c.make_steps.ensures.keeps,
    )
