use Rattle.std.proofs.Common.{◌∙◌, ◌≡◌, ◌<◌, length, arith}
use Rattle.std.proofs.lemmas.Bool.Decides.{eqb_tells}
use Rattle.lab_kinds.proofs.CallerLaws.{no_run, one_run}
use Rattle.lab_kinds.proofs.callers.check_own_steps.Goals as goal

pub loop-rest-preserved : goal.loop-rest-preserved
loop-rest-preserved c =
    let some : 0 < length c.loop-rest.rest.now = grind (arith, eqb_tells, c.is_empty.ensures, c.loop-rest-test.true) in
    record {
      text = c.in_ok-check_run.ensures.told.text ∙ c.loop-rest.invariant.text;
      told = one_run _ _ _ _ _ _ _ _ some c.run_length.ensures.count c.split_at.ensures.front c.split_at.ensures.back
          (rw c.loop-rest.invariant.text at c.in_ok-check_run.ensures.told.told) c.loop-rest.invariant.told;
      steps = λ before. c.in_ok-check_run.ensures.steps (c.loop-rest.invariant.steps before);
    }

pub returns-clause-told : goal.returns-clause-told
returns-clause-told c =
    let none : length c.loop-rest.rest.now ≡ 0 = grind (arith, eqb_tells, c.is_empty.ensures, c.loop-rest-test.false) in
    record { text = c.loop-rest.invariant.text; told = no_run _ _ _ _ none c.loop-rest.invariant.told }
