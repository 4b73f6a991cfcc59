use Rattle.std.proofs.Common.{◌≡◌, ◌++◌, arith, ap, length, map, string_bytes, List}
use Rattle.evl_plans.specs.Told.{handler_of}
use Rattle.evl_scenario.specs.declared.steps.Step.{Step}
use Rattle.evl_shell.specs.Moments.{moment}
use Rattle.lab_warnings.specs.Runs.{entries_from, state_from}
use Rattle.lab_warnings.specs.Warnings.{steps_lines}
use Rattle.lab_warnings.proofs.RunLaws.{entries_all, entries_on, state_all, state_on, told_all, told_on}
use Rattle.lab_warnings.proofs.steps.make_steps.Goals as goal

pub loop-step-init : goal.loop-step-init
loop-step-init c =
    let same = c.into_iter-step-iterator.ensures.into_iter_gives.0 in
    let k = c.args.kernel.now in
    record {
      left = omega (arith, ap (λ (ss : List Step). length ss) same, c.args.steps.ok.0, c.len-count.ensures);
      told = ap (λ (ss : List Step). string_bytes c.args.told.now ++ steps_lines c.args.name.now c.args.counts (map handler_of c.args.bank.now) 0 k.limit (moment k) ss) same;
      entries = ap (λ (ss : List Step). k.history.entries ++ entries_from k.limit (moment k) ss) same;
      state = ap (λ (ss : List Step). state_from k.limit (moment k) ss) same;
    }

pub loop-step-preserved : goal.loop-step-preserved
loop-step-preserved c =
    let kept = c.loop-step.invariant in
    let old = c.loop-step.kernel in
    let new = c.take_step.new.kernel in
    let step = c.in-Some.step in
    let split = c.in-Some.ensures.steps.0 in
    let did = c.in_ok-take_step.ensures in
    record {
      left = omega (arith, kept.left, ap (λ (ss : List Step). length ss) split);
      told = told_on old new step _ _ split did.makes c.args.name.now c.args.counts (map handler_of c.args.bank.now) c.loop-step.number (string_bytes c.loop-step.told) (string_bytes c.take_step.new.told) _ kept.told did.told;
      entries = entries_on old new step _ _ split did.makes _ kept.entries;
      state = state_on old new step _ _ split did.makes _ kept.state;
    }

pub returns-clause-told : goal.returns-clause-told
returns-clause-told c =
    let k = c.loop-step.kernel in
    let rest = c.loop-step.step-iterator.rest in
    let none : length rest.items ≡ 0 = omega (arith, rest.ok.0, c.in-None.ensures.steps.0) in
    told_all k.limit (moment k) c.args.name.now c.args.counts (map handler_of c.args.bank.now) c.loop-step.number rest.items (string_bytes c.loop-step.told) _ none c.loop-step.invariant.told

pub returns-clause-entries : goal.returns-clause-entries
returns-clause-entries c =
    let k = c.loop-step.kernel in
    let rest = c.loop-step.step-iterator.rest in
    let none : length rest.items ≡ 0 = omega (arith, rest.ok.0, c.in-None.ensures.steps.0) in
    entries_all k.limit (moment k) rest.items _ _ none c.loop-step.invariant.entries

pub returns-clause-state : goal.returns-clause-state
returns-clause-state c =
    let k = c.loop-step.kernel in
    let rest = c.loop-step.step-iterator.rest in
    let none : length rest.items ≡ 0 = omega (arith, rest.ok.0, c.in-None.ensures.steps.0) in
    state_all k.limit (moment k) rest.items _ none c.loop-step.invariant.state
