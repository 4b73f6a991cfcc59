use Rattle.std.proofs.Common.{◌≡◌, ◌+◌, ◌∷◌, ◌∙◌, List, ap, arith, length, subst}
use Rattle.lab_callers.specs.Plays.{HaveMade, MakesStep, run_of}
use Rattle.lab_callers.proofs.PlayLaws.{made_one_more}
use Rattle.lab_callers_text.specs.declared.acts.CallersStep.{CallersStep}
use Rattle.evl_machine.specs.callers.Handles.{MachineState}
use Rattle.lab_callers.proofs.playing.play_steps.Goals as goal

pub loop-step-preserved : goal.loop-step-preserved
loop-step-preserved g c =
    let limit = c.args.crew.now.machine.first.limit in
    let start = run_of c.args.crew.now c.args.report.now in
    let before = c.args.report.now.text in
    let text = c.loop-step.report.text in
    let mid = run_of c.loop-step.crew c.loop-step.report in
    let now = run_of c.play_step.new.crew c.play_step.new.report in
    let step = c.in-Some.step in
    let rest = c.next.new.self.rest.items in
    let made = c.in-Ok.ensures.made in
    let so_far : HaveMade limit start c.args.steps.items before text mid c.loop-step.number (step ∷ rest) =
    subst (λ (l : List CallersStep). HaveMade limit start c.args.steps.items before text mid c.loop-step.number l) c.in-Some.ensures.steps.0 c.loop-step.invariant.made in
    let makes : MakesStep limit mid (c.loop-step.number + 1) step made.0 now =
    subst (λ (m : MachineState _). MakesStep m.first.limit mid (c.loop-step.number + 1) step made.0 now) c.loop-step.invariant.same made.1 in
    record {
      same = c.in-Ok.ensures.same ∙ c.loop-step.invariant.same;
      left = omega (arith, c.loop-step.invariant.left, ap length c.in-Some.ensures.steps.0);
      made = made_one_more limit start c.args.steps.items before text mid c.loop-step.number step rest made.0 c.play_step.new.report.text now so_far makes made.2;
    }
