use Rattle.std.proofs.Common.{◌≡◌, ◌∙◌, ◌++◌, ap, arith, length, string_bytes}
use Rattle.evl_kernel.specs.state.KernelViews.{KernelView}
use Rattle.evl_plans.specs.declared.planned.Planned.{Planned}
use Rattle.evl_shell.specs.Moments.{moment}
use Rattle.lab_json.specs.Runs.{moments_from}
use Rattle.lab_json.specs.States.{moment_json}
use Rattle.lab_json.proofs.RunLaws.{no_more, one_more}
use Rattle.lab_json.proofs.runs.write_steps.Goals as goal

pub loop-step-init : goal.loop-step-init
loop-step-init c =
    let same = c.into_iter-step-iterator.ensures.into_iter_gives.0 in
    let k = c.args.kernel.now in
    λ i. string_bytes c.args.json.now ++ moments_from c.args.file.now k.limit (moment k) (same i)

pub loop-step-preserved : goal.loop-step-preserved
loop-step-preserved c =
    let cut = c.in-Some.ensures.steps.0 in
    let did = c.in_ok-make.ensures in
    let told = c.in_ok-write_moment.ensures ∙ ap (λ (v : KernelView Planned). string_bytes c.loop-step.json ++ moment_json c.args.file.now (moment v)) c.kernel.ensures in
    one_more c.args.file.now _ _ _ _ _ _ _ _ _ c.in-Some.step c.loop-step.invariant cut did.turned told did.limit

pub returns : goal.returns
returns c =
    let rest = c.loop-step.step-iterator.rest in
    let none : length rest.items ≡ 0 = omega (arith, rest.ok.0, c.in-None.ensures.steps.0) in
    no_more c.args.file.now _ _ _ _ rest.items c.loop-step.invariant none
