use Rattle.std.proofs.Common.{ℕ, List, [], ◌++◌, inl, refl, ap, ◌∙◌, append-nil, subst, sym, arith}
use Rattle.evl_shell.specs.Moments.{moment}
use Rattle.evl_shell.specs.Runs.{lines_from}
use Rattle.evl_shell.specs.Sinks.{Passes}
use Rattle.evl_shell.proofs.PassLemmas.{Passes-nil, Stopped-after, Passes-on}
use Rattle.evl_shell.proofs.RunLemmas.{lines_from-next, lines_from-none, step_lines-whole}
use Rattle.evl_shell.proofs.runs.play_steps.Goals as goal

pub loop-step-init : goal.loop-step-init
loop-step-init g c =
    let given = c.into_iter-step-iterator.ensures.into_iter_gives in
    let k = c.args.kernel.now in
    (c.requires.by_plan, c.requires.working, [], ap (lines_from k.limit (moment k)) given.0, inl refl, Passes-nil _ _)

pub returns-in-Err-clause-stopped : goal.returns-in-Err-clause-stopped
returns-in-Err-clause-stopped g c =
    let kept = c.loop-step.invariant in
    let k = c.loop-step.kernel in
    Stopped-after _ _ _ _ _ kept.2 _ _ _ _ _
    (lines_from-next k.limit _ _ k.limit _ _ _ kept.2 _ kept.3 c.in-Some.ensures.steps.0 refl refl) kept.5 kept.4
    c.in-Err.ensures.stopped

pub play_step-requires : goal.play_step-requires
play_step-requires g c = record { working = c.loop-step.invariant.1; by_plan = c.loop-step.invariant.0 }

pub loop-step-preserved : goal.loop-step-preserved
loop-step-preserved g c =
    let kept = c.loop-step.invariant in
    let k = c.loop-step.kernel in
    let turned = c.in-Ok.ensures.turns in
    let passed = Passes-on _ _ _ _ _ _ kept.2 _ _ _
    (lines_from-next k.limit _ _ c.play_step.new.kernel.limit _ _ _ kept.2 _ kept.3 c.in-Some.ensures.steps.0 turned.after turned.limit) kept.5
    c.in-Ok.ensures.ok in
    (c.play_step.ensures.by_plan, c.in-Ok.ensures.working, passed.0, passed.1, passed.3 kept.4 (step_lines-whole _ _ _ _), passed.2)

pub returns-clause-ok : goal.returns-clause-ok
returns-clause-ok g c =
    let kept = c.loop-step.invariant in
    let k = c.loop-step.kernel in
    let rest = c.loop-step.step-iterator.rest in
    let ends = lines_from-none k.limit (moment k) rest.items (omega (arith, rest.ok.0, c.in-None.ensures.steps.0)) in
    let whole = sym (append-nil kept.2) ∙ ap (λ (ls : List ℕ). kept.2 ++ ls) (sym ends) ∙ kept.3 in
    subst (λ (ls : List ℕ). Passes (g.S.Sink.told c.args.out.now) c.args.chunks.now (g.S.Sink.told c.loop-step.out) c.loop-step.chunks ls) whole kept.5
