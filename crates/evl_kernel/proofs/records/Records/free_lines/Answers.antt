use Rattle.std.proofs.Common.{◌≡◌, ◌<◌, ◌≤◌, ℕ, None, ap, ◌∙◌, arith}
use Rattle.std.specs.Option.{option_map}
use Rattle.evl_pipeline.specs.Limits.{line_count}
use Rattle.evl_pipeline.specs.Lines.{installed_at}
use Rattle.evl_kernel.specs.state.Records.{number_of, state_of}
use Rattle.evl_kernel.specs.state.Renamed.{named}
use Rattle.evl_kernel.proofs.state.CallbackLaws.{answers-kept, keeps-both, keeps-none}
use Rattle.evl_kernel.proofs.state.HomeLaws.{comes_nowhere, comes_then, frees_line, have_places, none_at, none_below}
use Rattle.evl_kernel.proofs.state.RenamedLaws.{installed-renamed}
use Rattle.evl_kernel.proofs.records.Records.free_lines.Goals as goal

pub loop-line-init : goal.loop-line-init
loop-line-init g c = record {
  comes = comes_nowhere (state_of c.args.self.now);
  freed = λ line below. absurd (omega (arith, below));
  others = λ other line none. none;
  stands = keeps-none c.args.self.now;
}

pub free-requires : goal.free-requires
free-requires g c = record { by_plan = answers-kept g.C.Handler.declared g.C.Handler.plan c.args.self.now c.loop-line.self c.loop-line.invariant.stands c.requires.by_plan }

pub loop-line-preserved : goal.loop-line-preserved
loop-line-preserved g c =
    let s = c.args.self.now in let t = c.loop-line.self in let u = c.free.new.self in let is = c.loop-line.invariant in let line = c.loop-line.line in
    let p = c.self.inside.pipeline in
    let answers = answers-kept g.C.Handler.declared g.C.Handler.plan s t is.stands c.requires.by_plan in
    let clock : installed_at (state_of s).lines c.args.stage 0 ≡ None =
    rw (← c.self.view_is) (installed-renamed number_of p c.args.stage 0 ∙ ap (option_map (named number_of)) ((c.reach-line-end.ensures.sound.sides c.args.stage).clock)) in
    let below : line < line_count = omega (arith, c.loop-line-test.true, c.reach-line-end.ensures.range) in
    let one = frees_line (state_of t) (have_places g.C.Handler.declared g.C.Handler.plan t answers) c.args.stage line c.free.result (state_of u) below (is.others c.args.stage 0 clock) c.free.ensures.served in
    record {
      comes = comes_then (state_of s) (state_of t) (state_of u) is.comes one.comes;
      freed = none_below (state_of t) (state_of u) c.args.stage line one is.freed;
      others = λ other l none. one.stays other l (is.others other l none);
      stands = keeps-both s t u is.stands c.free.ensures.stands;
    }

pub returns : goal.returns
returns g c =
    let s = c.args.self.now in let t = c.loop-line.self in let is = c.loop-line.invariant in
    let p = c.self.inside.pipeline in
    let past : (line : ℕ) → c.reach-line-end.result ≤ line → installed_at (state_of s).lines c.args.stage line ≡ None =
    λ line behind. rw (← c.self.view_is) (installed-renamed number_of p c.args.stage line ∙ ap (option_map (named number_of)) (c.reach-line-end.ensures.none line behind)) in
    record {
      comes = is.comes;
      freed = λ line. none_at (state_of t) c.args.stage c.loop-line.line line is.freed (λ behind. is.others c.args.stage line (past line (omega (arith, behind, c.loop-line-test.false))));
      others = is.others;
      stands = is.stands;
    }
