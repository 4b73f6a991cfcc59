use Rattle.std.proofs.Common.{[], ℕ, List, OnOk, IfErr, subst}
use Rattle.evl_scenario.proofs.LineLemmas.{board_line-whole}
use Rattle.evl_shell.specs.Faults.{Stopped}
use Rattle.evl_shell.specs.Sinks.{Passes}
use Rattle.evl_shell.proofs.PassLemmas.{Stopped-more}
use Rattle.evl_shell.proofs.RunLemmas.{script_trace-opened, lines-same}
use Rattle.evl_shell.proofs.runs.play_scenario.Goals as goal

pub play_opened-played-requires-clause-whole : goal.play_opened-played-requires-clause-whole
play_opened-played-requires-clause-whole g c = lines-same _ _ c.in-Ok.ensures.line (board_line-whole _)

pub returns-in-Ok-clause-ok : goal.returns-in-Ok-clause-ok
returns-in-Ok-clause-ok g c =
    let opened = c.into_parts-board in
    let trace = script_trace-opened g.C.Handler.declared g.C.Handler.plan c.args.bank.items c.args.scenario _ opened.result.0 opened.result.1 opened.result.2.items c.in-Ok.kernel
    opened.ensures.board opened.ensures.limit opened.ensures.steps c.in-Ok.ensures.line c.in-Ok.ensures.opened in
    subst (λ (told : List ℕ). OnOk c.play_opened-played.result (Passes (g.S.Sink.told c.args.out.now) c.args.chunks.now (g.S.Sink.told c.play_opened-played.new.out) c.play_opened-played.new.chunks told)) trace c.play_opened-played.ensures.ok

pub returns-in-Ok-clause-stopped : goal.returns-in-Ok-clause-stopped
returns-in-Ok-clause-stopped g c =
    let opened = c.into_parts-board in
    let trace = script_trace-opened g.C.Handler.declared g.C.Handler.plan c.args.bank.items c.args.scenario _ opened.result.0 opened.result.1 opened.result.2.items c.in-Ok.kernel
    opened.ensures.board opened.ensures.limit opened.ensures.steps c.in-Ok.ensures.line c.in-Ok.ensures.opened in
    subst (λ (told : List ℕ). IfErr c.play_opened-played.result (Stopped (g.S.Sink.told c.args.out.now) c.args.chunks.now (g.S.Sink.told c.play_opened-played.new.out) told (g.S.Sink.has_failed c.play_opened-played.new.out))) trace c.play_opened-played.ensures.stopped

pub returns-in-Err-clause-stopped : goal.returns-in-Err-clause-stopped
returns-in-Err-clause-stopped g c = Stopped-more _ _ _ [] _ _ _ c.give_up.ensures.stopped
