use Rattle.std.proofs.Common.{ℕ, IfOk, subst, sym}
use Rattle.std.proofs.lemmas.List.{length-map}
use Rattle.evl_plans.specs.Told.{handler_of}
use Rattle.lab_drawing.specs.Callbacks.{missing_callback}
use Rattle.lab_caller_pictures.specs.Drawings.{origin_of}
use Rattle.lab_draws.specs.Draws.{DrawsLines, SaysFirst, missing_text}
use Rattle.lab_streams.specs.Outputs.{Writes}
use Rattle.lab_draws.proofs.DrawLemmas.{says_first}
use Rattle.lab_draws.proofs.draws.draw_over.Goals as goal

pub returns-clause-writes : goal.returns-clause-writes
returns-clause-writes g c =
    let plans = c.args.view.now.bank.now in
    let lines = c.args.lines.now in
    let draws = DrawsLines c.args.view.now.drawing (origin_of c.args.source) lines in
    let told = rw c.missing_callback.ensures at c.in_ok-tell_missing.ensures.text in
    subst (λ (n : ℕ). IfOk c.draw_lines.result (Writes (SaysFirst (missing_text n (missing_callback n lines)) draws) (g.O.Stream.contents c.args.out.now) (g.O.Stream.contents c.draw_lines.new.out) (g.E.Stream.contents c.args.err.now) (g.E.Stream.contents c.draw_lines.new.err))) (sym (length-map plans handler_of))
    (says_first _ _ draws _ _ _ _ _ c.draw_lines.result told c.draw_lines.ensures.writes)
