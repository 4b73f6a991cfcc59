use Rattle.std.proofs.Common.{Bor, List, ℕ, arith}
use Rattle.lab_step_texts.proofs.QuestionLaws.{asked_next, asked_whole, there_next, unasked_at}
use Rattle.lab_step_texts.proofs.questions.questions_in.Goals as goal

pub loop-i-preserved : goal.loop-i-preserved
loop-i-preserved c =
    let asks = c.in-Ok.ensures.asked in
    record {
      asked = asked_next (λ (line : Bor (List ℕ)). line.now) c.args.lines.now c.loop-i.i _ c.loop-i.is c.is_asked-is.result c.when_asked.result c.loop-i.all.items c.in-Ok.next.items
          (omega (arith, c.loop-i-test.true)) c.is_asked-is.ensures c.when_asked.ensures (asks.0, asks.1, asks.2) c.loop-i.invariant.asked;
      there = there_next c.args.board.now c.loop-i.all.items c.in-Ok.next.items asks.0 asks.1 c.loop-i.invariant.there asks.3;
    }

pub returns-clause-asked : goal.returns-clause-asked
returns-clause-asked c =
    asked_whole (λ (line : Bor (List ℕ)). line.now) c.args.lines.now c.loop-i.i c.loop-i.is c.loop-i.all.items (omega (arith, c.loop-i-test.false)) c.loop-i.invariant.asked

pub returns-in-Err-clause-refused : goal.returns-in-Err-clause-refused
returns-in-Err-clause-refused c =
    unasked_at (λ (line : Bor (List ℕ)). line.now) c.args.lines.now c.loop-i.i _ c.args.board.now c.is_asked-is.result c.when_asked.result c.in-Err.fault
    (omega (arith, c.loop-i-test.true)) c.when_asked.ensures c.in-Err.ensures.refused
