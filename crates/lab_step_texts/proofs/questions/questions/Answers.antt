use Rattle.std.proofs.Common.{Bor, List, ℕ, arith}
use Rattle.lab_step_texts.proofs.QuestionLaws.{unread_at}
use Rattle.lab_step_texts.proofs.questions.questions.Goals as goal

pub returns-in-Err-clause-unread : goal.returns-in-Err-clause-unread
returns-in-Err-clause-unread c =
    unread_at (λ (one : Bor (List ℕ)). one.now) c.args.texts.now c.loop-i.i _ c.in-Err.why (omega (arith, c.loop-i-test.true)) c.in-Err.ensures.unread
