use Rattle.lab_reports.proofs.JsonLaws.{answer_told}
use Rattle.lab_reports.proofs.values.put_answer.Goals as goal

pub returns : goal.returns
returns c =
    answer_told c.args.answer.now c.answer_parts.result.0.now c.answer_parts.result.1.now c.is_refused-refused.result _ _ _ _ _ _ c.in_ok-push_str.ensures.bytes c.in_ok-put_text.ensures
    c.in_ok-push_str-2.ensures.bytes c.in_ok-put_kind.ensures c.in_ok-write.ensures.bytes c.answer_parts.ensures c.is_refused-refused.ensures.named
