use Rattle.std.proofs.Common.{map}
use Rattle.lab_reports.proofs.JsonLaws.{call_told}
use Rattle.lab_reports.proofs.json.put_call.Goals as goal

pub returns : goal.returns
returns c =
    let listed = rw c.as_slice.ensures.value at c.in_ok-put_pairs.ensures in
    call_told c.args.call.now c.in_ok-word.word.now (map (λ p. (p.0.now, p.1.now)) c.in_ok-word.pairs.items) _ _ _ _ _ _
    c.in_ok-push_str.ensures.bytes c.in_ok-put_text.ensures c.in_ok-push_str-2.ensures.bytes listed c.in_ok-push_str-3.ensures.bytes
    c.in_ok-word.ensures.word c.in_ok-word.ensures.pairs
