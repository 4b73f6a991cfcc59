use Rattle.lab_reports.proofs.JsonLaws.{found_or, is_found, owner_told}
use Rattle.lab_reports.proofs.values.put_next_owner.Goals as goal

pub returns : goal.returns
returns c =
    let front = c.before-front in
    owner_told c.args.value.now c.unwrap_or.result.now c.is_some-more.result _ _ _ _ c.in_ok-push_str.ensures.bytes c.in_ok-put_value.ensures c.in_ok-write.ensures.bytes
    (found_or front.result _ front.ensures c.args.value c.unwrap_or.result c.unwrap_or.ensures) (is_found front.result _ front.ensures c.is_some-more.result c.is_some-more.ensures)
