use Rattle.lab_kinds.proofs.BehindLaws.{parted}
use Rattle.lab_kinds.proofs.FoundLaws.{if_ok}
use Rattle.lab_kinds.proofs.orders.found_parted.Goals as goal

pub returns : goal.returns
returns c =
    if_ok c.found_behind.result _ _
    (λ all behind. parted _ _ _ _ _ _ _ _ _ _ c.as_bytes.ensures.value c.in_ok-steps.ensures c.in_ok-found.ensures behind) c.found_behind.ensures
