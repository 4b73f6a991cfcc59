use Rattle.std.proofs.Common.{arith, ◌≡◌, ◌∷◌, Some, option_map, ◌∙◌, ap}
use Rattle.std.proofs.lemmas.List.{map-append}
use Rattle.std.proofs.lemmas.Str.Pattern.{split_parts}
use Rattle.lab_reports.specs.Calls.{pairs_of, pieces, rest_pairs}
use Rattle.lab_reports.proofs.CallLaws.{pairs_done, pairs_more, pieces-cut}
use Rattle.lab_reports.proofs.calls.push_pair.Goals as goal

pub returns-in_default-split_once : goal.returns-in_default-split_once
returns-in_default-split_once c n = rw c.in-Some.is (pairs_done _ c.in-Some.text.now n c.in_default-split_once.ensures.cases)

pub returns : goal.returns
returns c n =
    let text = c.in-Some.text.now in
    let key = c.in-Some-split_once.key in
    let behind = c.in-Some-split_once.behind in
    let cut = split_parts 61 text (Some (key, behind)) c.in-Some-split_once.ensures.cases (omega arith) in
    let rest = rest_pairs (option_map (λ r. r.now) c.around_value.result.1) in
    let told : pairs_of (pieces text) ≡ (key.now, c.around_value.result.0.now) ∷ rest = ap pairs_of (pieces-cut text key.now behind.now cut.0 cut.1) ∙ c.around_value.ensures key.now in
    rw (c.in-Some.is, c.in_ok-push.ensures.items, map-append, told) (pairs_more _ key.now c.around_value.result.0.now rest n)
