use Rattle.std.proofs.Common.{arith, List, ℕ, Some, ap, take, ◌∙◌}
use Rattle.std.proofs.lemmas.Grind.{common_steps}
use Rattle.std.proofs.lemmas.Str.Pattern.{split_once_first}
use Rattle.lab_reports.specs.Calls.{pairs_of, pieces}
use Rattle.lab_reports.proofs.JoinLaws.{parts_back}
use Rattle.lab_reports.proofs.KeyLaws.{call_back}
use Rattle.lab_reports.proofs.calls.call_parts.Goals as goal

pub returns-in_ok-pairs-in-Some-clause-word : goal.returns-in_ok-pairs-in-Some-clause-word
returns-in_ok-pairs-in-Some-clause-word c = (split_once_first 32 c.args.call.now (Some (c.in-Some.word, c.in-Some.keys)) c.in-Some.ensures.cases (omega arith)).1

pub returns-in_ok-pairs-in-Some-clause-pairs : goal.returns-in_ok-pairs-in-Some-clause-pairs
returns-in_ok-pairs-in-Some-clause-pairs c =
    let cut = split_once_first 32 c.args.call.now (Some (c.in-Some.word, c.in-Some.keys)) c.in-Some.ensures.cases (omega arith) in
    c.in_ok-pairs-in-Some.ensures ∙ ap (λ (x : List ℕ). take 8 (pairs_of (pieces x))) cut.2

pub returns-in_ok-pairs-in-Some-clause-joined : goal.returns-in_ok-pairs-in-Some-clause-joined
returns-in_ok-pairs-in-Some-clause-joined c word pairs =
    parts_back _ word _ pairs _ (returns-in_ok-pairs-in-Some-clause-word c) (returns-in_ok-pairs-in-Some-clause-pairs c)

pub returns-in_ok-pairs-in-Some-clause-called : goal.returns-in_ok-pairs-in-Some-clause-called
returns-in_ok-pairs-in-Some-clause-called c call =
    call_back _ _ _ call (returns-in_ok-pairs-in-Some-clause-word c) (returns-in_ok-pairs-in-Some-clause-pairs c)

pub returns-in-None-clause-word : goal.returns-in-None-clause-word
returns-in-None-clause-word c = grind (arith, common_steps)

pub returns-in-None-clause-pairs : goal.returns-in-None-clause-pairs
returns-in-None-clause-pairs c = grind (arith, common_steps)

pub returns-in-None-clause-joined : goal.returns-in-None-clause-joined
returns-in-None-clause-joined c word pairs = parts_back _ word _ pairs _ (returns-in-None-clause-word c) (returns-in-None-clause-pairs c)

pub returns-in-None-clause-called : goal.returns-in-None-clause-called
returns-in-None-clause-called c call = call_back _ _ _ call (returns-in-None-clause-word c) (returns-in-None-clause-pairs c)
