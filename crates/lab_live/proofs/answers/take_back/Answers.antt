use Rattle.std.proofs.Common.{◌≡◌, ◌∙◌, ◌++◌, List, ℕ, ap, string_bytes}
use Rattle.lab_live.proofs.AnswerLaws.{undoes}
use Rattle.lab_live.proofs.answers.take_back.Goals as goal

pub returns-in-Ok-true-clause-undoes : goal.returns-in-Ok-true-clause-undoes
returns-in-Ok-true-clause-undoes c =
    let told : string_bytes c.push_str.new.self ≡ string_bytes c.args.told.now ++ string_bytes c.write_last.new.told =
    c.in_ok-push_str-in-Ok-true.ensures.bytes ∙ ap (λ (l : List ℕ). string_bytes c.args.told.now ++ l) c.as_str.ensures.value in
    undoes c.args.session.now c.undo.new.self (string_bytes c.new-last.result) (string_bytes c.write_last.new.told) (string_bytes c.args.told.now) (string_bytes c.push_str.new.self)
    c.new-last.ensures.bytes c.in_ok-write_last.ensures told (c.in-Ok-true.ensures.undone c.in-Ok-true.field-0-test)
