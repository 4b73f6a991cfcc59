use Rattle.std.proofs.Common.{◌≡◌, ◌∙◌, ◌++◌, List, ℕ, ap, string_bytes}
use Rattle.lab_live.proofs.AnswerLaws.{answered, undoes_behind}
use Rattle.lab_live.proofs.answers.answer_line.Goals as goal

pub returns-clause-told : goal.returns-clause-told
returns-clause-told c =
    let told : string_bytes c.push_str.new.self ≡ string_bytes c.args.told.now ++ string_bytes c.answer_text.new.told =
    c.in_ok-push_str.ensures.bytes ∙ ap (λ (l : List ℕ). string_bytes c.args.told.now ++ l) c.as_str.ensures.value in
    answered c.args.session.now c.answer_text.new.session (string_bytes c.new-lines.result) (string_bytes c.answer_text.new.told) (string_bytes c.args.told.now) (string_bytes c.push_str.new.self)
    c.new-lines.ensures.bytes c.in_ok-answer_text.ensures.goes_on told

pub returns-clause-undone : goal.returns-clause-undone
returns-clause-undone c is =
    let told : string_bytes c.push_str.new.self ≡ string_bytes c.args.told.now ++ string_bytes c.answer_text.new.told =
    c.in_ok-push_str.ensures.bytes ∙ ap (λ (l : List ℕ). string_bytes c.args.told.now ++ l) c.as_str.ensures.value in
    undoes_behind c.args.session.now c.answer_text.new.session (string_bytes c.new-lines.result) (string_bytes c.answer_text.new.told) (string_bytes c.args.told.now) (string_bytes c.push_str.new.self)
    c.new-lines.ensures.bytes (c.in_ok-answer_text.ensures.undone (c.trimmed-text.ensures ∙ is)) told
