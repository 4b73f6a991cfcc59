use Rattle.std.proofs.Common.{◌≡◌, ◌∙◌, true, false, sym}
use Rattle.evl_scenario.proofs.Texts.{is_utf8-true, is_utf8-false}
use Rattle.lab_kinds.proofs.FoundLaws.{if_ok}
use Rattle.lab_kinds.proofs.orders.check_orders.Goals as goal

pub returns-in-Ok : goal.returns-in-Ok
returns-in-Ok c =
    let yes = is_utf8-true c.args.text.now c.in-Ok.ensures.cases.1 in
    if_ok c.found_in_lines.result _ _
    (λ found told. record { refused = λ no. (let both : true ≡ false = sym yes ∙ no in absurd cc); read = λ is. rw c.in-Ok.ensures.cases.0 at told })
    c.found_in_lines.ensures

pub returns-in-Err : goal.returns-in-Err
returns-in-Err c =
    let no = is_utf8-false c.args.text.now c.in-Err.ensures.cases.0 in
    if_ok c.found_in_text.result _ _
    (λ found told. record { refused = λ is. told; read = λ yes. (let both : true ≡ false = sym yes ∙ no in absurd cc) })
    c.found_in_text.ensures
