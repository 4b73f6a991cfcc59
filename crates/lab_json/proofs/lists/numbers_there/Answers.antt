use Rattle.std.proofs.Common.{◌∙◌, sym, ap, List, ℕ, ◌++◌, ◌∷◌, []}
use Rattle.lab_json.specs.Parts.{is_there}
use Rattle.lab_json.proofs.NumberLaws.{below_more, below_none, below_same}
use Rattle.lab_json.proofs.lists.numbers_there.Goals as goal
use Rattle.lab_json.proofs.lists.numbers_there.Goals.{then-is_there+in_ok-push, else-is_there}

pub loop-number-init : goal.loop-number-init
loop-number-init g c = c.new-all.ensures.items ∙ sym (below_none (is_there c.args.kernel.now.history.state c.args.part))

pub loop-number-preserved : goal.loop-number-preserved
loop-number-preserved g c =
    let passes = is_there c.args.kernel.now.history.state c.args.part in
    let number = c.loop-number.number in
    let was = c.is_there.ensures in
    elim c.if-is_there.branch [
      | then-is_there+in_ok-push w ↦
          ap (λ v. v.items) w.all-is ∙ w.in_ok-push.ensures.items ∙ ap (λ (ns : List ℕ). ns ++ number ∷ []) c.loop-number.invariant
          ∙ sym (below_more passes number (sym was ∙ w.if-is_there.true))
      | else-is_there w ↦ ap (λ v. v.items) w.all-is ∙ c.loop-number.invariant ∙ sym (below_same passes number (sym was ∙ w.if-is_there.false))
    ]
