use Rattle.std.proofs.Common.{◌≡◌, ◌∙◌, ◌++◌, List, ℕ, [], ap, append_assoc, string_bytes}
use Rattle.std.proofs.lemmas.List.{map_more}
use Rattle.lab.proofs.ExplainLemmas.{each_more}
use Rattle.lab.proofs.explains.explain_each.Goals as goal

pub loop-name-preserved : goal.loop-name-preserved
loop-name-preserved g c =
    let (said, each, told) = c.loop-name.invariant in
    let own : List ℕ = string_bytes c.in_ok-said.said in
    let now : string_bytes c.push_str.new.self ≡ string_bytes c.loop-name.told ++ own =
    c.in_ok-push_str.ensures.bytes ∙ ap (λ (l : List ℕ). string_bytes c.loop-name.told ++ l) c.as_str.ensures.value in
    let whole = now ∙ ap (λ (l : List ℕ). l ++ own) told ∙ append_assoc (string_bytes c.args.told.now) said own in
    let next = each_more c.args.takes _ _ said own each c.in_ok-said.ensures in
    rw (map_more (λ name. name.now) c.args.names.now c.loop-name.name-index (record { ref_ptr = (0, 0); now = [] }) c.loop-name-test.true) (said ++ own, next, whole)
