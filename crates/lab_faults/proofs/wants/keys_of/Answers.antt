use Rattle.std.proofs.Common.{◌≡◌, ◌∙◌, List, drop, map, sym, ap, Option, Some}
use Rattle.std.proofs.lemmas.List.{drop-map}
use Rattle.std.specs.Option.{option_map}
use Rattle.lab_faults.proofs.wants.keys_of.Goals as goal

behind : {A X : Type 0} (now : A → X) (own rest : List A) (keys : Option (List X)) → rest ≡ drop 2 own → Some (map now own) ≡ keys
    → Some (map now rest) ≡ option_map (drop 2) keys
behind now own rest keys cut same = ap (λ r. Some (map now r)) cut ∙ ap Some (sym (drop-map now 2 own)) ∙ ap (option_map (drop 2)) same

pub returns : goal.returns
returns c = behind (λ key. key.now) _ _ _ c.behind_two.ensures c.in_ok-step_keys_of.ensures
