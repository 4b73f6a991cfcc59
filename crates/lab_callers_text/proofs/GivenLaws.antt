-- The meanings of the items of a list, one after the other.
use Rattle.std.proofs.Common.{◌≡◌, List, [], ◌∷◌, ◌++◌, Option, Some, None, option_map, option_and_then, ap, sym, ◌∙◌, append_assoc}
use Rattle.std.proofs.lemmas.Option.{same_Some, none-some}
use Rattle.toml.specs.Data.{Data, Items, item}
use Rattle.evl_scenario.specs.Tables.{all_given}

one_more : {A : Type 0} (done next : List A) (one : Option A) (rest all : Option (List A)) → option_map (λ x. done ++ x ∷ []) one ≡ Some next
    → option_map (λ xs. done ++ xs) (option_and_then (λ x. option_map (λ xs. x ∷ xs) rest) one) ≡ all → option_map (λ xs. next ++ xs) rest ≡ all
one_more done next None rest all first whole = absurd (none-some next first)
one_more done next (Some x) None all first whole = whole
one_more {A} done next (Some x) (Some xs) all first whole =
    ap (λ (ys : List A). Some (ys ++ xs)) (sym (same_Some (done ++ x ∷ []) next first)) ∙ (ap (λ (ys : List A). Some ys) (append_assoc done (x ∷ []) xs) ∙ whole)

-- where those before stand for `done`, and with the next one for `next`
pub more_given : {A : Type 0} (gives : Data → Option A) (done next : List A) (value : Data) (rest : Items) (all : Option (List A)) → option_map (λ x. done ++ x ∷ []) (gives value) ≡ Some next
    → option_map (λ xs. done ++ xs) (all_given gives (item value rest)) ≡ all → option_map (λ xs. next ++ xs) (all_given gives rest) ≡ all
more_given gives done next value rest all first whole = one_more done next (gives value) (all_given gives rest) all first whole
