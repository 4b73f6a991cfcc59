-- Handles that are written one after the other, and how many callers a machine has.
use Rattle.std.proofs.Common.{◌≡◌, ◌<◌, ◌+◌, ℕ, List, [], ◌∷◌, ◌++◌, length, map, take, set, Option, Some, None, replicate, ap, ◌∙◌, append_assoc}
use Rattle.std.proofs.lemmas.List.{length-map, map-append, replicate-append-replicate, take_more_set}
use Rattle.std.proofs.lemmas.List.FromFn.{length-range_with_len}
use Rattle.std.specs.List.{range_with_len}
use Rattle.evl_machine.specs.callers.Handles.{MachineState, newcomer_of, newcomers_of}
use Rattle.evl_plans.specs.declared.planned.Planned.{Planned}
use Rattle.evl_hosts.specs.Hosts.{new_host, new_hosts}

module _ {A B : Type 0} (holds : A → Option B) where
  -- the front ones hold nothing, and the one after them doesn't either
  pub free_more : (xs : List A) (i : ℕ) (y : A) → i < length xs → holds y ≡ None → map holds (take i xs) ≡ replicate i None → map holds (take (i + 1) (set xs i y)) ≡ replicate (i + 1) None
  free_more xs i y below none front =
      ap (λ (ys : List A). map holds ys) (take_more_set xs i y below) ∙ (map-append holds (take i xs) (y ∷ [])
      ∙ (ap (λ (os : List (Option B)). os ++ holds y ∷ []) front ∙ (ap (λ (o : Option B). replicate i None ++ o ∷ []) none ∙ replicate-append-replicate i 1 None)))

  -- the front ones hold the first of all, and the one after them the next
  pub put_more : (xs : List A) (i : ℕ) (y : A) (next : B) (rest : List B) (all : List (Option B)) → i < length xs → holds y ≡ Some next
      → map holds (take i xs) ++ map (λ b. Some b) (next ∷ rest) ≡ all → map holds (take (i + 1) (set xs i y)) ++ map (λ b. Some b) rest ≡ all
  put_more xs i y next rest all below is whole =
      ap (λ (ys : List A). map holds ys ++ map (λ b. Some b) rest) (take_more_set xs i y below)
      ∙ (ap (λ (os : List (Option B)). os ++ map (λ b. Some b) rest) (map-append holds (take i xs) (y ∷ []))
      ∙ (append_assoc (map holds (take i xs)) (holds y ∷ []) (map (λ b. Some b) rest)
      ∙ (ap (λ (o : Option B). map holds (take i xs) ++ o ∷ map (λ b. Some b) rest) is ∙ whole)))

-- a machine has as many callers as its board has threads
pub as_many : (machine : MachineState Planned) (threads : ℕ) → length (new_hosts machine threads) ≡ threads
as_many machine threads =
    length-map (newcomers_of machine threads) (new_host machine)
    ∙ (length-map (range_with_len 0 threads) (newcomer_of machine) ∙ length-range_with_len 0 threads)
