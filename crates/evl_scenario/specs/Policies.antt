-- The text of a policy in a scenario: its word, and then its numbers, with one space between two of them.
use Rattle.std.specs.Prelude.{ℕ, codes, ◌^◌, List, if◌then◌else◌, Option, None, option_map, option_and_then}
use Rattle.std.specs.Str.{bytes_eq}
use Rattle.toml.specs.Data.{Data, as_str}
use Rattle.evl_base.specs.declared.policy.Policy.{Policy}
use Rattle.evl_base.specs.declared.policy.Policy.TheVariants.{Fifo, Rr, Quota, Weak}
use Rattle.evl_scenario.specs.Values.{text_number, number_below, around_space}

abbrev pub small_number : List ℕ → Option ℕ
small_number text = number_below (2 ^ 8) (text_number text)

abbrev pub round_robin : List ℕ × List ℕ → Option Policy
round_robin (prio, slice) = option_and_then (λ n. option_map (Rr n) (text_number slice)) (small_number prio)

-- rule: A quota group's number has 16 bits, a priority 8, with one space between them.
--   rows: bad_steps
abbrev pub quota : List ℕ × List ℕ → Option Policy
quota (group, prio) = option_and_then (λ n. option_map (Quota n) (small_number prio)) (number_below (2 ^ 16) (text_number group))

abbrev pub policy_named : List ℕ × List ℕ → Option Policy
policy_named (word, numbers) =
    if bytes_eq word (codes "fifo") then option_map Fifo (small_number numbers)
    else if bytes_eq word (codes "rr") then option_and_then round_robin (around_space numbers)
    else if bytes_eq word (codes "quota") then option_and_then quota (around_space numbers)
    else if bytes_eq word (codes "weak") then option_map Weak (small_number numbers)
    else None

abbrev pub policy_of : List ℕ → Option Policy
policy_of text = option_and_then policy_named (around_space text)

abbrev pub policy_from : Data → Option Policy
policy_from value = option_and_then policy_of (as_str value)
