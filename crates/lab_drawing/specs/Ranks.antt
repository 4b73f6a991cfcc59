-- Dates and ranks, as a picture prints them.
use Rattle.std.specs.Prelude.{ℕ, ◌+◌, ◌-◌, ◌/◌, ◌%◌, ◌==◌, nat_le, List, [], ◌∷◌, ◌++◌, codes, decimal, if◌then◌else◌, Option, Some, None}
use Rattle.evl_base.specs.declared.policy.Policy.{Policy}
use Rattle.evl_base.specs.declared.policy.Policy.TheVariants.{Fifo, Rr, Quota, Weak}

-- the greatest unit of which a date is a whole number: how many nanoseconds it has, and its word
abbrev pub unit_of : ℕ → ℕ × List ℕ
unit_of date =
    if date == 0 then (1, codes "ns")
    else if date % 1000000000 == 0 then (1000000000, codes "s")
    else if date % 1000000 == 0 then (1000000, codes "ms")
    else if date % 1000 == 0 then (1000, codes "us")
    else (1, codes "ns")

abbrev pub date_text : ℕ → List ℕ
date_text date = decimal (date / (unit_of date).0) ++ (codes " " ++ (unit_of date).1)

-- the priority that a rank is of
abbrev pub priority_of : ℕ → ℕ
priority_of rank =
    if nat_le 512 rank then rank - 512
    else if nat_le 256 rank then rank - 256
    else rank

-- the rank that a policy gives by itself
abbrev pub own_rank : Policy → ℕ
own_rank (Fifo prio) = 512 + prio
own_rank (Rr prio slice) = 512 + prio
own_rank (Quota group prio) = 256 + prio
own_rank (Weak prio) = prio

-- a policy as people write it: its first letter, and the priority
abbrev pub letter_of : Policy → List ℕ
letter_of (Fifo prio) = codes "f"
letter_of (Rr prio slice) = codes "r"
letter_of (Quota group prio) = codes "q"
letter_of (Weak prio) = codes "w"

-- ↑ in UTF-8
abbrev pub arrow : List ℕ
arrow = 226 ∷ 134 ∷ 145 ∷ []

-- an effective rank, if it is another than the policy gives
abbrev pub lent_rank : Policy → ℕ → Option ℕ
lent_rank policy rank = if own_rank policy == rank then None else Some rank

-- rule: Beside the strip of a thread are its policy and, if its effective rank is another, the priority that this has
--   with the thread that lends it, or as a ceiling's, where one of these is another than at the moment before, or a band
--   begins.
--   also: Ranks.lent_rank; Strips.tells_number
--   clauses: lender_text; lent_rank; tells_number
--   rows: a_rank_is_told_across; a_rank_is_told_with_its_ceiling; a_rank_is_told_with_its_lender
-- a rank that a thread lends: after an arrow its priority, and the thread; or else that of a ceiling
abbrev pub lender_text : ℕ → Option ℕ → List ℕ
lender_text rank (Some thread) = arrow ++ (decimal (priority_of rank) ++ (codes "T" ++ decimal thread))
lender_text rank None = codes "c" ++ decimal (priority_of rank)
