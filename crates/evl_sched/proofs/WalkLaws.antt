-- The ready threads one after another: which comes after a stamp, and when two walks come to the same thread.
use Rattle.std.proofs.Common.{◌≡◌, ℕ, suc, zero, ◌+◌, ◌-◌, ◌<◌, ◌≤◌, List, [], ◌∷◌, ◌++◌, length, Option, Some, refl, sym, ap, ◌∙◌, arith}
use Rattle.std.proofs.lemmas.List.{append-nil, append_assoc}
use Rattle.evl_sched.specs.declared.order.walk.Turn.{Turn}
use Rattle.evl_sched.specs.Orders.{AreStamped, HasLeast, in_order, stamp_of}
use Rattle.evl_sched.specs.Walks.{ComesNext}
use Rattle.evl_sched.proofs.OrderLaws.{here-old, order-past, there, with_stamp}

pub order-none : (stamps : List (Option ℕ)) → in_order stamps 0 ≡ []
unfolding in_order
order-none stamps = refl

-- a later limit only adds threads
order-longer : (stamps : List (Option ℕ)) (a d b : ℕ) → b ≡ a + d → (rest : List ℕ) × (in_order stamps b ≡ in_order stamps a ++ rest)
unfolding in_order
order-longer stamps a zero b e = let at : b ≡ a = omega (arith, e) in ([], ap (in_order stamps) at ∙ sym (append-nil (in_order stamps a)))
order-longer stamps a (suc d) b e =
    let last : b ≡ suc (a + d) = omega (arith, e) in
    let more = order-longer stamps a d (a + d) refl in (
      more.0 ++ with_stamp stamps (a + d),
      ap (in_order stamps) last ∙ (ap (λ us. us ++ with_stamp stamps (a + d)) more.1 ∙ append_assoc (in_order stamps a) more.0 (with_stamp stamps (a + d))),
    )

-- nobody comes after the limit
pub next-over : (stamps : List (Option ℕ)) (limit low : ℕ) → AreStamped stamps limit → limit ≤ low → in_order stamps low ≡ in_order stamps limit
next-over stamps limit low h over = order-past stamps low limit (λ t s e. omega (arith, h.early t s e, over)) h.early

-- who has the least stamp comes next
pub next-is : (stamps : List (Option ℕ)) (limit low n s : ℕ) → AreStamped stamps limit → HasLeast stamps low (length stamps) n → Some s ≡ stamp_of stamps n
    → ComesNext stamps limit low (record { thread = n; stamp = s })
next-is stamps limit low n s h found e =
    let both : Some s ≡ Some found.stamp = e ∙ found.its in
    let at : s ≡ found.stamp = cc in
    let from : low ≤ s = omega (arith, found.from, at) in
    let early : s < limit = h.early n s (sym e) in
    let here : in_order stamps (suc s) ≡ in_order stamps low ++ n ∷ [] =
    here-old stamps n low s (sym e) from (λ t r f l. omega (arith, at, found.least t r (there stamps t r f) f l)) h.apart in
    let one : s + 1 ≡ suc s = omega arith in
    let more = order-longer stamps (suc s) (limit - suc s) limit (omega (arith, early)) in
    record {
      from = from;
      early = early;
      here = ap (in_order stamps) one ∙ here;
      behind = more.0;
      whole = more.1 ∙ (ap (λ us. us ++ more.0) here ∙ append_assoc (in_order stamps low) (n ∷ []) more.0);
    }

same-next : (ts us vs : List ℕ) (t u : ℕ) → ts ++ t ∷ us ≡ ts ++ u ∷ vs → t ≡ u
same-next [] us vs t u e = cc
same-next (v ∷ ts) us vs t u e = same-next ts us vs t u cc

-- after the same threads, the same order goes on with the same thread
pub both-same : (one other : List (Option ℕ)) (limit other_limit low other_low : ℕ) (turn next : Turn) → in_order one low ≡ in_order other other_low
    → ComesNext one limit low turn → ComesNext other other_limit other_low next → in_order one limit ≡ in_order other other_limit → turn.thread ≡ next.thread
both-same one other limit other_limit low other_low turn next told comes follows same =
    same-next (in_order one low) comes.behind follows.behind turn.thread next.thread
    (sym comes.whole ∙ (same ∙ (follows.whole ∙ ap (λ ts. ts ++ next.thread ∷ follows.behind) (sym told))))
