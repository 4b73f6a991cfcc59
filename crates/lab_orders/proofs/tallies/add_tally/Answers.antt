use Rattle.std.proofs.Common.{◌≡◌, ◌≢◌, ℕ, ◌<◌, List, map, length, inl, inr, sym, ◌∙◌, ap, subst, arith, All}
use Rattle.std.specs.Prelude.{Some, slice_get, string_bytes}
use Rattle.lab_orders.specs.Tallies.{AreDistinct, first_of, told_weight}
use Rattle.lab_orders.specs.declared.tallies.Tally.{Tally}
use Rattle.lab_orders.proofs.Fronts.{some_at}
use Rattle.lab_orders.proofs.Tallying.{told_raised, distinct_raised, distinct_push, told_within, firsts_raised, firsts_push}
use Rattle.lab_orders.proofs.tallies.add_tally.Goals as goal

pub returns-in-Ok-clause-sums : goal.returns-in-Ok-clause-sums
returns-in-Ok-clause-sums c = λ f.
    let items = c.args.tallies.now.items in
    let within : c.in-Some.place < length items = omega (arith, c.in-Some.ensures.within, ap length c.as_slice.ensures.value) in
    let there = some_at items c.in-Some.place within in
    let got : slice_get c.as_slice.result.now c.in-Some.place ≡ Some there.0 = cc (there.1, c.as_slice.ensures.value) in
    let same = c.in-Some.ensures.same there.0 got ∙ c.as_str.ensures.value in
    ap (told_weight f) (c.in-Ok.ensures.raised there.0 there.1) ∙ told_raised f items c.in-Some.place c.args.tally.count there.0 (string_bytes c.args.tally.told) there.1 same

pub returns-in-Ok-clause-distinct : goal.returns-in-Ok-clause-distinct
returns-in-Ok-clause-distinct c =
    let items = c.args.tallies.now.items in
    let within : c.in-Some.place < length items = omega (arith, c.in-Some.ensures.within, ap length c.as_slice.ensures.value) in
    let there = some_at items c.in-Some.place within in
    subst AreDistinct (sym (c.in-Ok.ensures.raised there.0 there.1)) (distinct_raised items c.in-Some.place c.args.tally.count there.0 there.1 c.requires)

pub returns-in-Ok-push-clause-distinct : goal.returns-in-Ok-push-clause-distinct
returns-in-Ok-push-clause-distinct c =
    let items = c.args.tallies.now.items in
    let apart = subst (λ (told : List ℕ). All (λ t. string_bytes t.told ≢ told) c.as_slice.result.now) c.as_str.ensures.value c.in-None.ensures.none in
    let none = subst (λ (ts : List Tally). All (λ t. string_bytes t.told ≢ string_bytes c.args.tally.told) ts) c.as_slice.ensures.value apart in
    subst AreDistinct (sym c.in-Ok-push.ensures.items) (distinct_push items c.args.tally c.requires none)

pub returns-in-Ok-clause-firsts : goal.returns-in-Ok-clause-firsts
returns-in-Ok-clause-firsts c =
    let items = c.args.tallies.now.items in
    let within : c.in-Some.place < length items = omega (arith, c.in-Some.ensures.within, ap length c.as_slice.ensures.value) in
    let there = some_at items c.in-Some.place within in
    inl (ap (λ (all : List Tally). map first_of all) (c.in-Ok.ensures.raised there.0 there.1) ∙ firsts_raised items c.in-Some.place c.args.tally.count there.0 there.1)

pub returns-in-Ok-push-clause-firsts : goal.returns-in-Ok-push-clause-firsts
returns-in-Ok-push-clause-firsts c =
    inr (ap (λ (all : List Tally). map first_of all) c.in-Ok-push.ensures.items ∙ firsts_push c.args.tallies.now.items c.args.tally)

pub returns-in-Some-clause-uncounted : goal.returns-in-Some-clause-uncounted
returns-in-Some-clause-uncounted c = λ e.
    let items = c.args.tallies.now.items in
    let within : c.in-Some.place < length items = omega (arith, c.in-Some.ensures.within, ap length c.as_slice.ensures.value) in
    let there = some_at items c.in-Some.place within in
    omega (arith, c.in-Err.ensures.uncounted there.0 there.1, told_within items c.in-Some.place there.0 there.1)
