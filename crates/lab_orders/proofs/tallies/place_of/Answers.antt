use Rattle.std.proofs.Common.{◌≢◌, sym, ◌∙◌, ap, subst, arith, All}
use Rattle.std.specs.Prelude.{string_bytes}
use Rattle.std.proofs.lemmas.List.Elements.{All-more}
use Rattle.std.proofs.lemmas.List.{take_all}
use Rattle.std.proofs.lemmas.Option.{get_or_from_slice_get}
use Rattle.lab_orders.specs.declared.tallies.Tally.{Tally}
use Rattle.lab_orders.proofs.tallies.place_of.Goals as goal

pub returns-then-is_told-clause-same : goal.returns-then-is_told-clause-same
returns-then-is_told-clause-same c = λ tally e.
    let there = get_or_from_slice_get c.args.tallies.now c.loop-i.i tally c.index-tallies-i.result e in
    ap (λ (t : Tally). string_bytes t.told) (sym there ∙ sym c.index-tallies-i.is) ∙ c.is_told.ensures.yes c.if-is_told.true

pub loop-i-preserved : goal.loop-i-preserved
loop-i-preserved c =
    let P : Tally → Type 0 = λ t. string_bytes t.told ≢ c.args.told.now in
    All-more P c.args.tallies.now c.loop-i.i c.index-tallies-i.result c.loop-i-test.true c.loop-i.invariant
    (subst P c.index-tallies-i.is (c.is_told.ensures.no c.if-is_told.false))

pub returns-clause-none : goal.returns-clause-none
returns-clause-none c =
    let P : Tally → Type 0 = λ t. string_bytes t.told ≢ c.args.told.now in
    subst (All P) (take_all c.loop-i.i c.args.tallies.now (omega arith)) c.loop-i.invariant
