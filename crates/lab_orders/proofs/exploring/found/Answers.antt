use Rattle.std.proofs.Common.{◌≡◌, ◌≢◌, ◌<◌, ◌==◌, ℕ, false, sym, ◌∙◌, arith}
use Rattle.std.proofs.lemmas.Bool.{eqb-true, eqb-false}
use Rattle.std.proofs.lemmas.List.{nil_from_length}
use Rattle.lab_orders.proofs.exploring.found.Goals as goal

some-there : (n : ℕ) → (n == 0) ≡ false → 0 < n
some-there n is = let ne : n ≢ 0 = eqb-false n 0 is in omega (ne, arith)

pub returns-clause-whole : goal.returns-clause-whole
returns-clause-whole g c = λ whole. nil_from_length c.args.front.level.nodes.items (sym c.args.front.level.nodes.ok.0 ∙ eqb-true c.args.front.level.nodes.len 0 (sym c.is_empty-whole.ensures ∙ whole))

pub returns-clause-cut : goal.returns-clause-cut
returns-clause-cut g c = λ cut. some-there c.args.front.level.nodes.len (sym c.is_empty-whole.ensures ∙ cut)
