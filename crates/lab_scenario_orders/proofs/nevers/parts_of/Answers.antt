use Rattle.std.proofs.Common.{List, ℕ, ◌∙◌, codes, subst, sym}
use Rattle.std.proofs.lemmas.Bool.{false≢true}
use Rattle.std.proofs.lemmas.Str.Pattern.{contains_text}
use Rattle.std.specs.Str.Iter.{HasSubslice}
use Rattle.lab_scenario_orders.proofs.AskFaultLaws.{same_caller, two_arrows}
use Rattle.lab_scenario_orders.proofs.nevers.parts_of.Goals as goal

pub returns-then-contains-clause-none : goal.returns-then-contains-clause-none
returns-then-contains-clause-none c =
    let there = (contains_text c.contains.result (codes "->") c.trim-answer.result.now c.contains.ensures.cases).0 c.if-contains.true in
    two_arrows c.args.text.now c.in-Some.before.now c.in-Some.behind.now c.in-Some.ensures.arrow c.in-Some.ensures.first
    (subst (λ (l : List ℕ). HasSubslice l (codes "->")) c.trim-answer.ensures.trim there)

pub returns-else-contains-clause-parted : goal.returns-else-contains-clause-parted
returns-else-contains-clause-parted c = record {
  before = c.in-Some.before.now;
  behind = c.in-Some.behind.now;
  arrow = c.in-Some.ensures.arrow;
  named = c.trim-who.ensures.trim;
  given = c.trim-answer.ensures.trim;
}

pub returns-else-contains-clause-single : goal.returns-else-contains-clause-single
returns-else-contains-clause-single c = λ there.
    false≢true (sym c.if-contains.false ∙ (contains_text c.contains.result (codes "->") c.trim-answer.result.now c.contains.ensures.cases).1 there)

pub returns-else-contains-clause-only : goal.returns-else-contains-clause-only
returns-else-contains-clause-only c = λ one answer around.
    same_caller c.args.text.now c.in-Some.before.now c.in-Some.behind.now c.in-Some.ensures.arrow c.in-Some.ensures.first one answer around ∙ sym c.trim-who.ensures.trim
