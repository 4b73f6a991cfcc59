use Rattle.std.proofs.Common.{arith, false}
use Rattle.std.proofs.lemmas.Bool.{false≢true}
use Rattle.std.proofs.lemmas.Str.Pattern.{contains_text}
use Rattle.lab_scenario_orders.proofs.AskFaultLaws.{none_before}
use Rattle.lab_step_texts.proofs.questions.around.Goals as goal

pub returns-in-Some-clause-first : goal.returns-in-Some-clause-first
returns-in-Some-clause-first c = none_before c.args.between.now c.args.text.now c.in-Some.parts.0.now c.in-Some.parts.1.now c.requires c.in-Some.ensures.cases

pub returns-in-None-clause-none : goal.returns-in-None-clause-none
returns-in-None-clause-none c = λ there. false≢true ((contains_text false c.args.between.now c.args.text.now c.in-None.ensures.cases).1 there)
