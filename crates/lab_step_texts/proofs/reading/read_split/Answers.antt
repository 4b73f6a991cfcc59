use Rattle.std.proofs.Common.{◌≡◌, ℕ, ◌∙◌, List, length, ap, subst}
use Rattle.std.specs.Prelude.{None, min}
use Rattle.std.specs.Str.Lines.{lines}
use Rattle.lab_callers_text.specs.Readings.{IsRefused}
use Rattle.lab_callers_text.specs.declared.acts.CallersStep.{CallersStep}
use Rattle.lab_step_texts.specs.Crews.{set_up}
use Rattle.lab_step_texts.proofs.ReadingLaws.{crew_asked, crew_read, crew_there, kept_read, unasked_read}
use Rattle.lab_step_texts.proofs.reading.read_split.Goals as goal

pub returns-clause-crew : goal.returns-clause-crew
returns-clause-crew c =
    let setup = c.args.split.now.setup in
    let all : c.min-count.result ≡ set_up setup c.in-Ok.read = c.min-count.ensures ∙ ap (λ (steps : List CallersStep). min setup (length steps)) c.as_slice-steps.ensures.value in
    crew_read c.crew_of.result c.args.extras.now _ c.as_bytes.result.now setup c.min-count.result c.in-Ok.read (c.as_bytes.ensures.value ∙ c.as_str.ensures.value) c.in-Ok.ensures.opens all c.crew_of.ensures.crew

pub returns-clause-asked : goal.returns-clause-asked
returns-clause-asked c =
    crew_asked c.crew_of.result (lines c.args.text.now) c.in-Ok-questions_of.watches.items c.in-Ok-questions_of.ensures.asked c.crew_of.ensures.watches

pub returns-clause-there : goal.returns-clause-there
returns-clause-there c =
    crew_there c.crew_of.result c.args.extras.now c.in-Ok.read c.min-count.result c.in-Ok-questions_of.watches.items c.in-Ok-questions_of.ensures.there c.crew_of.ensures.watches c.crew_of.ensures.crew

pub returns-clause-kept : goal.returns-clause-kept
returns-clause-kept c =
    let setup = c.args.split.now.setup in
    let all : c.min-count.result ≡ set_up setup c.in-Ok.read = c.min-count.ensures ∙ ap (λ (steps : List CallersStep). min setup (length steps)) c.as_slice-steps.ensures.value in
    kept_read c.crew_of.result (lines c.args.text.now) _ c.as_bytes.result.now setup c.min-count.result c.in-Ok.read (c.as_bytes.ensures.value ∙ c.as_str.ensures.value) c.in-Ok.ensures.opens all c.crew_of.ensures.kept

pub returns-in-Err-questions_of-clause-kept : goal.returns-in-Err-questions_of-clause-kept
returns-in-Err-questions_of-clause-kept c =
    unasked_read (lines c.args.text.now) _ c.as_bytes.result.now c.args.split.now.setup c.in-Ok.read (c.as_bytes.ensures.value ∙ c.as_str.ensures.value) c.in-Ok.ensures.opens c.in-Err-questions_of.fault
    c.in-Err-questions_of.ensures.refused

pub returns-in-Err-clause-kept : goal.returns-in-Err-clause-kept
returns-in-Err-clause-kept c = subst (λ (t : List ℕ). IsRefused None t c.in-Err.fault) (c.as_bytes.ensures.value ∙ c.as_str.ensures.value) c.in-Err.ensures.refused
