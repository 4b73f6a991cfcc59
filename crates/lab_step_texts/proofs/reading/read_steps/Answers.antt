use Rattle.std.proofs.Common.{◌∙◌, inl, inr, refl, sym}
use Rattle.evl_scenario.proofs.Texts.{is_utf8-false}
use Rattle.lab_step_texts.proofs.ReadingLaws.{crew_split, refused_read, unplain_refused}
use Rattle.lab_step_texts.proofs.reading.read_steps.Goals as goal

pub returns-clause-crew : goal.returns-clause-crew
returns-clause-crew c =
    let extras = c.in-Ok-extras_of.ensures in
    let checked = c.in-Ok-check_extras.ensures in
    let split = c.in-Ok-split_text.ensures in
    crew_split c.read_split.result c.in-Ok-extras_of.extras c.args.bytes.now c.in-Ok.text.now _ _ _ c.in-Ok.ensures.cases.0 (sym extras.strange ∙ checked.strange) (sym extras.stray ∙ checked.stray) (record { ways = extras.ways; what_if = extras.what_if })
    (c.as_str.ensures.value ∙ extras.plain) (sym split.mixed ∙ c.if-split.false) split.scenario split.setup c.read_split.ensures.asked c.read_split.ensures.there c.read_split.ensures.crew

pub returns-clause-refused : goal.returns-clause-refused
returns-clause-refused c =
    let extras = c.in-Ok-extras_of.ensures in
    let split = c.in-Ok-split_text.ensures in
    refused_read c.read_split.result c.args.bytes.now c.in-Ok.text.now _ _ _ c.in-Ok.ensures.cases.0 (c.as_str.ensures.value ∙ extras.plain) split.scenario split.setup c.read_split.ensures.kept

pub returns-in-Err-clause-refused : goal.returns-in-Err-clause-refused
returns-in-Err-clause-refused c =
    let extras = c.in-Ok-extras_of.ensures in
    unplain_refused c.args.bytes.now c.in-Ok.text.now c.in-Ok-extras_of.extras c.in-Ok.ensures.cases.0 extras.strange extras.stray c.in-Err.fault c.in-Err.ensures.refused

pub returns-in_default-clause-refused : goal.returns-in_default-clause-refused
returns-in_default-clause-refused c = inr (inl (refl, is_utf8-false c.args.bytes.now c.in_default.ensures.cases.0))
