use Rattle.std.proofs.Common.{◌∙◌, arith}
use Rattle.lab_lines.proofs.TextLaws.{all_meant, all_unwritten}
use Rattle.lab_lines.proofs.texts.write_all.Goals as goal

pub returns-in-Ok-clause-means : goal.returns-in-Ok-clause-means
returns-in-Ok-clause-means c =
    all_meant c.write_steps.result c.args.opening c.args.limit c.args.setup.items c.args.steps.items c.as_slice.result.now _ _ c.unwrap_or-limit.ensures
    (c.as_slice.ensures.value ∙ c.in-Ok.ensures.joined) (omega (arith, c.len-count.ensures, c.args.setup.ok.0)) c.write_steps.ensures.scenario c.write_steps.ensures.reads c.write_steps.ensures.setup

pub returns-in-Ok-clause-refused : goal.returns-in-Ok-clause-refused
returns-in-Ok-clause-refused c =
    all_unwritten c.write_steps.result c.args.opening c.args.limit c.args.setup.items c.args.steps.items c.as_slice.result.now _ c.unwrap_or-limit.ensures
    (c.as_slice.ensures.value ∙ c.in-Ok.ensures.joined) c.write_steps.ensures.refused
