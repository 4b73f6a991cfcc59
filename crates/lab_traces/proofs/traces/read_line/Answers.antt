use Rattle.std.proofs.Common.{◌≡◌, List, ℕ, Option, Some, None, option_map, IfSome, sym, ap, ◌∙◌}
use Rattle.lab_traces.specs.Lines.{line_read, said_text}
use Rattle.lab_traces.specs.Says.{says_of}
use Rattle.lab_traces.specs.declared.traces.Says.{Says}
use Rattle.lab_traces.proofs.LineLaws.{called-back, fire-back, line-back, line-whole, opening-back}
use Rattle.lab_traces.proofs.traces.read_line.Goals as goal

pub returns-clause-back : goal.returns-clause-back
returns-clause-back c said fits same = c.read_parts.ensures ∙ ap line_read same ∙ line-back said fits

whole_where : (o : Option Says) (t : List ℕ) → option_map says_of o ≡ line_read t → IfSome o (λ says. t ≡ said_text (says_of says))
whole_where None t h = tt
whole_where (Some says) t h = line-whole t (says_of says) (sym h)

pub returns-clause-whole : goal.returns-clause-whole
returns-clause-whole c = whole_where c.read_parts.result c.args.text.now c.read_parts.ensures

pub returns-clause-called : goal.returns-clause-called
returns-clause-called c number step answer fits step_is same = c.read_parts.ensures ∙ called-back c.args.text.now number step answer fits step_is same

pub returns-clause-fire : goal.returns-clause-fire
returns-clause-fire c p fits same = c.read_parts.ensures ∙ fire-back c.args.text.now p fits same

pub returns-clause-opening : goal.returns-clause-opening
returns-clause-opening c line fits same = c.read_parts.ensures ∙ opening-back c.args.text.now line fits same
