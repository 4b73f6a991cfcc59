use Rattle.std.proofs.Common.{arith, Some, sym, subst}
use Rattle.std.proofs.lemmas.Str.Pattern.{split_once_first}
use Rattle.lab_traces.specs.Parts.{Lacks}
use Rattle.lab_traces.proofs.PartLaws.{first_lacks}
use Rattle.lab_traces.proofs.parts.around_line_feed.Goals as goal

pub returns-in-Some-clause-apart : goal.returns-in-Some-clause-apart
returns-in-Some-clause-apart c =
    let cut = split_once_first 10 c.args.text.now (Some c.in-Some.parts) c.in-Some.ensures.cases (omega arith) in
    subst (Lacks 10) (sym cut.1) (first_lacks 10 c.args.text.now)
