use Rattle.std.proofs.Common.{◌≡◌, ◌∙◌, Bor, List, ℕ, ap, map}
use Rattle.std.specs.Str.Lines.{lines}
use Rattle.lab_traces.specs.Says.{parts_of}
use Rattle.lab_traces.specs.declared.entries.EntryLine.{EntryLine}
use Rattle.lab_lines.specs.Met.{entries_of}
use Rattle.lab_lines.proofs.MetLaws.{met_as}
use Rattle.lab_lines.proofs.met.judge_trace.Goals as goal

pub returns : goal.returns
returns c =
    let same : map parts_of c.as_slice-2.result.now ≡ entries_of (lines c.args.trace.now) =
    ap (λ (es : List EntryLine). map parts_of es) c.as_slice-2.ensures.value ∙ c.in_ok-entries.ensures
    ∙ ap (λ (ls : List (Bor (List ℕ))). entries_of (map (λ line. line.now) ls)) c.as_slice.ensures.value ∙ ap entries_of c.in_ok-all.ensures in
    met_as _ _ _ c.args.expected.now c.judge_met.result same c.judge_met.ensures
