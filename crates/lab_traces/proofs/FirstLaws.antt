-- The first line of a text, and where a text begins with none of a trace.
use Rattle.std.proofs.Common.{◌≡◌, ◌++◌, ℕ, List, Some, None, inr}
use Rattle.lab_traces.specs.Parts.{around}
use Rattle.evl_scenario.specs.Lines.{line_feed}
use Rattle.lab_traces.specs.Lines.{line_read}
use Rattle.lab_traces.specs.Says.{BeginsOtherwise}
use Rattle.lab_traces.proofs.PartLaws.{around-whole}

pub whole_is : (text line more : List ℕ) → around 10 text ≡ Some (line, more) → text ≡ line ++ (line_feed ++ more)
whole_is text line more cut = around-whole 10 text line more cut

pub none_is : (text line more : List ℕ) → around 10 text ≡ Some (line, more) → line_read line ≡ None → BeginsOtherwise text
none_is text line more cut read = inr (line, more, cut, read)
