use Rattle.std.proofs.Common.{◌∙◌, ap₂}
use Rattle.std.specs.Int.{int_max, int_min}
use Rattle.std.specs.Prelude.{ℤ, pos}
use Rattle.clap.specs.Words.{signed_between}
use Rattle.clap.specs.declared.builder.value_parser.ValueParser.{ValueParser}
use Rattle.lab.proofs.options.to_a_million.Goals as goal

-- the range of a `u32` within two bounds
abbrev narrowed_to : ℤ → ℤ → ValueParser
narrowed_to least most = signed_between (int_max (pos 0) least) (int_min (pos 4294967295) most)

pub returns : goal.returns
returns c = (rw c.value_parser.ensures at c.range.ensures) ∙ ap₂ narrowed_to c.new.ensures.start c.new.ensures.end
