use Rattle.std.proofs.Common.{◌≡◌, ◌∙◌, rules, ap, ap₂, codes}
use Rattle.std.specs.Int.{int_max, int_min}
use Rattle.std.specs.Prelude.{ℤ, pos}
use Rattle.clap.specs.Simple.{app_of_fields}
use Rattle.clap.specs.Words.{app_of, new_app, rule_of, signed_between, with_rule}
use Rattle.clap.specs.declared.builder.value_parser.ValueParser.{ValueParser}
use Rattle.clap.specs.declared.builder.value_parser.ValueParser.TheVariants.{Signed}
use Rattle.evl_shell.specs.Arguments.{file_rule, limit_rule}
use Rattle.evl_shell.proofs.arguments.command_line.Goals as goal

-- the range of a `u32` within two bounds
abbrev narrowed_to : ℤ → ℤ → ValueParser
narrowed_to least most = signed_between (int_max (pos 0) least) (int_min (pos 4294967295) most)

pub returns : goal.returns
returns c =
    let file_is : rule_of c.help-file.result ≡ file_rule = search rules in
    let narrowed : c.range.result ≡ narrowed_to c.new-3.result.start c.new-3.result.end = rw c.value_parser.ensures at c.range.ensures in
    let range_is : c.range.result ≡ Signed (pos 1) (pos 1000000) = narrowed ∙ ap₂ narrowed_to c.new-3.ensures.start c.new-3.ensures.end in
    let given = c.value_parser-2.ensures.given in
    let parser_is : given.0 ≡ Signed (pos 1) (pos 1000000) = given.2 ∙ range_is in
    let limit_is : rule_of c.help-limit.result ≡ limit_rule = search rules in
    let about_is : app_of c.about.result ≡ new_app (codes "evl") = ap app_of_fields c.about.ensures ∙ c.new-4.ensures.app in
    c.in_ok-command.ensures.shape (search rules) ∙ ap₂ with_rule (c.in_ok-arg.ensures.shape (search rules) ∙ ap₂ with_rule about_is file_is) limit_is
