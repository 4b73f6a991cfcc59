use Rattle.std.proofs.Common.{◌≡◌, ◌==◌, true, Some, [], ap, sym, subst, ◌∙◌, List, ℕ, string_bytes, length, vec_len, arith, refl}
use Rattle.std.proofs.lemmas.Grind.{common_steps}
use Rattle.toml_parser.specs.Lexical.{first}
use Rattle.toml_parser.specs.Reading.{path_view}
use Rattle.toml_parser.specs.Strings.{key}
use Rattle.toml.specs.Parse.{val}
use Rattle.toml.specs.View.{view}
use Rattle.evl_scenario.proofs.CommonLaws.{pair_line, path_none}
use Rattle.evl_scenario.proofs.common.read_pair.Goals as goal

pub returns-then-is_line_end-clause-value : goal.returns-then-is_line_end-clause-value
returns-then-is_line_end-clause-value c other =
    let at = c.in-Ok.at_sign.now in
    let k = c.in-Ok.key in
    let whole : length k.path.items ≡ vec_len k.path = omega (arith, k.path.ok.0) in
    let empty : (length k.path.items == 0) ≡ true = ap (λ (n : ℕ). n == 0) whole ∙ sym c.is_empty.ensures ∙ c.if-not-is_empty.false in
    let is : (first at == 61) ≡ true = grind (arith, common_steps) in
    let read : key c.args.s.now ≡ Some (([], string_bytes k.last), at) =
    c.in-Ok.ensures.value ∙ ap (λ (path : List (List ℕ)). Some ((path, string_bytes k.last), at)) (path_none k.path.items empty) in
    pair_line c.args.s.now at c.in_ok-value.rest.now (string_bytes k.last) (view c.in_ok-value.value) other read is
    (rw (c.skip_ws.ensures.rest, c.skip.ensures.rest) at c.in_ok-value.ensures.value)
    (sym c.is_line_end.ensures ∙ c.if-is_line_end.true)
