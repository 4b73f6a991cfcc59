use Rattle.std.proofs.Common.{◌≤◌, None, map, option_map, slice_index_or, refl, sym, ap, ◌∙◌, arith}
use Rattle.std.proofs.lemmas.List.{length-map}
use Rattle.evl_pipeline.specs.Limits.{line_count}
use Rattle.evl_pipeline.specs.Names.{named}
use Rattle.evl_pipeline.proofs.PortLaws.{at-map}
use Rattle.evl_pipeline.proofs.LikenessLaws.{nothing-shown, places-all, places-more}
use Rattle.evl_pipeline.proofs.side.likeness.are_lines_alike.Goals as goal

pub returns-then-not-is_line_alike-clause-other : goal.returns-then-not-is_line_alike-clause-other
returns-then-not-is_line_alike-clause-other g c same =
    let f = option_map (named g.C.Named.name) in let ours = c.args.ours.now.installed in let theirs = c.args.theirs.now.installed in let line = c.loop-line.line in
    c.if-not-is_line_alike.ensures.other (sym (at-map f ours line None) ∙ ap (λ all. slice_index_or all line None) same ∙ at-map f theirs line None)

pub loop-line-preserved : goal.loop-line-preserved
loop-line-preserved g c =
    let f = option_map (named g.C.Named.name) in let ours = c.args.ours.now.installed in let theirs = c.args.theirs.now.installed in let line = c.loop-line.line in
    places-more None (map f ours) (map f theirs) line (at-map f ours line None ∙ c.if-not-is_line_alike.ensures.alike refl ∙ sym (at-map f theirs line None)) c.loop-line.invariant

pub returns-clause-alike : goal.returns-clause-alike
returns-clause-alike g c _ =
    let f = option_map (named g.C.Named.name) in let ours = c.args.ours.now.installed in let theirs = c.args.theirs.now.installed in
    let first : c.end.result ≤ c.loop-line.line = omega (arith, c.loop-line-test.false, c.max-line-end.ensures) in
    let second : c.end-2.result ≤ c.loop-line.line = omega (arith, c.loop-line-test.false, c.max-line-end.ensures) in
    places-all None (map f ours) (map f theirs) line_count c.loop-line.line c.end.result c.end-2.result
    (length-map ours f ∙ c.end.ensures.lines) (length-map theirs f ∙ c.end-2.ensures.lines) first second
    (nothing-shown f None ours c.end.result c.end.ensures.free) (nothing-shown f None theirs c.end-2.result c.end-2.ensures.free) c.loop-line.invariant
