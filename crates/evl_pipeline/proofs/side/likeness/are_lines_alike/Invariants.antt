use Rattle.std.proofs.Common.{None, map, option_map}
use Rattle.evl_pipeline.specs.Names.{named}
use Rattle.evl_pipeline.proofs.LikenessLaws.{AreAlike}
use Rattle.evl_pipeline.proofs.side.likeness.are_lines_alike.Given as goal

abbrev pub invariant-loop-line : goal.invariant-loop-line
invariant-loop-line g l = AreAlike None (map (option_map (named g.C.Named.name)) l.ours.installed) (map (option_map (named g.C.Named.name)) l.theirs.installed) l.line
