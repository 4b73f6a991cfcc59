use Rattle.std.proofs.Common.{◌≡◌, ◌++◌, drop, flat_map, map}
use Rattle.std.specs.Prelude.{string_bytes}
use Rattle.lab_step_orders.specs.Reports.{comment}
use Rattle.lab_step_orders.proofs.reports.put_comments.Given as goal

abbrev pub invariant-loop-line : goal.invariant-loop-line
invariant-loop-line l =
    string_bytes l.text ++ flat_map comment (map (λ line. line.now) (drop l.line-index l.all)) ≡ string_bytes l.initial.text ++ flat_map comment (map (λ line. line.now) l.all)
