use Rattle.std.proofs.Common.{◌≤◌, length}
use denote.Text.{Utf8}
use denote.Shadow.{shadow}
use Rattle.toml.specs.View.{table_view}
use Rattle.evl_scenario.proofs.CommonLaws.{Filled}
use Rattle.evl_scenario.proofs.common.read_pairs.Given as goal

abbrev pub invariant-pairs : goal.invariant-pairs
invariant-pairs l = shadow (Utf8 l.rest) × (length l.rest ≤ length l.fn.s) × Filled l.fn.s (table_view l.table) l.rest

abbrev pub decreases-pairs : goal.decreases-pairs
decreases-pairs l = length l.rest
