use Rattle.std.proofs.Common.{◌≡◌, ℕ, ◌+◌, ◌*◌, ◌<◌, ◌≤◌, length}
use denote.Text.{Utf8}
use denote.Shadow.{shadow}
use Rattle.toml.specs.Data.{no_items}
use Rattle.toml.specs.Parse.{val, items}
use Rattle.toml.specs.View.{array_view}
use Rattle.evl_scenario.proofs.common.+read_value.Given as goal

abbrev pub decreases-read_list : goal.decreases-read_list
decreases-read_list l = 2 * l.depth + 2

abbrev pub decreases-read_value : goal.decreases-read_value
decreases-read_value l = 2 * l.depth + 1

abbrev pub invariant-read_list-items : goal.invariant-read_list-items
invariant-read_list-items l =
    shadow (Utf8 l.rest) × (length l.rest ≤ length l.fn.s)
    × ((n : ℕ) → length l.fn.s < n → (m : ℕ) × (length l.rest < m)
    × (items (val l.fn.depth) n no_items l.fn.s ≡ items (val l.fn.depth) m (array_view l.found) l.rest))

abbrev pub decreases-read_list-items : goal.decreases-read_list-items
decreases-read_list-items l = length l.rest
