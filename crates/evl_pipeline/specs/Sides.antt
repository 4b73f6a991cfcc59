-- How the lines of a stage lead to their callbacks. No public clause speaks of it.
use Rattle.std.specs.Prelude.{◌≡◌, ℕ, ◌≤◌, List, length, count_by, Option, Some, None, is_some, option_map, slice_index_or}
use Rattle.slab.specs.Slab.{Slab, get, slab_len}
use Rattle.evl_pipeline.specs.declared.held.Held.{Held}
use Rattle.evl_pipeline.specs.declared.port.Port.{Port}
use Rattle.evl_pipeline.specs.declared.shown.Shown.{Shown}
use Rattle.evl_pipeline.specs.Limits.{line_count}
use Rattle.evl_pipeline.specs.Lines.{Installed}

-- the port of a line
abbrev pub port_at : List (Option Port) → ℕ → Option Port
port_at ports line = slice_index_or ports line None

module _ {C : Type 0} where
  -- what a port shows
  abbrev pub installed_by : Slab (Held C) → Option Port → Option (Installed C)
  installed_by callbacks None = None
  installed_by callbacks (Some port) =
      option_map (λ held. record { callback = held.callback; tag = port.tag; count = port.count }) (get callbacks port.key)

  -- each port leads to a callback that names its line
  abbrev pub AreLinked : List (Option Port) → Slab (Held C) → Type 0
  AreLinked ports callbacks =
      (line : ℕ) (port : Port) → port_at ports line ≡ Some port → option_map (λ held. held.line) (get callbacks port.key) ≡ Some line

  -- rule: There is room for a callback on each line of each stage.
  --   clauses: Pipeline::new
  --   rows: only_new_takes_memory; a_new_pipeline_is_refused_in_short_memory
  -- the callbacks of a stage are those that its ports lead to, and there is room for one on each line
  pub record IsSoundBank (ports : List (Option Port)) (callbacks : Slab (Held C)) (unhandled : List ℕ) : Type 0 where
    pub lines : length ports ≡ line_count
    pub counts : length unhandled ≡ line_count
    pub linked : AreLinked ports callbacks
    pub filled : slab_len callbacks ≡ count_by is_some ports
    pub room : line_count ≤ callbacks.capacity

  -- what a line shows of its callback
  abbrev pub shown : (C → ℕ) → Installed C → Shown
  shown name at = record { number = name at.callback; tag = at.tag; count = at.count }
