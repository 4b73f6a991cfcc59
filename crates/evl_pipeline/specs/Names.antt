-- The same lines, with each callback replaced by its name.
use Rattle.std.specs.Prelude.{map}
use Rattle.std.specs.Option.{option_map}
use Rattle.evl_pipeline.specs.Lines.{Pipeline, Side, Installed}

module _ {X Y : Type 0} where
  abbrev pub named : (X → Y) → Installed X → Installed Y
  named name at = record { callback = name at.callback; tag = at.tag; count = at.count }

  abbrev pub named_side : (X → Y) → Side X → Side Y
  named_side name s = record { stalled = s.stalled; pending = s.pending; installed = map (option_map (named name)) s.installed; unhandled = s.unhandled }

  abbrev pub named_pipeline : (X → Y) → Pipeline X → Pipeline Y
  named_pipeline name p = record { oob = named_side name p.oob; inband = named_side name p.inband; spurious = p.spurious }
