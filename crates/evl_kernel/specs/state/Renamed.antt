-- The same lines and the same clock, with other names for what is there.
use Rattle.std.specs.Prelude.{map}
use Rattle.std.specs.Option.{option_map}
use Rattle.evl_pipeline.specs.Lines.{Pipeline, Side, Installed}
use Rattle.evl_clock.specs.declared.timer.Timer.{Timer}
use Rattle.evl_clock.specs.Clocks.{Clock}

module _ {X Y : Type 0} where
  abbrev pub named : (X → Y) → Installed X → Installed Y
  named name at = record { callback = name at.callback; tag = at.tag; count = at.count }

  abbrev pub renamed_side : (X → Y) → Side X → Side Y
  renamed_side name s = record { stalled = s.stalled; pending = s.pending; installed = map (option_map (named name)) s.installed; unhandled = s.unhandled }

  abbrev pub renamed : (X → Y) → Pipeline X → Pipeline Y
  renamed name p = record { oob = renamed_side name p.oob; inband = renamed_side name p.inband; spurious = p.spurious }

  abbrev pub named_timer : (X → Y) → Timer X → Timer Y
  named_timer name t = record { callback = name t.callback; tag = t.tag; count = t.count; overruns = t.overruns; state = t.state }

  abbrev pub renamed_clock : (X → Y) → Clock X → Clock Y
  renamed_clock name c = record { now = c.now; timers = map (option_map (named_timer name)) c.timers; deadlines = c.deadlines }
