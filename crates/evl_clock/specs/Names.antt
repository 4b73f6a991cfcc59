-- The same clock, with each callback replaced by its name.
use Rattle.std.specs.Prelude.{map}
use Rattle.std.specs.Option.{option_map}
use Rattle.evl_clock.specs.declared.timer.Timer.{Timer}
use Rattle.evl_clock.specs.Clocks.{Clock}

module _ {X Y : Type 0} where
  abbrev pub named_timer : (X → Y) → Timer X → Timer Y
  named_timer name t = record { callback = name t.callback; tag = t.tag; count = t.count; overruns = t.overruns; state = t.state }

  abbrev pub named_clock : (X → Y) → Clock X → Clock Y
  named_clock name c = record { now = c.now; timers = map (option_map (named_timer name)) c.timers; deadlines = c.deadlines }
