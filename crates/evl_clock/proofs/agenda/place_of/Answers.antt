use Rattle.std.proofs.Common.{◌<◌, ◌+◌, ◌-◌, ◌/◌, length, sym, ◌∙◌, arith}
use Rattle.evl_clock.specs.declared.agenda.Entry.{Entry}
use Rattle.evl_clock.proofs.AgendaLaws.{place-above, place-below, place-range}
use Rattle.evl_clock.proofs.agenda.place_of.Goals as goal

abbrev none : Entry
none = record { date = 0; place = 0 }

pub loop-low-init : goal.loop-low-init
loop-low-init c = record { below = omega arith; above = place-range c.args.entry c.args.entries.now; inside = omega arith }

pub loop-low-preserved-then-is_before : goal.loop-low-preserved-then-is_before
loop-low-preserved-then-is_before c =
    let xs = c.args.entries.now in let middle = c.loop-low.low + (c.loop-low.high - c.loop-low.low) / 2 in
    let inside : middle < length xs = omega (arith, c.loop-low.invariant.inside, c.loop-low-test.true) in
    record {
      below = omega (arith, place-above c.args.entry xs middle none c.requires.ordered inside (sym c.is_before.ensures.before ∙ c.if-is_before.true));
      above = c.loop-low.invariant.above;
      inside = c.loop-low.invariant.inside;
    }

pub loop-low-preserved : goal.loop-low-preserved
loop-low-preserved c =
    let xs = c.args.entries.now in let middle = c.loop-low.low + (c.loop-low.high - c.loop-low.low) / 2 in
    let inside : middle < length xs = omega (arith, c.loop-low.invariant.inside, c.loop-low-test.true) in
    record {
      below = c.loop-low.invariant.below;
      above = place-below c.args.entry xs middle none inside (sym c.is_before.ensures.before ∙ c.if-is_before.false);
      inside = omega (arith, inside);
    }
