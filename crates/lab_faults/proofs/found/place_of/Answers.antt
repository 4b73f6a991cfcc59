use Rattle.std.proofs.Common.{◌==◌, ap, arith, rules}
use Rattle.lab_faults.proofs.PlaceLaws.{fed, passed}
use Rattle.lab_faults.proofs.found.place_of.Goals as goal
use Rattle.lab_faults.proofs.found.place_of.Goals.{then-byte-eq10, else-byte-eq10}

pub loop-byte-preserved : goal.loop-byte-preserved
loop-byte-preserved c = elim c.if-byte-eq10.branch [
  | then-byte-eq10 w ↦ rw w.place-is (record {
    place = fed _ _ _ _ _ c.loop-byte-test.true (ap (λ n. n == 10) w.if-byte-eq10.true) c.loop-byte.invariant.place;
    line = omega (arith, c.loop-byte.invariant.line);
    column = omega arith;
  })
  | else-byte-eq10 w ↦ rw w.place-is (record {
    place = passed _ _ _ _ _ c.loop-byte-test.true (search (rules, w.if-byte-eq10.false)) c.loop-byte.invariant.place;
    line = omega (arith, c.loop-byte.invariant.line);
    column = omega (arith, c.loop-byte.invariant.column);
  })
]
