use Rattle.std.proofs.Common.{◌≡◌, ◌++◌, map}
use Rattle.std.specs.Slice.Iter.{iter_rest}
use Rattle.lab_drawing.specs.Standings.{told_at}
use Rattle.lab_moments.specs.Moments.{moment_shown}
use Rattle.lab_caller_pictures.specs.Joins.{all_joined}
use Rattle.lab_caller_pictures.proofs.joins.all_joined.Given as goal

abbrev pub invariant-loop-moment : goal.invariant-loop-moment
invariant-loop-moment l =
    map told_at l.all.items ++ all_joined (map moment_shown l.fn.shown) (map told_at l.moment-iterator.a.rest.items) (iter_rest l.moment-iterator.b)
    ≡ all_joined (map moment_shown l.fn.shown) (map told_at l.fn.words.items) l.fn.entered
