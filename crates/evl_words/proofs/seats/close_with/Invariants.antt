use Rattle.std.proofs.Common.{◌≡◌, ◌++◌, [], List}
use Rattle.std.specs.Prelude.{vec_len}
use Rattle.evl_words.specs.Endings.{joined}
use Rattle.evl_words.proofs.seats.close_with.Given as goal

abbrev pub invariant-loop-seat : goal.invariant-loop-seat
invariant-loop-seat g l =
    (done : List _) × (l.seats.items ++ done ≡ l.fn.seats.items) × (l.hand.table_id ≡ l.table.shared.table_id) × (l.hand.me ≡ (joined g.M.Join.both g.S.WordSeat.hand (g.S.WordSeat.hand l.fn.last) done, []))

abbrev pub decreases-loop-seat : goal.decreases-loop-seat
decreases-loop-seat g l = vec_len l.seats
