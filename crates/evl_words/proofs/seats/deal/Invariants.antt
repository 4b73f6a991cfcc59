use Rattle.std.proofs.Common.{◌≡◌, ◌≤◌, [], map}
use Rattle.std.specs.Prelude.{vec_capacity}
use Rattle.std.specs.List.{range_with_len}
use Rattle.evl_words.specs.Endings.{left_after}
use Rattle.evl_words.proofs.seats.deal.Given as goal

abbrev pub invariant-loop-number : goal.invariant-loop-number
invariant-loop-number g l = record {
  table : l.rest.table_id ≡ l.table.shared.table_id;
  hand : l.rest.me ≡ (left_after g.M.Split.right l.fn.hand.me.0 l.number, []);
  dealt : l.dealt.items ≡ map (λ k. g.S.NewSeat.made l.table.shared.table_id l.id k (g.M.Split.left (left_after g.M.Split.right l.fn.hand.me.0 k))) (range_with_len 0 l.number);
  room : l.seats ≤ vec_capacity l.dealt;
}
