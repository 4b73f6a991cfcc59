use Rattle.std.proofs.Common.{◌≡◌, suc, ◌+◌, ◌++◌, ◌∷◌, [], length, sym, ap, ◌∙◌, subst, zero-add, arith}
use Rattle.std.proofs.lemmas.List.FromFn.{length-map-range_with_len, map-range_with_len_more}
use Rattle.atomic_table.specs.Table.{Me}
use Rattle.evl_words.specs.Endings.{left_after}
use Rattle.evl_words.proofs.seats.deal.Goals as goal

pub loop-number-init : goal.loop-number-init
loop-number-init g c = record {
  table = c.requires.table.1;
  hand = λ i. (c.args.hand.me.0, c.requires.table.2 i);
  dealt = c.requires.room.0;
  room = c.requires.room.1;
}

pub split_seat-others-requires : goal.split_seat-others-requires
split_seat-others-requires g c = let one = c.requires.table.0 in (c.loop-number.invariant.table, omega arith, c.requires.splits c.loop-number.rest.id c.loop-number.rest.me.0)

pub of_token-requires : goal.of_token-requires
of_token-requires g c =
    let h = c.loop-number.invariant in
    let e = c.split_seat-others.ensures in
    let hand = ap (λ (z : Me (Unit {0}) _). z.0) e.2 ∙ ap (λ (z : Me (Unit {0}) _). g.M.Split.left z.0) h.hand in
    (subst (λ x. g.S.NewSeat.begins c.loop-number.number x) (sym hand) (c.requires.begins c.loop-number.number c.loop-number-test.true), ap (λ (z : Me (Unit {0}) _). z.1) e.2 ∙ ap (λ (z : Me (Unit {0}) _). z.1) h.hand)

pub push_reserved-requires : goal.push_reserved-requires
push_reserved-requires g c =
    let h = c.loop-number.invariant in
    let l = ap length h.dealt ∙ length-map-range_with_len (λ k. g.S.NewSeat.made c.args.table.now.shared.table_id c.args.id k (g.M.Split.left (left_after g.M.Split.right c.args.hand.me.0 k))) 0 c.loop-number.number in
    omega (arith, h.room, c.loop-number.dealt.ok.0)

pub loop-number-preserved : goal.loop-number-preserved
loop-number-preserved g c =
    let h = c.loop-number.invariant in
    let n = c.loop-number.number in
    let e = c.split_seat-others.ensures in
    let made = g.S.NewSeat.made in
    let left = g.M.Split.left in
    let right = g.M.Split.right in
    let first = c.args.hand.me.0 in
    let next : suc n ≡ n + 1 = omega arith in
    let table = e.0 ∙ h.table in
    let hand = ap (λ (z : Me (Unit {0}) _). z.0) e.2 ∙ ap (λ (z : Me (Unit {0}) _). left z.0) h.hand in
    record {
      table = e.3 ∙ h.table;
      hand = e.4 ∙ ((λ i. (right ((h.hand i).0), [])) ∙ (λ i. (left_after right first (next i), [])));
      dealt = c.push_reserved.ensures.items ∙ (λ i. h.dealt i ++ (c.of_token.ensures ∙ (λ j. made (table j) c.args.id n (hand j))) i ∷ []) ∙ sym (map-range_with_len_more (λ k. made c.args.table.now.shared.table_id c.args.id k (left (left_after right first k))) 0 n n (zero-add n));
      room = omega (arith, h.room, c.push_reserved.ensures.capacity);
    }
