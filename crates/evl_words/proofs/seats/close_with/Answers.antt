use Rattle.std.proofs.Common.{◌≡◌, ◌++◌, ◌∷◌, [], get_or, sym, ap, ◌∙◌, subst, append_assoc, append-nil, arith}
use Rattle.std.specs.Prelude.{All}
use mathlib.Core.Option.{some}
use Rattle.atomic_table.specs.Table.{Me}
use Rattle.evl_words.specs.Endings.{joined}
use Rattle.evl_words.proofs.Sequences.{all_at, first_is, nil_is}
use Rattle.evl_words.proofs.seats.close_with.Goals as goal

pub loop-seat-init : goal.loop-seat-init
loop-seat-init g c = ([], append-nil c.args.seats.items, c.into_token-hand.ensures.0 ∙ c.requires.last, c.into_token-hand.ensures.1)

pub join_seat-requires : goal.join_seat-requires
join_seat-requires g c =
    let t = c.args.table.shared in
    let h = c.loop-seat.invariant in
    let seat = c.in-Some.seat in
    let other = c.into_token-other in
    let items : c.pop.new.self.items ++ seat ∷ h.0 ≡ c.args.seats.items = sym (append_assoc c.pop.new.self.items (seat ∷ []) h.0) ∙ ap (λ l. l ++ h.0) (sym c.in-Some.ensures.items) ∙ h.1 in
    let mine = all_at (λ z. g.S.WordSeat.table z ≡ t.table_id) c.pop.new.self.items seat h.0 (subst (λ l. All (λ z. g.S.WordSeat.table z ≡ t.table_id) l) (sym items) c.requires.seats) in
    (h.2, other.ensures.0 ∙ mine, ap (λ (z : Me (Unit {0}) _). z.1) other.ensures.1, omega (arith, c.requires.table.0), c.requires.joins _ _ _ _)

pub returns : goal.returns
returns g c =
    let h = c.loop-seat.invariant in
    let final = c.close_with-closed.ensures.values.2 in
    let none : c.loop-seat.seats.items ≡ [] = nil_is c.loop-seat.seats.items (omega (arith, c.loop-seat.seats.ok.0, c.in_default.ensures.cases.0)) in
    let all : h.0 ≡ c.args.seats.items = ap (λ l. l ++ h.0) (sym none) ∙ h.1 in
    let hand = ap (λ (z : Me (Unit {0}) _). some z.0) h.3 in
    record {
      ends = record { state = final.0; kept = final.1.0; shown = sym (ap (λ l. get_or l 0 0) final.2 ∙ first_is _ _ c.word-word.ensures) };
      token = c.loop-seat.hand.id;
      there = final.1.1 ∙ (hand ∙ ap (λ l. some (joined g.M.Join.both g.S.WordSeat.hand (g.S.WordSeat.hand c.args.last) l)) all);
    }
