use Rattle.std.proofs.Common.{◌≡◌, ◌+◌, ◌-◌, ◌%◌, ◌^◌, refl, sym, ap, ◌∙◌, subst, arith}
use Rattle.std.specs.Prelude.{IsSome}
use mathlib.Core.Option.{none}
use Rattle.atomic_table.specs.Table.{step}
use Rattle.evl_words.specs.GateWorld.{leaves}
use Rattle.evl_words.specs.GateRule.{view_in, does}
use Rattle.evl_words.specs.GateCalls.{SeatState, GateState}
use Rattle.evl_words.proofs.GateSeats.{gate_allows}
use Rattle.evl_words.proofs.gate.StaxGate.unlock.Goals as goal

pub fetch_sub-requires : goal.fetch_sub-requires
fetch_sub-requires g c =
    let s = c.seat.inside in
    let t = c.self.inside.table.shared in
    let st = step t.table_id.slots 0 1 0 none in
    let holds : IsSome (view_in s.seat.me.0).held.stage = subst IsSome (sym c.seat.invariant.1) c.if-is_none.ensures in
    let one : t.table_id.words ≡ 1 = c.self.invariant.0 in (
      ap (λ (z : SeatState). z.table) c.seat.view_is ∙ c.requires.table ∙ sym (ap (λ (z : GateState). z.table) c.self.view_is),
      omega arith,
      gate_allows t.key.limit t.key.seats t.table_id.slots s.seat.id s.number s.seat.me c.seat.invariant.0 leaves holds (λ n. (n + (2 ^ 64 - 1)) % 2 ^ 64) (λ n. refl) st (does leaves) (λ found u d. (refl, d)),
    )
