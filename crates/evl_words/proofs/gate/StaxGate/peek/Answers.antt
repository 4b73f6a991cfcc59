use Rattle.std.proofs.Common.{◌≡◌, refl, sym, ap, ◌∙◌, arith}
use mathlib.Core.Option.{none}
use Rattle.atomic_table.specs.Table.{step}
use Rattle.evl_words.specs.GateWorld.{peeks}
use Rattle.evl_words.specs.GateRule.{does}
use Rattle.evl_words.specs.GateCalls.{SeatState, GateState}
use Rattle.evl_words.proofs.GateSeats.{gate_allows}
use Rattle.evl_words.proofs.gate.StaxGate.peek.Goals as goal

pub load-requires : goal.load-requires
load-requires g c =
    let s = c.seat.inside in
    let t = c.self.inside.table.shared in
    let st = step t.table_id.slots 0 0 0 none in
    let one : t.table_id.words ≡ 1 = c.self.invariant.0 in (
      ap (λ (z : SeatState). z.table) c.seat.view_is ∙ c.requires.table ∙ sym (ap (λ (z : GateState). z.table) c.self.view_is),
      omega arith,
      gate_allows t.key.limit t.key.seats t.table_id.slots s.seat.id s.number s.seat.me c.seat.invariant.0 peeks tt (λ n. n) (λ n. refl) st (does peeks) (λ found u d. (refl, d)),
    )
