use Rattle.std.proofs.Common.{◌≡◌, refl, sym, ap, ◌∙◌, arith}
use Rattle.std.specs.Prelude.{bit_or}
use mathlib.Core.Option.{none}
use Rattle.atomic_table.specs.Table.{step}
use Rattle.evl_words.specs.GateWorld.{claims}
use Rattle.evl_words.specs.GateRule.{does}
use Rattle.evl_words.specs.GateCalls.{SeatState, GateState}
use Rattle.evl_words.proofs.GateSeats.{gate_allows}
use Rattle.evl_words.proofs.gate.StaxGate.claim.Goals as goal

pub fetch_or-requires : goal.fetch_or-requires
fetch_or-requires g c =
    let s = c.seat.inside in
    let t = c.self.inside.table.shared in
    let st = step t.table_id.slots 0 2147483648 0 none in
    let one : t.table_id.words ≡ 1 = c.self.invariant.0 in (
      ap (λ (z : SeatState). z.table) c.seat.view_is ∙ c.requires.table ∙ sym (ap (λ (z : GateState). z.table) c.self.view_is),
      omega arith,
      gate_allows t.key.limit t.key.seats t.table_id.slots s.seat.id s.number s.seat.me c.seat.invariant.0 claims tt (λ n. bit_or n 2147483648) (λ n. refl) st (does claims) (λ found u d. (refl, d)),
    )
