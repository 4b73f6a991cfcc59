use Rattle.std.proofs.Common.{◌≡◌, refl, sym, ap, ◌∙◌, arith}
use Rattle.std.specs.Prelude.{None}
use mathlib.Core.Option.{none}
use Rattle.atomic_table.specs.Table.{step}
use Rattle.evl_words.specs.GateWorld.{looks}
use Rattle.evl_words.specs.GateRule.{view_in, looked}
use Rattle.evl_words.specs.GateCalls.{SeatState, GateState}
use Rattle.evl_words.proofs.GateSteps.{looks_finds}
use Rattle.evl_words.proofs.GateSeats.{gate_allows}
use Rattle.evl_words.proofs.gate.StaxGate.look_as.Goals as goal

pub load-word-requires : goal.load-word-requires
load-word-requires g c =
    let s = c.seat.inside in
    let t = c.self.inside.table.shared in
    let v = view_in s.seat.me.0 in
    let stage = g.W.Wanting.stage in
    let free : v.held.stage ≡ None = ap (λ (z : SeatState). z.view.held.stage) c.seat.view_is ∙ c.requires.free in
    let one : t.table_id.words ≡ 1 = c.self.invariant.0 in (
      ap (λ (z : SeatState). z.table) c.seat.view_is ∙ c.requires.mine.table ∙ sym (ap (λ (z : GateState). z.table) c.self.view_is),
      omega arith,
      gate_allows t.key.limit t.key.seats t.table_id.slots s.seat.id s.number s.seat.me c.seat.invariant.0 (looks stage) free (λ n. n) (λ n. refl) (step t.table_id.slots 0 0 0 none) (looked stage)
          (λ found u d. ((refl, d), looks_finds s.number v u stage found d)),
    )
