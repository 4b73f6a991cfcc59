use Rattle.std.proofs.Common.{◌≡◌, ◌≤◌, ◌+◌, refl, sym, ap, ◌∙◌, subst, eqb, ne_eqb, arith}
use Rattle.std.specs.Prelude.{None}
use mathlib.Core.Option.{none}
use prog.Atomic.{either}
use Rattle.atomic_table.specs.Table.{step}
use Rattle.evl_words.specs.Gate.{entry_refusal}
use Rattle.evl_words.specs.GateWord.{count_in, stage_in, packed_gate, word_refusal, entered_word}
use Rattle.evl_words.specs.GateWorld.{exchanges}
use Rattle.evl_words.specs.GateRule.{Finds, Shows, view_in, entered}
use Rattle.evl_words.specs.GateCalls.{SeatState, GateState}
use Rattle.evl_words.proofs.GateLaws.{open_to}
use Rattle.evl_words.proofs.GateSteps.{exchange_enters}
use Rattle.evl_words.proofs.GateSeats.{gate_allows, gate_told, races}
use Rattle.evl_words.proofs.gate.StaxGate.exchange_as.Goals as goal

pub overflow_add-new : goal.overflow_add-new
overflow_add-new g c =
    let room = (open_to c.args.self.now.limit (count_in c.args.word) (stage_in c.args.word) c.args.stage c.requires.fits).1 in
    let most : c.self.inside.limit ≤ 1000 = c.self.invariant.3 in
    let limit : c.self.inside.limit ≡ c.args.self.now.limit = ap (λ (z : GateState). z.limit) c.self.view_is in
    let holders : c.of-old.result.holders ≡ count_in c.args.word = c.of-old.ensures.0 in
    omega arith

pub compare_exchange-found-requires : goal.compare_exchange-found-requires
compare_exchange-found-requires g c =
    let s = c.seat.inside in
    let t = c.self.inside.table.shared in
    let st = step t.table_id.slots 0 c.args.word c.pack.result none in
    let free : (view_in s.seat.me.0).held.stage ≡ None = ap (λ (z : SeatState). z.view.held.stage) c.seat.view_is ∙ c.requires.free in
    let limit : (view_in s.seat.me.0).held.limit ≡ c.args.self.now.limit = ap (λ (z : SeatState). z.view.held.limit) c.seat.view_is ∙ c.requires.mine.limit in
    let fits : word_refusal (view_in s.seat.me.0).held.limit c.args.word g.W.Wanting.stage ≡ None = (λ i. word_refusal (limit i) c.args.word (sym c.requires.wanted i)) ∙ c.requires.fits in
    let new : c.pack.result ≡ entered_word c.args.word g.W.Wanting.stage = c.pack.ensures ∙ (λ i. packed_gate (c.of-old.ensures.0 i + 1) (c.requires.wanted i) (c.of-old.ensures.2 i)) in
    let one : t.table_id.words ≡ 1 = c.self.invariant.0 in (
      ap (λ (z : SeatState). z.table) c.seat.view_is ∙ c.requires.mine.table ∙ sym (ap (λ (z : GateState). z.table) c.self.view_is),
      omega arith,
      gate_allows t.key.limit t.key.seats t.table_id.slots s.seat.id s.number s.seat.me c.seat.invariant.0 (exchanges g.W.Wanting.stage c.args.word) (free, fits) (λ n. either (eqb n c.args.word) c.pack.result n)
          (λ n. ap (λ z. either (eqb n c.args.word) z n) (sym new)) st (entered g.W.Wanting.stage)
          (λ found u d. ((refl, d), exchange_enters s.number (view_in s.seat.me.0) u g.W.Wanting.stage found c.args.word d)),
    )

pub returns-in-None-clause-err : goal.returns-in-None-clause-err
returns-in-None-clause-err g c =
    let s = c.seat.inside in
    let t = c.self.inside.table.shared in
    let st = step t.table_id.slots 0 c.args.word c.pack.result none in
    let found = c.compare_exchange-found.result in
    let now = c.args.seat.now in
    let told = gate_told s.number s.seat.me c.compare_exchange-found.new.seat.me st found (entered g.W.Wanting.stage) (λ w h. h.0.0) c.seat.invariant.0 c.compare_exchange-found.ensures.2 in
    let limit : now.view.held.limit ≡ c.self.inside.limit = c.requires.mine.limit ∙ sym (ap (λ (z : GateState). z.limit) c.self.view_is) in
    let found_free : word_refusal now.view.held.limit found c.args.stage ≡ None = (λ i. entry_refusal (limit i) (sym c.of.ensures.0 i) (sym c.of.ensures.1 i) c.args.stage) ∙ (sym c.refusal.ensures ∙ c.in-None.is) in
    let finds : Finds s.number (view_in s.seat.me.0) g.W.Wanting.stage found (view_in c.compare_exchange-found.new.seat.me.0) = rw (ne_eqb found c.args.word c.if-found-word.false) at told.1.1 in
    let finds' : Finds now.number now.view c.args.stage found (view_in c.compare_exchange-found.new.seat.me.0) =
    subst (λ (z : SeatState). Finds z.number z.view c.args.stage found (view_in c.compare_exchange-found.new.seat.me.0)) c.seat.view_is
    (subst (λ w. Finds s.number (view_in s.seat.me.0) w found (view_in c.compare_exchange-found.new.seat.me.0)) (sym c.requires.wanted) finds) in
    let fits : word_refusal now.view.held.limit c.args.word c.args.stage ≡ None = ap (λ l. word_refusal l c.args.word c.args.stage) c.requires.mine.limit ∙ c.requires.fits in
    let shown : Shows now.view.held.limit now.view.seen c.args.word = subst (λ l. Shows l now.view.seen c.args.word) (sym c.requires.mine.limit) c.requires.shown in (
      c.requires.free,
      finds'.0,
      races now _ c.args.stage c.args.word found (λ e. c.if-found-word.false (sym e)) fits found_free shown finds',
    )
