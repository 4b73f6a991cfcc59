use Rattle.std.proofs.Common.{◌≡◌, ◌<◌, ◌+◌, ◌-◌, refl, subst, arith}
use mathlib.Core.Option.{none}
use Rattle.atomic_table.specs.Table.{step}
use Rattle.evl_core.specs.rule.Known.{mutex_count}
use Rattle.evl_core.specs.words.Noted.{Stood}
use Rattle.evl_machine.proofs.mutex_locks.InWords.{looks_known}
use Rattle.evl_machine.proofs.in_word.look_at.Goals as goal

pub load-requires : goal.load-requires
load-requires g c =
    let s = c.args.core.now.shared in
    let i = c.from-word.result in
    let e = c.from-word.ensures in
    let here = c.requires.there in
    let words = c.requires.words in
    let within : i < mutex_count s.key.value = omega (arith, here, e) in (
      c.requires.table,
      omega (arith, within, words),
      looks_known s.key.value s.table_id.slots c.args.seat.now.id c.args.seat.now.me i within (step s.table_id.slots (1 + i) 0 0 none) refl,
    )

pub returns-clause-stood : goal.returns-clause-stood
returns-clause-stood g c =
    let e = c.from-word.ensures in
    let one : 1 + c.from-word.result - 1 ≡ c.args.mutex.0 = omega (arith, e) in
    subst (λ i. Stood c.args.seat.now.me.0 i c.load.result) one c.load.ensures.2.1
