use Rattle.std.proofs.Common.{◌≡◌, ◌<◌, ◌≤◌, Some, length, vec_capacity, slice_get, slice_set, sym, ap, ◌∙◌, arith}
use Rattle.std.proofs.lemmas.List.{get_or-map, length-map, length-set, map-set}
use Rattle.std.proofs.lemmas.List.Edits.{map_over_more}
use Rattle.std.proofs.lemmas.Option.{slice_get-get_or}
use Rattle.evl_mutex.specs.Mutexes.{Mutex, opened_mutex}
use Rattle.evl_mutex.specs.Views.{mutex_of, mutexes_of}
use Rattle.evl_mutex.proofs.SoundLaws.{all-at, all-set}
use Rattle.evl_mutex.proofs.FillLaws.{whole_map}
use Rattle.evl_mutex.proofs.mutex_record.clear_all.Goals as goal

pub loop-i-preserved : goal.loop-i-preserved
loop-i-preserved g c =
    let xs = mutexes_of c.args.mutexes.now.items in let ms = c.loop-i.mutexes.items in let i = c.loop-i.i in let is = c.loop-i.invariant in
    let before = c.index_mut.result.now in let new = c.clear.new.self in
    let inside : i < length xs = omega (arith, c.loop-i-test.true, c.len-i-end.ensures, length-map c.args.mutexes.now.items mutex_of) in
    let within : i < length ms = omega (arith, c.loop-i-test.true, c.len-i-end.ensures, is.length) in
    let at : slice_get ms i ≡ Some before = slice_get-get_or ms i before within ∙ ap (λ m. Some m) (sym c.index_mut.ensures.value) in
    record {
      length = length-set ms i new ∙ is.length;
      opened = map-set mutex_of ms i new ∙ ap (slice_set (mutexes_of ms) i) c.clear.ensures.opened
          ∙ map_over_more (λ (m : Mutex). opened_mutex m.kind) xs (mutexes_of ms) i (mutex_of before) inside is.opened
          (ap mutex_of c.index_mut.ensures.value ∙ sym (get_or-map mutex_of ms i before (mutex_of before) within));
      room = λ room h. all-set (λ m. room ≤ vec_capacity m.waiters) ms i new (is.room room h)
          (omega (arith, all-at (λ m. room ≤ vec_capacity m.waiters) ms i before at (is.room room h), c.clear.ensures.room));
    }

pub returns : goal.returns
returns g c =
    let xs = mutexes_of c.args.mutexes.now.items in let i = c.loop-i.i in
    let end : length xs ≤ i = omega (arith, c.loop-i-test.false, c.len-i-end.ensures, length-map c.args.mutexes.now.items mutex_of) in
    record { opened = c.loop-i.invariant.opened ∙ whole_map (λ (m : Mutex). opened_mutex m.kind) xs i end; room = c.loop-i.invariant.room }
