use Rattle.std.proofs.Common.{◌≡◌, ◌<◌, [], List, length, Some, slice_set, sym, ap, ◌∙◌, subst, arith, refl}
use Rattle.std.proofs.lemmas.List.{set-set}
use Rattle.std.specs.Option.{option_map_or}
use Rattle.evl_bitmap.specs.NumberSet.{NumberSet, least, remove}
use Rattle.evl_bitmap.proofs.NumberSetLaws.{least-none, length-remove_least}
use Rattle.evl_kernel.specs.state.ChangedThreads.{AreGivenBut, is_noted, of_word, without_least}
use Rattle.evl_kernel.specs.state.ElementsViews.{owners_of}
use Rattle.evl_kernel.proofs.state.ChangedLaws.{given-more, word-empty, word-left}
use Rattle.evl_kernel.proofs.ranks.hand_word.Goals as goal

pub loop-place-init : goal.loop-place-init
loop-place-init g c = record { kept = refl; given = c.requires.others; others = refl }

pub loop-place-smaller : goal.loop-place-smaller
loop-place-smaller g c =
    let words = c.loop-place.changes in let w = c.args.word in let n = c.in-Some.place in let set = of_word words w in
    let first : least set ≡ Some n = sym c.in-Some.ensures.taken in
    let left : c.take.new.self ≡ slice_set words w (remove set n) = c.take.ensures.left ∙ ap (λ o. slice_set words w (option_map_or (remove set) o set)) first in
    let fewer : length (of_word c.take.new.self w) < length set = omega (arith, ap (λ (l : List NumberSet). length (of_word l w)) left, ap (λ (s : NumberSet). length s) (word-left words w n first), length-remove_least set n first) in
    fewer

pub loop-place-preserved : goal.loop-place-preserved
loop-place-preserved g c =
    let words = c.loop-place.changes in let w = c.args.word in let n = c.in-Some.place in let set = of_word words w in
    let first : least set ≡ Some n = sym c.in-Some.ensures.taken in
    let left : c.take.new.self ≡ slice_set words w (remove set n) = c.take.ensures.left ∙ ap (λ o. slice_set words w (option_map_or (remove set) o set)) first in
    record {
      kept = c.hand_to.ensures.kept ∙ c.loop-place.invariant.kept;
      given = rw left (given-more words w n (owners_of c.args.elements.now) c.loop-place.sched c.hand_to.new.sched first c.in-Some.ensures.range c.loop-place.invariant.given c.hand_to.ensures.kept
          (λ attached. c.hand_to.ensures.given attached ∙ c.effective.ensures.rank) c.hand_to.ensures.others);
      others = ap (λ (l : List NumberSet). slice_set l w []) left ∙ set-set words w (remove set n) [] ∙ c.loop-place.invariant.others;
    }

pub returns : goal.returns
returns g c =
    let words = c.loop-place.changes in let w = c.args.word in let set = of_word words w in
    let empty : set ≡ [] = least-none set (sym c.in_default.ensures.taken) in
    let left : c.take.new.self ≡ slice_set words w [] = c.take.ensures.left ∙ ap (λ (s : NumberSet). slice_set words w (without_least s)) empty in
    let same_all : c.take.new.self ≡ words = left ∙ word-empty words w empty in
    let P : List NumberSet → Type 0 = λ l. AreGivenBut (is_noted l) c.loop-place.sched (owners_of c.args.elements.now) in
    record {
      others = subst P (sym same_all) c.loop-place.invariant.given;
      kept = c.loop-place.invariant.kept;
      none = left ∙ c.loop-place.invariant.others;
    }
