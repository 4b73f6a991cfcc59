use Rattle.std.proofs.Common.{◌≡◌, Option, ℕ, Some, slice_set, sym, ap, ◌∙◌}
use Rattle.std.specs.Option.{option_map_or}
use Rattle.evl_bitmap.specs.NumberSet.{NumberSet, least, remove}
use Rattle.evl_kernel.specs.state.ChangedThreads.{of_word}
use Rattle.evl_kernel.proofs.changed_threads.ChangedThreads.take.Goals as goal

pub returns-clause-left : goal.returns-clause-left
returns-clause-left c =
    let words = c.args.self.now in let w = c.args.word in let n = c.in_ok-place.place in let set = of_word words w in
    let first : least set ≡ Some n = ap (λ (s : NumberSet). least s) (sym c.places-noted.ensures.places) ∙ sym c.in_ok-place.ensures.least in
    c.set_places.ensures.set
    ∙ ap (λ (s : NumberSet). slice_set words w s)
    (c.remove.ensures.removed ∙ ap (λ (s : NumberSet). remove s n) c.places-noted.ensures.places ∙ sym (ap (λ (o : Option ℕ). option_map_or (remove set) o set) first))
