use Rattle.std.proofs.Common.{◌≡◌, false, Option, Some, None, is_some, refl, sym, ◌∙◌}
use Rattle.std.proofs.lemmas.Bool.{false≢true}
use Rattle.evl_kernel.specs.state.RecordsInside.{records_view}
use Rattle.evl_kernel.proofs.settling.ItemLaws.{nothing_due}
use Rattle.evl_kernel.proofs.records.Records.play_due.Goals as goal

none_of : {A : Type 0} (o : Option A) → is_some o ≡ false → o ≡ None
none_of None h = refl
none_of (Some x) h = absurd (false≢true (sym h))

pub returns-then-not-is_due-clause-ended : goal.returns-then-not-is_due-clause-ended
returns-then-not-is_due-clause-ended g c =
    rw (← c.self.view_is) (nothing_due (records_view c.self.inside) (none_of _ (sym c.is_due.ensures.due ∙ c.if-not-is_due.true)), refl)
