use Rattle.std.proofs.Common.{◌∙◌}
use Rattle.evl_mutex.proofs.RefusalLaws.{is-missing, is-found}
use Rattle.evl_mutex.proofs.owners.OwnersOf.next.Goals as goal

pub returns-in_err-get : goal.returns-in_err-get
returns-in_err-get g c = record { next = rw (← c.self.view_is, is-missing _ _ (rw c.deref.ensures.value at c.in_err-get.ensures.lookup.3), c.from_residual.ensures) }

pub returns : goal.returns
returns g c = record {
  next =
      let found = is-found _ _ _ (rw c.deref.ensures.value at c.in_ok-get.ensures.lookup.3.0) (rw c.deref.ensures.value at c.in_ok-get.ensures.lookup.1) in
      rw (← c.self.view_is, found) (c.named.ensures.number ∙ c.next.ensures.next);
}
