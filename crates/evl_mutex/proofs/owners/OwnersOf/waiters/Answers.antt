use Rattle.std.proofs.Common.{◌∙◌}
use Rattle.evl_mutex.proofs.RefusalLaws.{is-missing, is-found}
use Rattle.evl_mutex.proofs.owners.OwnersOf.waiters.Goals as goal

pub returns-in-None : goal.returns-in-None
returns-in-None g c = record { waiters = rw (← c.self.view_is, is-missing _ _ (rw c.deref.ensures.value at c.in-None.ensures.lookup.3)) }

pub returns-in-Some : goal.returns-in-Some
returns-in-Some g c = record {
  waiters =
      let found = is-found _ _ _ (rw c.deref.ensures.value at c.in-Some.ensures.lookup.3.0) (rw c.deref.ensures.value at c.in-Some.ensures.lookup.1) in
      rw (← c.self.view_is, found) (c.len.ensures ∙ c.in-Some.record.now.waiters.ok.0);
}
