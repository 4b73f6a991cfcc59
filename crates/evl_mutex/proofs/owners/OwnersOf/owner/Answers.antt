use Rattle.evl_mutex.proofs.RefusalLaws.{is-missing, is-found}
use Rattle.evl_mutex.proofs.owners.OwnersOf.owner.Goals as goal

pub returns-in_err-record : goal.returns-in_err-record
returns-in_err-record g c = record { owner = rw (← c.self.view_is, is-missing _ _ (rw c.deref.ensures.value at c.in_err-record.ensures.lookup.3), c.from_residual.ensures) }

pub returns : goal.returns
returns g c = record {
  owner =
      let found = is-found _ _ _ (rw c.deref.ensures.value at c.in_ok-record.ensures.lookup.3.0) (rw c.deref.ensures.value at c.in_ok-record.ensures.lookup.1) in
      rw (← c.self.view_is, found) c.named.ensures.number;
}
