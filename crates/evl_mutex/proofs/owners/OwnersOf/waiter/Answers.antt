use Rattle.std.proofs.Common.{refl}
use Rattle.std.proofs.lemmas.Option.{slice_get_past, slice_get_read}
use Rattle.evl_mutex.proofs.RefusalLaws.{is-missing, is-found}
use Rattle.evl_mutex.proofs.owners.OwnersOf.waiter.Goals as goal

pub returns-in-None : goal.returns-in-None
returns-in-None g c = record { waiter = rw (← c.self.view_is, is-missing _ _ (rw c.deref.ensures.value at c.in-None.ensures.lookup.3)) }

pub returns-in-Some-get : goal.returns-in-Some-get
returns-in-Some-get g c = record {
  waiter =
      let found = is-found _ _ _ (rw c.deref.ensures.value at c.in-Some.ensures.lookup.3.0) (rw c.deref.ensures.value at c.in-Some.ensures.lookup.1) in
      let read = slice_get_read _ _ _ _ refl (rw c.deref-in-Some.ensures.value at c.in-Some-get.ensures.lookup.3.0) (rw c.deref-in-Some.ensures.value at c.in-Some-get.ensures.lookup.1) in
      rw (← c.self.view_is, found, read);
}

pub returns-in-None-get : goal.returns-in-None-get
returns-in-None-get g c = record {
  waiter =
      let found = is-found _ _ _ (rw c.deref.ensures.value at c.in-Some.ensures.lookup.3.0) (rw c.deref.ensures.value at c.in-Some.ensures.lookup.1) in
      let past = slice_get_past _ _ (rw c.deref-in-Some.ensures.value at c.in-None-get.ensures.lookup.3) in
      rw (← c.self.view_is, found, past);
}
