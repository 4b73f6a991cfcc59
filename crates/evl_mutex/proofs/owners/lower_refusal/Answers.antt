use Rattle.std.proofs.Common.{sym}
use Rattle.evl_mutex.proofs.RefusalLaws.{is-missing, is-found, nobody-counted}
use Rattle.evl_mutex.proofs.owners.lower_refusal.Goals as goal

pub returns-in-None : goal.returns-in-None
returns-in-None g c = record { refusal = λ base. rw (is-missing _ _ (rw c.deref.ensures.value at c.in-None.ensures.lookup.3)) }

pub returns-then-not-has_ceiling : goal.returns-then-not-has_ceiling
returns-then-not-has_ceiling g c = record {
  refusal = λ base.
      let found = is-found _ _ _ (rw c.deref.ensures.value at c.in-Some.ensures.lookup.3.0) (rw c.deref.ensures.value at c.in-Some.ensures.lookup.1) in
      rw (found, sym c.if-not-has_ceiling.ensures.ceiling);
}

pub returns-then-not-is_owned_by : goal.returns-then-not-is_owned_by
returns-then-not-is_owned_by g c = record {
  refusal = λ base.
      let found = is-found _ _ _ (rw c.deref.ensures.value at c.in-Some.ensures.lookup.3.0) (rw c.deref.ensures.value at c.in-Some.ensures.lookup.1) in
      rw (found, sym c.if-not-has_ceiling.ensures.ceiling, sym c.if-not-is_owned_by.ensures.owned);
}

pub returns-then-not-is_empty : goal.returns-then-not-is_empty
returns-then-not-is_empty g c = record {
  refusal = λ base.
      let found = is-found _ _ _ (rw c.deref.ensures.value at c.in-Some.ensures.lookup.3.0) (rw c.deref.ensures.value at c.in-Some.ensures.lookup.1) in
      rw (found, sym c.if-not-has_ceiling.ensures.ceiling, sym c.if-not-is_owned_by.ensures.owned, nobody-counted _ _ c.in-Some.record.now.waiters.ok.0, sym c.if-not-is_empty.ensures);
}

pub returns : goal.returns
returns g c = record {
  refusal = λ base.
      let found = is-found _ _ _ (rw c.deref.ensures.value at c.in-Some.ensures.lookup.3.0) (rw c.deref.ensures.value at c.in-Some.ensures.lookup.1) in
      rw (found, sym c.if-not-has_ceiling.ensures.ceiling, sym c.if-not-is_owned_by.ensures.owned, nobody-counted _ _ c.in-Some.record.now.waiters.ok.0, sym c.if-not-is_empty.ensures);
}
