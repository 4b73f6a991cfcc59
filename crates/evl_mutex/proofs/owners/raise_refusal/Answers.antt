use Rattle.std.proofs.Common.{sym}
use Rattle.std.proofs.lemmas.Bool.{lt-ltb, le-ltb}
use Rattle.evl_mutex.proofs.RefusalLaws.{is-missing, is-found}
use Rattle.evl_mutex.proofs.owners.raise_refusal.Goals as goal

pub returns-in-None : goal.returns-in-None
returns-in-None g c = record { refusal = λ base l. rw (is-missing _ _ (rw c.deref.ensures.value at c.in-None.ensures.lookup.3)) }

pub returns-then-thread-threads : goal.returns-then-thread-threads
returns-then-thread-threads g c = record {
  refusal = λ base l.
      let found = is-found _ _ _ (rw c.deref.ensures.value at c.in-Some.ensures.lookup.3.0) (rw c.deref.ensures.value at c.in-Some.ensures.lookup.1) in
      rw (found, l, le-ltb _ _ c.if-thread-threads.true);
}

pub returns-then-not-has_ceiling : goal.returns-then-not-has_ceiling
returns-then-not-has_ceiling g c = record {
  refusal = λ base l.
      let found = is-found _ _ _ (rw c.deref.ensures.value at c.in-Some.ensures.lookup.3.0) (rw c.deref.ensures.value at c.in-Some.ensures.lookup.1) in
      rw (found, l, lt-ltb _ _ c.if-thread-threads.false, sym c.if-not-has_ceiling.ensures.ceiling);
}

pub returns-then-is_some : goal.returns-then-is_some
returns-then-is_some g c = record {
  refusal = λ base l.
      let found = is-found _ _ _ (rw c.deref.ensures.value at c.in-Some.ensures.lookup.3.0) (rw c.deref.ensures.value at c.in-Some.ensures.lookup.1) in
      rw (found, l, lt-ltb _ _ c.if-thread-threads.false, sym c.if-not-has_ceiling.ensures.ceiling, sym c.if-is_some.ensures);
}

pub returns : goal.returns
returns g c = record {
  refusal = λ base l.
      let found = is-found _ _ _ (rw c.deref.ensures.value at c.in-Some.ensures.lookup.3.0) (rw c.deref.ensures.value at c.in-Some.ensures.lookup.1) in
      rw (found, l, lt-ltb _ _ c.if-thread-threads.false, sym c.if-not-has_ceiling.ensures.ceiling, sym c.if-is_some.ensures);
}
