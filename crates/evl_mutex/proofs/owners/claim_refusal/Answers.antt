use Rattle.std.proofs.Common.{◌≡◌, ◌&&◌, nat_lt, true, false, sym, ◌∙◌}
use Rattle.std.proofs.lemmas.Bool.{lt-ltb, le-ltb, eq-eqb, ne_eqb}
use Rattle.std.specs.List.{list_any}
use Rattle.evl_mutex.specs.Mutexes.{is_waited_for_by}
use Rattle.evl_mutex.specs.Views.{mutexes_of}
use Rattle.evl_mutex.proofs.RefusalLaws.{is-missing, is-found}
use Rattle.evl_mutex.proofs.owners.claim_refusal.Goals.{then-waiter-threads, else-waiter-threads, then-owner-waiter-via-then-owner-waiter, then-owner-waiter-via-else-owner-waiter+then-not-is_open_to}
use Rattle.evl_mutex.proofs.owners.claim_refusal.Goals as goal

pub returns-then-is_some : goal.returns-then-is_some
returns-then-is_some g c = record {
  refusal = λ base l w.
      let busy : list_any (is_waited_for_by c.args.waiter) (mutexes_of c.args.mutexes.now.items) ≡ true = cc in
      rw busy;
}

pub returns-in-None : goal.returns-in-None
returns-in-None g c = record {
  refusal = λ base l w.
      let free : list_any (is_waited_for_by c.args.waiter) (mutexes_of c.args.mutexes.now.items) ≡ false = cc in
      let missing = is-missing _ _ (rw c.deref.ensures.value at c.in-None.ensures.lookup.3) in
      rw (free, missing);
}

pub returns-then-not-owner-threads : goal.returns-then-not-owner-threads
returns-then-not-owner-threads g c = record {
  refusal = λ base l w.
      let free : list_any (is_waited_for_by c.args.waiter) (mutexes_of c.args.mutexes.now.items) ≡ false = cc in
      let found = is-found _ _ _ (rw c.deref.ensures.value at c.in-Some.ensures.lookup.3.0) (rw c.deref.ensures.value at c.in-Some.ensures.lookup.1) in
      rw (free, found, l) (elim c.if-waiter-threads.branch [
        | then-waiter-threads b ↦ rw (lt-ltb _ _ b.if-waiter-threads.true, sym b.value-is ∙ c.if-not-owner-threads.true)
        | else-waiter-threads b ↦ rw (le-ltb _ _ b.if-waiter-threads.false)
      ]);
}

pub returns-then-owner-waiter : goal.returns-then-owner-waiter
returns-then-owner-waiter g c = record {
  refusal = λ base l w.
      let free : list_any (is_waited_for_by c.args.waiter) (mutexes_of c.args.mutexes.now.items) ≡ false = cc in
      let found = is-found _ _ _ (rw c.deref.ensures.value at c.in-Some.ensures.lookup.3.0) (rw c.deref.ensures.value at c.in-Some.ensures.lookup.1) in
      let inside : nat_lt c.args.waiter c.args.threads && nat_lt c.args.owner c.args.threads ≡ true = elim c.if-waiter-threads.branch [
        | then-waiter-threads b ↦ rw (lt-ltb _ _ b.if-waiter-threads.true, sym b.value-is ∙ c.if-not-owner-threads.false)
        | else-waiter-threads b ↦ cc (le-ltb _ _ b.if-waiter-threads.false)
      ] in
      rw (free, found, l, inside) (elim c.then-owner-waiter.branch [
        | then-owner-waiter-via-then-owner-waiter b ↦ rw (eq-eqb _ _ b.if-owner-waiter.true)
        | then-owner-waiter-via-else-owner-waiter+then-not-is_open_to b ↦ rw (ne_eqb _ _ b.if-owner-waiter.false, sym b.if-not-is_open_to.ensures.open)
      ]);
}

pub returns : goal.returns
returns g c = record {
  refusal = λ base l w.
      let free : list_any (is_waited_for_by c.args.waiter) (mutexes_of c.args.mutexes.now.items) ≡ false = cc in
      let found = is-found _ _ _ (rw c.deref.ensures.value at c.in-Some.ensures.lookup.3.0) (rw c.deref.ensures.value at c.in-Some.ensures.lookup.1) in
      let inside : nat_lt c.args.waiter c.args.threads && nat_lt c.args.owner c.args.threads ≡ true = elim c.if-waiter-threads.branch [
        | then-waiter-threads b ↦ rw (lt-ltb _ _ b.if-waiter-threads.true, sym b.value-is ∙ c.if-not-owner-threads.false)
        | else-waiter-threads b ↦ cc (le-ltb _ _ b.if-waiter-threads.false)
      ] in
      rw (free, found, l, inside, ne_eqb _ _ c.if-owner-waiter.false, sym c.if-not-is_open_to.ensures.open);
}
