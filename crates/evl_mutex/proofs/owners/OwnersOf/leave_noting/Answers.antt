use Rattle.std.proofs.Common.{◌≡◌, ◌<◌, ℕ, List, Option, Some, None, length, slice_get, slice_index, slice_set, if◌then◌else◌, refl, sym, ap, ◌∙◌, subst, arith}
use Rattle.std.specs.Option.{option_and}
use Rattle.evl_mutex.specs.Mutexes as mutex
use Rattle.evl_mutex.specs.Mutexes.{is_waited_for_by}
use Rattle.evl_mutex.specs.Owners.{Owners}
use Rattle.evl_mutex.specs.Ranks.{ceiling_for}
use Rattle.evl_mutex.specs.Lending.{IsRight}
use Rattle.evl_mutex.specs.Views.{ahead_in, mutex_of, mutexes_of, unnoted, AreCounted, IsKept}
use Rattle.evl_mutex.proofs.MutexLaws.{drop-owner}
use Rattle.evl_mutex.proofs.SoundLaws.{sound-left}
use Rattle.evl_mutex.proofs.NotedLaws.{count-unnoted}
use Rattle.evl_mutex.proofs.CallLaws.{leave-noted, there, seen-changed, kept-changed}
use Rattle.evl_mutex.proofs.CeilingLaws.{ceiling-left}
use Rattle.evl_mutex.proofs.CountLaws.{counted-by}
use Rattle.evl_mutex.proofs.StoredLaws.{and-is, orderly-by, owner-at, right-unnoted, written-same, written-there}
use Rattle.evl_mutex.proofs.ChangeLaws.{noted-none, ranks-noted}
use Rattle.evl_mutex.proofs.owners.OwnersOf.leave_noting.Goals as goal

pub invariant_of-self : goal.invariant_of-self
invariant_of-self g c =
    let s = c.self.inside in let n = c.args.mutex.0 in let thread = c.args.thread.0 in let is = c.self.invariant.kept in let was = c.self.invariant.stored in
    let o : Owners = record { base = s.base.items; mutexes = mutexes_of s.mutexes.items } in
    let inside : n < length s.mutexes.items = omega (arith, c.if-place-len.true, c.len.ensures, s.mutexes.ok.0) in
    let old = c.index_mut.result.now in let new = c.drop_waiter-gone.new.self in let ahead = s.ahead.items in
    let at : slice_get o.mutexes n ≡ Some (mutex_of old) = there s.base.items s.mutexes.items n old old c.index_mut.ensures.value inside in
    let waits = is_waited_for_by thread (mutex_of old) in
    let noted : c.forget.new.ahead.items ≡ unnoted ahead (if waits then Some thread else None) = c.forget.ensures.unnoted ∙ ap (unnoted ahead) c.drop_waiter-gone.ensures.gone in
    let dropped : mutex_of new ≡ mutex.drop_waiter thread (mutex_of old) = c.drop_waiter-gone.ensures.dropped in
    let kept : IsKept s.base.items (slice_set s.mutexes.items n new) c.forget.new.ahead.items =
    kept-changed s.base.items s.mutexes.items n old new c.index_mut.ensures.value inside ahead is
    c.forget.new.ahead.items (ap length c.forget.ensures.unnoted ∙ count-unnoted ahead _) c.drop_waiter-gone.ensures.room
    (mutex.drop_waiter thread) dropped
    (rw noted (leave-noted o n thread (mutex_of old) at is.sound ahead is.noted))
    (sound-left o n thread is.sound) in
    let kind : new.kind ≡ old.kind = ap (λ m. m.kind) dropped in
    let owner_there : (owner : ℕ) → new.owner ≡ Some owner → owner < length s.base.items =
    λ owner e. owner-at (length s.base.items) n (mutex_of old) o.mutexes at was.there owner (drop-owner thread (mutex_of old) owner (sym (ap (λ m. m.owner) dropped) ∙ e)) in
    let now = written-there s.base.items s.mutexes.items n old new c.index_mut.ensures.value inside kind ahead s.lent.items s.ceilings.items was owner_there in
    let start : c.and.result ≡ option_and (if waits then Some thread else None) (ahead_in ahead thread) =
    c.and.ensures ∙ ap (λ p. option_and p c.ahead_of-owner.result) c.drop_waiter-gone.ensures.gone ∙ ap (option_and (if waits then Some thread else None)) c.ahead_of-owner.ensures.owner in
    let P : List (Option ℕ) → Type 0 = λ l. (t : ℕ) → (c.and.result ≡ Some t → ⊥) → IsRight (slice_index s.base.items) (ahead_in l) (slice_index s.lent.items) t in
    let counted : AreCounted (length s.base.items) c.forget.new.ahead.items c.forget.new.lenders.items = c.forget.ensures.counted (length s.base.items) (omega (arith, is.few, is.all)) c.self.invariant.counted in
    record {
      kept = kept;
      counted = counted;
      stored = written-same s.base.items s.mutexes.items n old new c.index_mut.ensures.value inside kind ahead s.lent.items s.ceilings.items was owner_there
          c.forget.new.ahead.items c.mend.new.lent.items (c.mend.ensures.length ∙ was.lent_all)
          (c.mend.ensures.mended (counted-by (length s.base.items) (length s.lent.items) c.forget.new.ahead.items c.forget.new.lenders.items was.lent_all counted)
          (orderly-by s.base.items (mutexes_of (slice_set s.mutexes.items n new)) c.forget.new.ahead.items kept.sound kept.noted now (length s.lent.items) was.lent_all)
          (λ t e. (orderly-by s.base.items o.mutexes ahead is.sound is.noted was.there (length s.lent.items) was.lent_all).owners thread t (and-is t (if waits then Some thread else None) (ahead_in ahead thread) (sym start ∙ e)))
          (subst P (sym noted) (λ t away. right-unnoted (slice_index s.base.items) (slice_index s.lent.items) ahead thread waits was.lent_right t (λ e. away (start ∙ e)))))
          (λ t. ap (ceiling_for t) dropped ∙ ceiling-left t thread (mutex_of old));
    }

pub returns-then-place-len : goal.returns-then-place-len
returns-then-place-len g c =
    let s = c.self.inside in let n = c.args.mutex.0 in let thread = c.args.thread.0 in
    let o : Owners = record { base = s.base.items; mutexes = mutexes_of s.mutexes.items } in
    let inside : n < length s.mutexes.items = omega (arith, c.if-place-len.true, c.len.ensures, s.mutexes.ok.0) in let whole = invariant_of-self g c in
    record {
      state = rw (← c.self.view_is)
          (seen-changed s.base.items s.mutexes.items n c.index_mut.result.now c.drop_waiter-gone.new.self c.index_mut.ensures.value inside o (mutex.drop_waiter thread) refl c.drop_waiter-gone.ensures.dropped);
      noted =
          rw (← c.self.view_is) (ranks-noted (record { base = s.base.items; mutexes = mutexes_of s.mutexes.items }) (record { base = s.base.items; mutexes = mutexes_of (slice_set s.mutexes.items n c.drop_waiter-gone.new.self) }) s.ahead.items c.forget.new.ahead.items s.lent.items c.mend.new.lent.items s.ceilings.items s.ceilings.items
          c.self.invariant.kept.sound c.self.invariant.kept.noted c.self.invariant.stored whole.kept.sound whole.kept.noted whole.stored _ _ _ c.mend.ensures.noted (noted-none (λ t. refl)));
    }
