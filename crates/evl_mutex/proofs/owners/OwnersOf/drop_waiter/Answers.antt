use Rattle.std.proofs.Common.{◌≡◌, ℕ, List, Option, Some, None, length, map, slice_index, slice_set, ap, sym, ◌∙◌, subst, arith}
use Rattle.std.proofs.lemmas.List.{length-set}
use Rattle.evl_mutex.specs.Mutexes as mutex
use Rattle.evl_mutex.specs.Mutexes.{Mutex}
use Rattle.evl_mutex.specs.Owners.{IsSound}
use Rattle.evl_mutex.specs.Lending.{IsRight}
use Rattle.evl_mutex.specs.Views.{ahead_in, mutexes_of, AreCounted, AreNoted, AreStored}
use Rattle.evl_mutex.proofs.NotedLaws.{noted-dropped}
use Rattle.evl_mutex.proofs.SoundLaws.{sound-dropped}
use Rattle.evl_mutex.proofs.CeilingLaws.{ceilings-dropped}
use Rattle.evl_mutex.proofs.CountLaws.{counted-by}
use Rattle.evl_mutex.proofs.StoredLaws.{orderly-by, right-left, there-dropped}
use Rattle.evl_mutex.proofs.owners.OwnersOf.drop_waiter.Goals as goal

pub invariant_of-self : goal.invariant_of-self
invariant_of-self g c =
    let s = c.self.inside in let u = c.args.thread.0 in let base = s.base.items in let ahead = s.ahead.items in
    let is = c.self.invariant.kept in let was = c.self.invariant.stored in
    let ms : List Mutex = mutexes_of s.mutexes.items in let left : List Mutex = map (mutex.drop_waiter u) ms in
    let noted : c.forget.new.ahead.items ≡ slice_set ahead u None = c.forget.ensures.unnoted in
    let sound : IsSound (record { base = base; mutexes = left }) = sound-dropped (record { base = base; mutexes = ms }) u is.sound in
    let places : AreNoted (slice_set ahead u None) left = noted-dropped ahead ms u is.noted in
    let P : List (Option ℕ) → Type 0 = λ l. AreNoted l left in
    let Q : List (Option ℕ) → Type 0 = λ l. (t : ℕ) → (c.ahead_of-owner.result ≡ Some t → ⊥) → IsRight (slice_index base) (ahead_in l) (slice_index s.lent.items) t in
    let counted : AreCounted (length base) c.forget.new.ahead.items c.forget.new.lenders.items = c.forget.ensures.counted (length base) (omega (arith, is.few, is.all)) c.self.invariant.counted in
    let stored : AreStored base left c.forget.new.ahead.items c.mend.new.lent.items s.ceilings.items = record {
      there = there-dropped (length base) u ms was.there;
      lent_all = c.mend.ensures.length ∙ was.lent_all;
      raised_all = was.raised_all;
      lent_right = c.mend.ensures.mended (counted-by (length base) (length s.lent.items) c.forget.new.ahead.items c.forget.new.lenders.items was.lent_all counted)
          (orderly-by base left c.forget.new.ahead.items sound (subst P (sym noted) places) (there-dropped (length base) u ms was.there) (length s.lent.items) was.lent_all)
          (λ t e. (orderly-by base ms ahead is.sound is.noted was.there (length s.lent.items) was.lent_all).owners u t (sym c.ahead_of-owner.ensures.owner ∙ e))
          (subst Q (sym noted) (λ t away. right-left (slice_index base) (slice_index s.lent.items) ahead u t (λ e. away (c.ahead_of-owner.ensures.owner ∙ e)) (was.lent_right t)));
      raised_right = λ t. was.raised_right t ∙ sym (ceilings-dropped t u ms);
    } in
    let R : List Mutex → Type 0 = λ l. AreStored base l c.forget.new.ahead.items c.mend.new.lent.items s.ceilings.items in
    record {
      kept = record {
        sound = rw c.drop_waiter.ensures.dropped sound;
        room = c.drop_waiter.ensures.room (length base) is.room;
        few = is.few;
        noted = rw (c.drop_waiter.ensures.dropped, c.forget.ensures.unnoted) places;
        all = ap length c.forget.ensures.unnoted ∙ length-set ahead u None ∙ is.all;
      };
      counted = counted;
      stored = subst R (sym c.drop_waiter.ensures.dropped) stored;
    }
