use Rattle.std.proofs.Common.{ℕ, Option, None, length, map, replicate, refl, sym, ap, ◌∙◌, arith}
use Rattle.evl_mutex.specs.Mutexes.{Mutex}
use Rattle.evl_mutex.specs.Views.{mutexes_of}
use Rattle.evl_mutex.proofs.ListLaws.{count-replicate}
use Rattle.evl_mutex.proofs.CountLaws.{counted-fresh}
use Rattle.evl_mutex.proofs.NotedLaws.{noted-fresh}
use Rattle.evl_mutex.proofs.SoundLaws.{opened_anew, sound-fresh}
use Rattle.evl_mutex.proofs.StoredLaws.{stored-fresh}
use Rattle.evl_mutex.proofs.owners.OwnersOf.reset.Goals as goal

pub invariant_of-self : goal.invariant_of-self
invariant_of-self g c =
    let o = c.self.inside in let n = length o.base.items in let is = c.self.invariant in
    let kinds = map (λ (m : Mutex). m.kind) (mutexes_of o.mutexes.items) in
    let ms = c.clear_all.ensures.opened ∙ opened_anew (mutexes_of o.mutexes.items) in
    let base = c.set_all.ensures.all in
    let ahead = c.set_all-2.ensures.all ∙ ap (λ k. replicate {A = Option ℕ} k None) is.kept.all in
    let lenders = c.set_all-3.ensures.all ∙ ap (λ k. replicate k 0) is.counted.all in
    let lent = c.set_all-4.ensures.all ∙ ap (λ k. replicate k 0) is.stored.lent_all in
    let raised = c.set_all-5.ensures.all ∙ ap (λ k. replicate k 0) is.stored.raised_all in
    let many = ap length base ∙ count-replicate n 0 in
    record {
      kept = record {
        sound = rw (base, ms) (sound-fresh n kinds);
        room = rw many (c.clear_all.ensures.room n is.kept.room);
        few = omega (arith, many, is.kept.few);
        noted = rw (ahead, ms) (noted-fresh n kinds);
        all = ap length ahead ∙ count-replicate {X = Option ℕ} n None ∙ sym many;
      };
      counted = rw (base, ahead, lenders) (counted-fresh n);
      stored = rw (base, ms, ahead, lent, raised) (stored-fresh n kinds);
    }

pub returns : goal.returns
returns g c =
    let base = c.set_all.ensures.all in
    let ms = c.clear_all.ensures.opened ∙ opened_anew (mutexes_of c.self.inside.mutexes.items) in
    record { fresh = rw (← c.self.view_is, base, ms) refl }
