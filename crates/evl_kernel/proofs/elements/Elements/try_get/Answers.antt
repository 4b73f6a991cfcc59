use Rattle.std.proofs.Common.{refl, ap, arith}
use Rattle.std.proofs.lemmas.Option.{slice_get_read}
use Rattle.evl_kernel.specs.calls.Semaphores as semaphore
use Rattle.evl_kernel.specs.calls.Semaphores.{semaphore as machine}
use Rattle.evl_base.specs.declared.reply.Reply.TheVariants as reply
use Rattle.evl_kernel.specs.calls.Effects.{reply_by}
use Rattle.evl_kernel.proofs.calls.ElementSteps.{nth-same}
use Rattle.evl_kernel.proofs.elements.Elements.try_get.Goals as goal

pub returns-clause-refused : goal.returns-clause-refused
returns-clause-refused g c =
    let here = slice_get_read c.self.inside.sems.items _ c.from-place.result c.index_mut.result.now refl (omega (arith, c.if-place-len.false, c.len.ensures, c.self.inside.sems.ok.0)) c.index_mut.ensures.value in
    rw (← c.self.view_is, ← c.from-place.ensures) (nth-same machine (λ xs. record { elements = record { sems = xs; flags = c.self.inside.flags.items; xbufs = c.self.inside.xbufs.items; mutexes = c.self.inside.owners.mutexes }; base = c.self.inside.owners.base }) c.self.inside.sems.items c.from-place.result semaphore.get c.index_mut.result.now c.try_get.new.self here (λ u. u) (λ u. reply.Done) c.try_get.result (ap (reply_by (λ u. reply.Done)) c.try_get.ensures.step) c.try_get.ensures.refused)
