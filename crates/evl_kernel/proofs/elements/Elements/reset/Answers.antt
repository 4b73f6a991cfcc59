use Rattle.std.proofs.Common.{◌∙◌, ℕ, map, ap}
use Rattle.evl_mutex.specs.Mutexes.{opened_mutex}
use Rattle.evl_mutex.specs.Owners.{Owners}
use Rattle.evl_sync.specs.FlagGroups.{opened_group}
use Rattle.evl_sync.specs.Semaphores.{opened_semaphore}
use Rattle.evl_xbuf.specs.Xbufs.{opened_xbuf}
use Rattle.evl_kernel.proofs.elements.Elements.reset.Goals as goal

pub returns : goal.returns
returns g c =
    let shape = rw (← c.self.view_is) at c.requires.shape in
    let sems = c.reset_sems.ensures.sems ∙ ap (map opened_semaphore) c.as_slice.ensures.value in
    let flags = c.reset_flags.ensures.flags ∙ ap (map opened_group) c.as_slice-2.ensures.value in
    let xbufs = c.reset_xbufs.ensures.xbufs ∙ ap (map (λ (sizes : ℕ × ℕ). opened_xbuf sizes.0 sizes.1)) shape.xbufs in
    let mutexes = ap (λ (o : Owners). o.mutexes) c.reset.ensures.fresh ∙ ap (map opened_mutex) shape.mutexes in
    record {
      opened = λ i. record { sems = sems i; flags = flags i; xbufs = xbufs i; mutexes = mutexes i };
      base = rw (← c.self.view_is) (ap (λ (o : Owners). o.base) c.reset.ensures.fresh);
    }
