use Rattle.std.proofs.Common.{ℕ, ◌∙◌, ap, map}
use Rattle.evl_sync.specs.FlagGroups as flag_groups
use Rattle.evl_sync.specs.Semaphores as semaphores
use Rattle.evl_mutex.specs.Owners.{Owners, fresh}
use Rattle.evl_xbuf.specs.Xbufs as cross_buffers
use Rattle.evl_kernel.proofs.elements.Elements.new.Goals as goal

pub returns-clause-opened : goal.returns-clause-opened
returns-clause-opened g c =
    let sems = c.in-Ok.ensures.sems ∙ ap (map semaphores.opened_semaphore) c.as_slice.ensures.value in
    let flags = c.in-Ok-opened_flags.ensures.flags ∙ ap (map flag_groups.opened_group) c.as_slice-2.ensures.value in
    let xbufs = c.in-Ok-opened_xbufs.ensures.xbufs ∙ ap (map (λ (pair : ℕ × ℕ). cross_buffers.opened_xbuf pair.0 pair.1)) c.as_slice-4.ensures.value in
    let mutexes = c.in_ok-owners.ensures.fresh ∙ ap (fresh c.args.board.now.threads) c.as_slice-3.ensures.value in
    λ i. record { sems = sems i; flags = flags i; xbufs = xbufs i; mutexes = (mutexes i).mutexes }

pub returns-clause-base : goal.returns-clause-base
returns-clause-base g c =
    let owners = c.in_ok-owners.ensures.fresh ∙ ap (fresh c.args.board.now.threads) c.as_slice-3.ensures.value in
    ap (λ (o : Owners). o.base) owners
