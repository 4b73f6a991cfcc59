use Rattle.std.proofs.Common.{rules, ℤ, w64, Ok, refl, sym, ap, ◌∙◌, arith}
use Rattle.std.proofs.lemmas.Int.{to_z-of_z}
use Rattle.std.proofs.lemmas.Option.{slice_get_read}
use Rattle.evl_base.specs.declared.reply.Reply.TheVariants.{Count}
use Rattle.evl_kernel.specs.calls.Semaphores as semaphore
use Rattle.evl_kernel.proofs.calls.ElementSteps.{sem_told}
use Rattle.evl_kernel.proofs.elements.Elements.peek.Goals as goal

pub returns-clause-step : goal.returns-clause-step
returns-clause-step g c =
    let here = slice_get_read c.self.inside.sems.items _ c.from-place.result c.index.result.now refl (omega (arith, c.if-place-len.false, c.len.ensures, c.self.inside.sems.ok.0)) c.index.ensures in
    rw (← c.self.view_is, ← c.from-place.ensures)
    (sem_told (record { sems = c.self.inside.sems.items; flags = c.self.inside.flags.items; xbufs = c.self.inside.xbufs.items; mutexes = c.self.inside.owners.mutexes }) c.from-place.result _ semaphore.peek c.index.result.now here
    (ap (λ (told : ℤ). Ok (Count told, c.index.result.now)) (sym c.peek.ensures.told ∙ sym (to_z-of_z w64 c.peek.result (search rules)))))
