use Rattle.std.proofs.Common.{ℕ, Ok, refl, sym, ap, arith}
use Rattle.std.proofs.lemmas.Option.{slice_get_read}
use Rattle.evl_base.specs.declared.reply.Reply.TheVariants.{Bits}
use Rattle.evl_kernel.specs.calls.FlagGroups as group
use Rattle.evl_kernel.proofs.calls.ElementSteps.{flags_told}
use Rattle.evl_kernel.proofs.elements.Elements.bits.Goals as goal

pub returns-clause-step : goal.returns-clause-step
returns-clause-step g c =
    let here = slice_get_read c.self.inside.flags.items _ c.from-place.result c.index.result.now refl (omega (arith, c.if-place-len.false, c.len.ensures, c.self.inside.flags.ok.0)) c.index.ensures in
    rw (← c.self.view_is, ← c.from-place.ensures)
    (flags_told (record { sems = c.self.inside.sems.items; flags = c.self.inside.flags.items; xbufs = c.self.inside.xbufs.items; mutexes = c.self.inside.owners.mutexes }) c.from-place.result _ group.peek c.index.result.now here
    (ap (λ (told : ℕ). Ok (Bits told, c.index.result.now)) (sym c.peek.ensures.told)))
