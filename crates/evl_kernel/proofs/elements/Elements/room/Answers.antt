use Rattle.std.proofs.Common.{ℕ, Ok, refl, sym, ap, arith}
use Rattle.std.proofs.lemmas.Option.{slice_get_read}
use Rattle.evl_base.specs.declared.reply.Reply.TheVariants.{Number}
use Rattle.evl_kernel.specs.calls.CrossBuffers as through
use Rattle.evl_kernel.proofs.calls.ElementSteps.{xbuf_told}
use Rattle.evl_kernel.proofs.elements.Elements.room.Goals as goal

pub returns-clause-step : goal.returns-clause-step
returns-clause-step g c =
    let here = slice_get_read c.self.inside.xbufs.items _ c.from-place.result c.index.result.now refl (omega (arith, c.if-place-len.false, c.len.ensures, c.self.inside.xbufs.ok.0)) c.index.ensures in
    rw (← c.self.view_is, ← c.from-place.ensures)
    (xbuf_told (record { sems = c.self.inside.sems.items; flags = c.self.inside.flags.items; xbufs = c.self.inside.xbufs.items; mutexes = c.self.inside.owners.mutexes }) c.from-place.result _ (through.room c.args.way) c.index.result.now here
    (ap (λ (told : ℕ). Ok (Number told, c.index.result.now)) (sym c.room.ensures.room)))
