use Rattle.std.proofs.Common.{refl, ap, arith}
use Rattle.std.proofs.lemmas.Option.{slice_get_read}
use Rattle.evl_kernel.specs.calls.FlagGroups as group
use Rattle.evl_kernel.specs.calls.FlagGroups.{flag_group as machine}
use Rattle.evl_base.specs.declared.reply.Reply.TheVariants as reply
use Rattle.evl_kernel.specs.calls.Effects.{reply_by}
use Rattle.evl_kernel.proofs.calls.ElementSteps.{nth-same}
use Rattle.evl_kernel.proofs.elements.Elements.try_take.Goals as goal

pub returns-clause-refused : goal.returns-clause-refused
returns-clause-refused g c =
    let here = slice_get_read c.self.inside.flags.items _ c.from-place.result c.index_mut.result.now refl (omega (arith, c.if-place-len.false, c.len.ensures, c.self.inside.flags.ok.0)) c.index_mut.ensures.value in
    rw (← c.self.view_is, ← c.from-place.ensures) (nth-same machine (λ xs. record { elements = record { sems = c.self.inside.sems.items; flags = xs; xbufs = c.self.inside.xbufs.items; mutexes = c.self.inside.owners.mutexes }; base = c.self.inside.owners.base }) c.self.inside.flags.items c.from-place.result (group.take c.args.kind) c.index_mut.result.now c.try_take.new.self here (λ got. got) (λ got. reply.Bits got) c.try_take.result (ap (reply_by (λ got. reply.Bits got)) c.try_take.ensures.step) c.try_take.ensures.refused)
