use Rattle.std.proofs.Common.{refl, ap, arith}
use Rattle.std.proofs.lemmas.Option.{slice_get_read}
use Rattle.evl_kernel.specs.calls.FlagGroups as group
use Rattle.evl_kernel.specs.calls.FlagGroups.{flag_group as machine}
use Rattle.evl_sync.specs.FlagGroups.{pairs}
use Rattle.evl_base.specs.declared.reply.Reply.TheVariants as reply
use Rattle.evl_kernel.specs.calls.Effects.{reply_by}
use Rattle.evl_kernel.proofs.calls.ElementSteps.{nth-same}
use Rattle.evl_kernel.proofs.elements.Elements.post.Goals as goal

pub returns-clause-refused : goal.returns-clause-refused
returns-clause-refused g c =
    let here = slice_get_read c.self.inside.flags.items _ c.from-place.result c.index_mut.result.now refl (omega (arith, c.if-place-len.false, c.len.ensures, c.self.inside.flags.ok.0)) c.index_mut.ensures.value in
    rw (← c.self.view_is, ← c.from-place.ensures) (nth-same machine (λ xs. record { elements = record { sems = c.self.inside.sems.items; flags = xs; xbufs = c.self.inside.xbufs.items; mutexes = c.self.inside.owners.mutexes }; base = c.self.inside.owners.base }) c.self.inside.flags.items c.from-place.result (group.post c.args.bits) c.index_mut.result.now c.post_telling.new.self here (λ (u : Unit {0}). pairs c.post_telling.new.told.items) (λ served. reply.Done) c.post_telling.result (ap (reply_by (λ served. reply.Done)) c.post_telling.ensures.step) c.post_telling.ensures.refused)
