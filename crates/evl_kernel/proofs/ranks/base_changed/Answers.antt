use Rattle.std.proofs.Common.{ℕ, List, length, slice_set, ap, ◌∙◌}
use Rattle.std.proofs.lemmas.List.{length-set}
use Rattle.evl_kernel.specs.state.ChangedThreads.{is_noted}
use Rattle.evl_kernel.specs.state.ElementsViews.{owners_of}
use Rattle.evl_kernel.proofs.state.ChangedLaws.{given-told}
use Rattle.evl_kernel.proofs.calls.HandLaws.{base-told}
use Rattle.evl_kernel.proofs.ranks.base_changed.Goals as goal

pub hand_on-requires-clause-told : goal.hand_on-requires-clause-told
hand_on-requires-clause-told g c =
    let base = c.set_base.ensures.told ∙ ap (λ (rank : ℕ). slice_set c.args.elements.now.base c.args.thread.0 rank) c.base_rank-rank.ensures.base in
    rw base (base-told c.args.elements.now.base c.args.sched.now.sched c.args.thread.0 c.requires.size c.requires.few c.requires.there c.requires.others)

pub hand_on-requires-clause-others : goal.hand_on-requires-clause-others
hand_on-requires-clause-others g c =
    given-told (owners_of c.args.elements.now) (owners_of c.set_base.new.self) c.args.sched.now c.args.thread.0
    (is_noted c.args.changes.now) (is_noted c.note.new.self) (is_noted c.set_base.new.changes) c.note.ensures.noted c.requires.given c.set_base.ensures.noted

pub returns-clause-told : goal.returns-clause-told
returns-clause-told g c =
    let base = c.set_base.ensures.told ∙ ap (λ (rank : ℕ). slice_set c.args.elements.now.base c.args.thread.0 rank) c.base_rank-rank.ensures.base in
    rw (c.hand_on.ensures.kept, base) (base-told c.args.elements.now.base c.args.sched.now.sched c.args.thread.0 c.requires.size c.requires.few c.requires.there c.requires.others)

pub returns-clause-size : goal.returns-clause-size
returns-clause-size g c = ap (λ (base : List ℕ). length base) c.set_base.ensures.told ∙ length-set c.args.elements.now.base c.args.thread.0 c.base_rank-rank.result
