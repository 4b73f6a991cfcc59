use Rattle.std.proofs.Common.{◌≡◌, insert, nat_lt, sym, ap, ◌∙◌, arith}
use Rattle.std.specs.List.{position_or_len}
use Rattle.evl_sync.specs.declared.flag_waiter.FlagWaiter.{FlagWaiter}
use Rattle.evl_sync.specs.Queues.{enqueued_by}
use Rattle.evl_sync.proofs.QueueLaws.{inserted, has_room}
use Rattle.evl_sync.proofs.FlagLaws.{begun}
use Rattle.evl_sync.proofs.GroupLaws.{sound-begun}
use Rattle.evl_sync.proofs.flag_group.FlagGroup.begin_take.Goals as goal

pub insert-requires : goal.insert-requires
insert-requires c =
    let l = has_room (λ w. w.thread) (λ w. w.rank) c.args.thread.0 c.self.inside.waiters.items c.self.invariant.queue (rw (← c.self.view_is) at c.requires.away) c.requires.few in
    (omega arith, (rw c.as_slice.ensures.value at c.place_for-place.ensures.within, l))

pub invariant_of-self-in-None : goal.invariant_of-self-in-None
invariant_of-self-in-None c =
    let ws = c.self.inside.waiters.items in let w : FlagWaiter = record { thread = c.args.thread.0; rank = c.args.rank; kind = c.args.kind } in
    let after : c.insert.new.self.items ≡ enqueued_by (λ v. v.rank) w ws =
    c.insert.ensures.items ∙ ap (λ k. insert ws k w) c.place_for-place.ensures.place ∙ ap (λ xs. insert ws (position_or_len (λ v. nat_lt v.rank c.args.rank) xs) w) c.as_slice.ensures.value ∙ inserted (λ v. v.rank) w ws in
    rw after (sound-begun w c.self.inside.bits ws (rw (← c.self.view_is) at c.requires.away) c.requires.few (sym c.in-None.ensures.taken) c.self.invariant)

pub returns-in-None-clause-step : goal.returns-in-None-clause-step
returns-in-None-clause-step c =
    let ws = c.self.inside.waiters.items in let w : FlagWaiter = record { thread = c.args.thread.0; rank = c.args.rank; kind = c.args.kind } in
    let after : c.insert.new.self.items ≡ enqueued_by (λ v. v.rank) w ws =
    c.insert.ensures.items ∙ ap (λ k. insert ws k w) c.place_for-place.ensures.place ∙ ap (λ xs. insert ws (position_or_len (λ v. nat_lt v.rank c.args.rank) xs) w) c.as_slice.ensures.value ∙ inserted (λ v. v.rank) w ws in
    rw (← c.self.view_is) (begun w c.self.inside.bits ws c.insert.new.self.items after (sym c.if-is_empty_mask.ensures.empty) (sym c.in-None.ensures.taken))
