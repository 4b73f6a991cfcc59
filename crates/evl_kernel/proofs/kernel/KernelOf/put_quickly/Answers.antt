use Rattle.std.proofs.Common.{◌<◌, [], List, Ok, refl, ap, arith, length, length-append}
use Rattle.evl_base.specs.declared.entry.Entry.{Entry}
use Rattle.evl_base.specs.declared.call.Call.TheVariants.{Put}
use Rattle.evl_base.specs.declared.reply.Reply.TheVariants.{Done}
use Rattle.evl_kernel.specs.histories.Histories.{History, IsLegal}
use Rattle.evl_kernel.specs.state.Callbacks.{handlers_in}
use Rattle.evl_kernel.specs.state.Records.{state_of}
use Rattle.evl_kernel.specs.state.KernelViews.{Adds}
use Rattle.evl_kernel.specs.state.Insides.{kernel_view}
use Rattle.evl_kernel.proofs.state.CallbackLaws.{handlers-stand}
use Rattle.evl_kernel.proofs.histories.HistoryLaws.{legal_more, quick_adds}
use Rattle.evl_kernel.proofs.state.OnePlaceLaws.{are_in_one_place}
use Rattle.evl_kernel.proofs.kernel.KernelOf.put_quickly.Goals as goal
use Rattle.evl_kernel.proofs.kernel.KernelOf.put_quickly.Goals.{After-push_put}

pub returns-then-not-is_within-clause-legal : goal.returns-then-not-is_within-clause-legal
returns-then-not-is_within-clause-legal g c = rw (← c.self.view_is) c.self.invariant.legal

pub returns-then-not-is_within-clause-places : goal.returns-then-not-is_within-clause-places
returns-then-not-is_within-clause-places g c = rw (← c.self.view_is) (are_in_one_place c.self.inside.records (kernel_view c.self.inside).history c.self.invariant.legal refl refl)

-- the history after the step
abbrev after_put : (g : _) (c : After-push_put g) → History
after_put g c = record {
  board = c.self.inside.board;
  bank = handlers_in c.put_quickly.new.self.bank;
  entries = c.push_put.new.self.entries;
  plays = c.self.inside.plays.items;
  state = state_of c.put_quickly.new.self;
}

put_adds : (g : _) (c : After-push_put g) → Adds (kernel_view c.self.inside).history c.args.caller.0 (Put c.args.sem) (Ok Done) [] (after_put g c)
put_adds g c =
    quick_adds (kernel_view c.self.inside).history (after_put g c) c.args.caller.0 (Put c.args.sem) Done refl (handlers-stand c.self.inside.records c.put_quickly.new.self c.put_quickly.ensures.stands) refl
    c.push_put.ensures.entry (c.put_quickly.ensures.done c.if-not-put_quickly.false)

put_legal : (g : _) (c : After-push_put g) → IsLegal (after_put g c)
put_legal g c = legal_more (kernel_view c.self.inside).history (after_put g c) _ [] c.self.invariant.legal (put_adds g c).extends

-- the history was below its limit
has_room : (g : _) (c : After-push_put g) → length c.self.inside.history.entries < c.self.inside.limit
has_room g c = let room = c.self.invariant.fence (c.is_within.ensures.within c.if-not-is_within.false) in omega (arith, c.is_within.ensures.within c.if-not-is_within.false, room.0)

pub invariant_of-self-2 : goal.invariant_of-self-2
invariant_of-self-2 g c = record {
  legal = put_legal g c;
  within = omega (arith, has_room g c, ap (λ (es : List Entry). length es) c.push_put.ensures.entry, length-append {A = Entry});
  limit = c.self.invariant.limit;
  fence = λ below. let room = c.self.invariant.fence (c.is_within.ensures.within c.if-not-is_within.false) in (room.0, room.1, room.2);
}

pub returns-clause-entry : goal.returns-clause-entry
returns-clause-entry g c _ = rw (← c.self.view_is) ([], put_adds g c)

pub returns-clause-legal : goal.returns-clause-legal
returns-clause-legal g c = put_legal g c

pub returns-clause-places : goal.returns-clause-places
returns-clause-places g c = are_in_one_place c.put_quickly.new.self (after_put g c) (put_legal g c) refl refl

pub returns-clause-callbacks : goal.returns-clause-callbacks
returns-clause-callbacks g c = rw (← c.self.view_is) c.put_quickly.ensures.stands

pub push_put-requires : goal.push_put-requires
push_put-requires g c = record { room = c.is_within.ensures.room c.if-not-is_within.false; few = omega (arith, c.self.invariant.limit, c.is_within.ensures.within c.if-not-is_within.false, (c.self.invariant.fence (c.is_within.ensures.within c.if-not-is_within.false)).0) }

pub returns-clause-within : goal.returns-clause-within
returns-clause-within g c _ = rw (← c.self.view_is) (has_room g c)

pub returns-then-not-put_quickly-clause-kept : goal.returns-then-not-put_quickly-clause-kept
returns-then-not-put_quickly-clause-kept g c _ = rw (c.put_quickly.ensures.kept c.if-not-put_quickly.true, ← c.self.view_is) refl

pub returns-then-not-put_quickly-clause-legal : goal.returns-then-not-put_quickly-clause-legal
returns-then-not-put_quickly-clause-legal g c = rw (c.put_quickly.ensures.kept c.if-not-put_quickly.true) c.self.invariant.legal

pub returns-then-not-put_quickly-clause-places : goal.returns-then-not-put_quickly-clause-places
returns-then-not-put_quickly-clause-places g c =
    rw (c.put_quickly.ensures.kept c.if-not-put_quickly.true) (are_in_one_place c.self.inside.records (kernel_view c.self.inside).history c.self.invariant.legal refl refl)
