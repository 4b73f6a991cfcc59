use Rattle.std.proofs.Common.{◌<◌, [], List, Ok, refl, ap, arith, length, length-append}
use Rattle.evl_base.specs.declared.entry.Entry.{Entry}
use Rattle.evl_base.specs.declared.call.Call.TheVariants.{TryGet}
use Rattle.evl_base.specs.declared.reply.Reply.TheVariants.{Done}
use Rattle.evl_kernel.specs.histories.Histories.{History, IsLegal}
use Rattle.evl_kernel.specs.state.Callbacks.{handlers_in}
use Rattle.evl_kernel.specs.state.Records.{state_of}
use Rattle.evl_kernel.specs.state.KernelViews.{Adds}
use Rattle.evl_kernel.specs.state.Insides.{kernel_view}
use Rattle.evl_kernel.proofs.state.CallbackLaws.{handlers-stand}
use Rattle.evl_kernel.proofs.histories.HistoryLaws.{legal_more, quick_adds}
use Rattle.evl_kernel.proofs.state.OnePlaceLaws.{are_in_one_place}
use Rattle.evl_kernel.proofs.kernel.KernelOf.get_quickly.Goals as goal
use Rattle.evl_kernel.proofs.kernel.KernelOf.get_quickly.Goals.{After-push_get}

pub returns-then-not-is_within-clause-legal : goal.returns-then-not-is_within-clause-legal
returns-then-not-is_within-clause-legal g c = rw (← c.self.view_is) c.self.invariant.legal

pub returns-then-not-is_within-clause-places : goal.returns-then-not-is_within-clause-places
returns-then-not-is_within-clause-places g c = rw (← c.self.view_is) (are_in_one_place c.self.inside.records (kernel_view c.self.inside).history c.self.invariant.legal refl refl)

-- the history after the step
abbrev after_get : (g : _) (c : After-push_get g) → History
after_get g c = record {
  board = c.self.inside.board;
  bank = handlers_in c.get_quickly.new.self.bank;
  entries = c.push_get.new.self.entries;
  plays = c.self.inside.plays.items;
  state = state_of c.get_quickly.new.self;
}

get_adds : (g : _) (c : After-push_get g) → Adds (kernel_view c.self.inside).history c.args.caller.0 (TryGet c.args.sem) (Ok Done) [] (after_get g c)
get_adds g c =
    quick_adds (kernel_view c.self.inside).history (after_get g c) c.args.caller.0 (TryGet c.args.sem) Done refl (handlers-stand c.self.inside.records c.get_quickly.new.self c.get_quickly.ensures.stands) refl
    c.push_get.ensures.entry (c.get_quickly.ensures.done c.if-not-get_quickly.false)

get_legal : (g : _) (c : After-push_get g) → IsLegal (after_get g c)
get_legal g c = legal_more (kernel_view c.self.inside).history (after_get g c) _ [] c.self.invariant.legal (get_adds g c).extends

-- the history was below its limit
has_room : (g : _) (c : After-push_get g) → length c.self.inside.history.entries < c.self.inside.limit
has_room g c = let room = c.self.invariant.fence (c.is_within.ensures.within c.if-not-is_within.false) in omega (arith, c.is_within.ensures.within c.if-not-is_within.false, room.0)

pub invariant_of-self-2 : goal.invariant_of-self-2
invariant_of-self-2 g c = record {
  legal = get_legal g c;
  within = omega (arith, has_room g c, ap (λ (es : List Entry). length es) c.push_get.ensures.entry, length-append {A = Entry});
  limit = c.self.invariant.limit;
  fence = λ below. let room = c.self.invariant.fence (c.is_within.ensures.within c.if-not-is_within.false) in (room.0, room.1, room.2);
}

pub returns-clause-entry : goal.returns-clause-entry
returns-clause-entry g c _ = rw (← c.self.view_is) ([], get_adds g c)

pub returns-clause-legal : goal.returns-clause-legal
returns-clause-legal g c = get_legal g c

pub returns-clause-places : goal.returns-clause-places
returns-clause-places g c = are_in_one_place c.get_quickly.new.self (after_get g c) (get_legal g c) refl refl

pub returns-clause-callbacks : goal.returns-clause-callbacks
returns-clause-callbacks g c = rw (← c.self.view_is) c.get_quickly.ensures.stands

pub push_get-requires : goal.push_get-requires
push_get-requires g c = record { room = c.is_within.ensures.room c.if-not-is_within.false; few = omega (arith, c.self.invariant.limit, c.is_within.ensures.within c.if-not-is_within.false, (c.self.invariant.fence (c.is_within.ensures.within c.if-not-is_within.false)).0) }

pub returns-clause-within : goal.returns-clause-within
returns-clause-within g c _ = rw (← c.self.view_is) (has_room g c)

pub returns-then-not-get_quickly-clause-kept : goal.returns-then-not-get_quickly-clause-kept
returns-then-not-get_quickly-clause-kept g c _ = rw (c.get_quickly.ensures.kept c.if-not-get_quickly.true, ← c.self.view_is) refl

pub returns-then-not-get_quickly-clause-legal : goal.returns-then-not-get_quickly-clause-legal
returns-then-not-get_quickly-clause-legal g c = rw (c.get_quickly.ensures.kept c.if-not-get_quickly.true) c.self.invariant.legal

pub returns-then-not-get_quickly-clause-places : goal.returns-then-not-get_quickly-clause-places
returns-then-not-get_quickly-clause-places g c =
    rw (c.get_quickly.ensures.kept c.if-not-get_quickly.true) (are_in_one_place c.self.inside.records (kernel_view c.self.inside).history c.self.invariant.legal refl refl)
