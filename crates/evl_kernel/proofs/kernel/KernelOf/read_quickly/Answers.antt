use Rattle.std.proofs.Common.{ℕ, ◌<◌, ◌∷◌, ◌++◌, ◌∙◌, [], List, Ok, refl, ap, arith, length, length-append}
use Rattle.evl_base.specs.declared.entry.Entry.{Entry}
use Rattle.evl_base.specs.declared.call.Call.TheVariants.{Read}
use Rattle.evl_base.specs.declared.reply.Reply.TheVariants.{Bytes}
use Rattle.evl_history.specs.Rows.{transfer}
use Rattle.evl_kernel.specs.histories.Histories.{History, IsLegal}
use Rattle.evl_kernel.specs.state.Callbacks.{handlers_in}
use Rattle.evl_kernel.specs.state.Records.{state_of}
use Rattle.evl_kernel.specs.state.KernelViews.{Adds}
use Rattle.evl_kernel.specs.state.Insides.{kernel_view}
use Rattle.evl_kernel.proofs.state.CallbackLaws.{handlers-stand}
use Rattle.evl_kernel.proofs.histories.HistoryLaws.{counted_entry, legal_more, quick_adds}
use Rattle.evl_kernel.proofs.state.OnePlaceLaws.{are_in_one_place}
use Rattle.evl_kernel.proofs.kernel.KernelOf.read_quickly.Goals as goal
use Rattle.evl_kernel.proofs.kernel.KernelOf.read_quickly.Goals.{After-keep_box}

pub returns-then-not-is_within-clause-places : goal.returns-then-not-is_within-clause-places
returns-then-not-is_within-clause-places g c = rw (← c.self.view_is) (are_in_one_place c.self.inside.records (kernel_view c.self.inside).history c.self.invariant.legal refl refl)

pub returns-in_default-clause-places : goal.returns-in_default-clause-places
returns-in_default-clause-places g c =
    rw (c.in_default.ensures.kept.0) (are_in_one_place c.self.inside.records (kernel_view c.self.inside).history c.self.invariant.legal refl refl)

-- the history after the step
abbrev after_read : (g : _) (c : After-keep_box g) → History
after_read g c = record {
  board = c.self.inside.board;
  bank = handlers_in c.read_quickly.new.self.bank;
  entries = c.push_transfer.new.self.entries;
  plays = c.self.inside.plays.items;
  state = state_of c.read_quickly.new.self;
}

read_adds : (g : _) (c : After-keep_box g) → Adds (kernel_view c.self.inside).history c.args.caller.0 (Read c.args.xbuf c.args.way c.args.len) (Ok (Bytes c.in-Some.read)) [] (after_read g c)
read_adds g c =
    quick_adds (kernel_view c.self.inside).history (after_read g c) c.args.caller.0 (Read c.args.xbuf c.args.way c.args.len) (Bytes c.in-Some.read) refl (handlers-stand c.self.inside.records c.read_quickly.new.self c.read_quickly.ensures.stands) refl
    (c.push_transfer.ensures.entry ∙ ap (λ (bytes : List ℕ). c.self.inside.history.entries ++ counted_entry c.args.caller.0 (Read c.args.xbuf c.args.way c.args.len) (Ok (Bytes (transfer bytes))) 0 ∷ []) c.as_slice.ensures.items)
    c.in-Some.ensures.done

read_legal : (g : _) (c : After-keep_box g) → IsLegal (after_read g c)
read_legal g c = legal_more (kernel_view c.self.inside).history (after_read g c) _ [] c.self.invariant.legal (read_adds g c).extends

-- the history was below its limit
has_room : (g : _) (c : After-keep_box g) → length c.self.inside.history.entries < c.self.inside.limit
has_room g c = let room = c.self.invariant.fence (c.is_within.ensures.within c.if-not-is_within.false) in omega (arith, c.is_within.ensures.within c.if-not-is_within.false, room.0)

pub invariant_of-self-2 : goal.invariant_of-self-2
invariant_of-self-2 g c = record {
  legal = read_legal g c;
  within = omega (arith, has_room g c, ap (λ (es : List Entry). length es) c.push_transfer.ensures.entry, length-append {A = Entry});
  limit = c.self.invariant.limit;
  fence = λ below. let room = c.self.invariant.fence (c.is_within.ensures.within c.if-not-is_within.false) in (omega (arith, room.0, c.keep_box.ensures.fence), room.1, c.keep_box.ensures.boxes (omega (arith, below)));
}

pub returns-clause-entry : goal.returns-clause-entry
returns-clause-entry g c = rw (← c.self.view_is) ([], read_adds g c)

pub returns-clause-legal : goal.returns-clause-legal
returns-clause-legal g c = read_legal g c

pub returns-clause-places : goal.returns-clause-places
returns-clause-places g c = are_in_one_place c.read_quickly.new.self (after_read g c) (read_legal g c) refl refl

pub read_quickly-requires : goal.read_quickly-requires
read_quickly-requires g c = record { boxes = (c.self.invariant.fence (c.is_within.ensures.within c.if-not-is_within.false)).2 }

pub push_transfer-requires : goal.push_transfer-requires
push_transfer-requires g c = let room = c.self.invariant.fence (c.is_within.ensures.within c.if-not-is_within.false) in record {
  room = c.is_within.ensures.room c.if-not-is_within.false;
  few = omega (arith, c.is_within.ensures.within c.if-not-is_within.false, room.0, c.self.invariant.limit);
  read = omega (arith, ap (λ (bytes : List ℕ). length bytes) c.as_slice.ensures.items, c.as_slice.ensures.few);
}
