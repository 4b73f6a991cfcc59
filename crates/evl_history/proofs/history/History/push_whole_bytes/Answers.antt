use Rattle.std.proofs.Common.{◌≡◌, ◌∷◌, ◌++◌, ◌∙◌, [], Ok, refl, sym, ap, arith}
use Rattle.evl_base.specs.declared.entry.Entry.{Entry}
use Rattle.evl_base.specs.declared.reply.Reply.TheVariants.{Done}
use Rattle.evl_history.specs.Histories.{made_entry}
use Rattle.evl_history.proofs.HistoryLaws.{answering_new, entered, entered_within, place_new, there_new}
use Rattle.evl_history.proofs.history.History.push_whole_bytes.Goals as goal
use Rattle.evl_history.proofs.history.History.push_whole_bytes.Goals.{After-push_reserved-2}

-- the entry whose answer the bytes take the place of
abbrev stored : (g : _) (c : After-push_reserved-2 g) → Entry
stored g c = made_entry c.args.caller.0 c.args.call (Ok Done) c.args.plays

pub invariant_of-self : goal.invariant_of-self
invariant_of-self g c = record {
  within =
      entered_within c.self.inside.rows.items c.self.inside.wide.items (stored g c ∷ []) c.self.inside.bytes.items c.args.read.now _ c.self.invariant.within _ _ _ c.push_reserved-2.ensures.items c.push_reserved.ensures.items c.append-start.ensures.bytes (
        place_new c.self.inside.wide.items (stored g c) _ _ c.push_reserved.ensures.items (omega arith),
        there_new c.self.inside.bytes.items c.args.read.now _ _ _ c.append-start.ensures.bytes (omega (arith, c.append-start.ensures.start)) (omega arith) c.requires.read,
      );
  few_wide = omega (arith, c.self.invariant.few_wide, c.push_reserved.ensures.len, c.push_reserved-2.ensures.len);
  few_bytes = omega (arith, c.self.invariant.few_bytes, c.push_reserved-2.ensures.len, c.append-start.ensures.len, c.requires.read);
}

pub returns-clause-entry : goal.returns-clause-entry
returns-clause-entry g c =
    rw (← c.self.view_is)
    (entered c.self.inside.rows.items c.self.inside.wide.items (stored g c ∷ []) c.self.inside.bytes.items c.args.read.now _ c.self.invariant.within _ _ _ c.push_reserved-2.ensures.items c.push_reserved.ensures.items c.append-start.ensures.bytes
    _ (answering_new c.self.inside.bytes.items c.args.read.now c.append-start.new.bytes.items _ _ c.append-start.ensures.bytes (omega (arith, c.append-start.ensures.start)) (omega arith) c.self.inside.wide.items (stored g c) _ _ c.push_reserved.ensures.items (omega arith)))
