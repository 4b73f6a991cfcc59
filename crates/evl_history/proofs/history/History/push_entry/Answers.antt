use Rattle.std.proofs.Common.{◌≡◌, ◌∷◌, ◌++◌, [], refl, sym, ap, arith, append-nil}
use Rattle.evl_history.proofs.HistoryLaws.{entered, entered_within, place_new, wide_new}
use Rattle.evl_history.proofs.history.History.push_entry.Goals as goal

pub invariant_of-self : goal.invariant_of-self
invariant_of-self g c = record {
  within =
      entered_within c.self.inside.rows.items c.self.inside.wide.items (c.args.entry ∷ []) c.self.inside.bytes.items [] _ c.self.invariant.within _ _ _ c.push_reserved-2.ensures.items c.push_reserved.ensures.items (sym (append-nil c.self.inside.bytes.items))
      (place_new c.self.inside.wide.items c.args.entry _ _ c.push_reserved.ensures.items (omega arith));
  few_wide = omega (arith, c.self.invariant.few_wide, c.push_reserved.ensures.len, c.push_reserved-2.ensures.len);
  few_bytes = omega (arith, c.self.invariant.few_bytes, c.push_reserved-2.ensures.len);
}

pub returns-clause-entry : goal.returns-clause-entry
returns-clause-entry g c =
    rw (← c.self.view_is)
    (entered c.self.inside.rows.items c.self.inside.wide.items (c.args.entry ∷ []) c.self.inside.bytes.items [] _ c.self.invariant.within _ _ _ c.push_reserved-2.ensures.items c.push_reserved.ensures.items (sym (append-nil c.self.inside.bytes.items))
    _ (wide_new c.self.inside.wide.items c.args.entry _ _ c.push_reserved.ensures.items (omega arith)))
