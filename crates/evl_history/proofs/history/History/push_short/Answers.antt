use Rattle.std.proofs.Common.{◌≡◌, [], refl, sym, ap, arith, append-nil}
use Rattle.evl_history.proofs.HistoryLaws.{entered, entered_within}
use Rattle.evl_history.proofs.history.History.push_short.Goals as goal

pub invariant_of-self : goal.invariant_of-self
invariant_of-self g c = record {
  within =
      entered_within c.self.inside.rows.items c.self.inside.wide.items [] c.self.inside.bytes.items [] c.args.row c.self.invariant.within _ _ _ c.push_reserved.ensures.items (sym (append-nil c.self.inside.wide.items)) (sym (append-nil c.self.inside.bytes.items))
      (c.requires.within _ _);
  few_wide = omega (arith, c.self.invariant.few_wide, c.push_reserved.ensures.len);
  few_bytes = omega (arith, c.self.invariant.few_bytes, c.push_reserved.ensures.len);
}

pub returns-clause-entry : goal.returns-clause-entry
returns-clause-entry g c e codes =
    rw (← c.self.view_is)
    (entered c.self.inside.rows.items c.self.inside.wide.items [] c.self.inside.bytes.items [] c.args.row c.self.invariant.within _ _ _ c.push_reserved.ensures.items (sym (append-nil c.self.inside.wide.items)) (sym (append-nil c.self.inside.bytes.items))
    e (codes c.self.inside.wide.items c.self.inside.bytes.items).1)
