use Rattle.std.proofs.Common.{◌≡◌, ◌+◌, ◌++◌, ◌∷◌, List, [], None, Ok, length, refl, sym, ap, arith, append-nil}
use Rattle.arrayvec.specs.ArrayVec.{ArrayVec}
use Rattle.std.proofs.Common.{ℕ}
use Rattle.evl_base.specs.declared.call.Call.TheVariants.{Write, BeginWrite, Read, Finish}
use Rattle.evl_base.specs.declared.reply.Reply.TheVariants.{Bytes}
use Rattle.evl_history.specs.Rows.{entry, told, transfer}
use Rattle.evl_history.proofs.HistoryLaws.{entered, entered_within, span_new, there_new}
use Rattle.evl_history.proofs.history.History.push_read.Goals as goal

pub invariant_of-self : goal.invariant_of-self
invariant_of-self g c = record {
  within =
      entered_within c.self.inside.rows.items c.self.inside.wide.items [] c.self.inside.bytes.items c.args.read.now _ c.self.invariant.within _ _ _ c.push_reserved.ensures.items (sym (append-nil c.self.inside.wide.items)) c.append-start.ensures.bytes
      (there_new c.self.inside.bytes.items c.args.read.now _ _ _ c.append-start.ensures.bytes (omega (arith, c.append-start.ensures.start)) (omega arith) c.requires.read);
  few_wide = omega (arith, c.self.invariant.few_wide, c.push_reserved.ensures.len);
  few_bytes = omega (arith, c.self.invariant.few_bytes, c.push_reserved.ensures.len, c.append-start.ensures.len, c.requires.read);
}

pub returns-clause-entry : goal.returns-clause-entry
returns-clause-entry g c =
    rw (← c.self.view_is)
    (entered c.self.inside.rows.items c.self.inside.wide.items [] c.self.inside.bytes.items c.args.read.now _ c.self.invariant.within _ _ _ c.push_reserved.ensures.items (sym (append-nil c.self.inside.wide.items)) c.append-start.ensures.bytes
    _ (ap (λ (read : ArrayVec ℕ). entry c.args.head (Read c.args.xbuf c.args.way c.args.len) (Ok (Bytes read))) (span_new c.self.inside.bytes.items c.args.read.now _ _ _ c.append-start.ensures.bytes (omega (arith, c.append-start.ensures.start)) (omega arith))))
