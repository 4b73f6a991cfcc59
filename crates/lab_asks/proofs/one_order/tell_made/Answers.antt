use Rattle.std.proofs.Common.{◌≡◌, ◌∙◌, List, codes, inl, inr, map, option_map, refl, subst, ℕ}
use Rattle.std.specs.Io.KnownBytes.{Appends}
use Rattle.std.proofs.KnownBytes.{Appends-nil}
use Rattle.std.specs.Prelude.{unwrap_or}
use Rattle.evl_plans.specs.Told.{handler_of as told_by}
use Rattle.lab_streams.specs.Endings.{line_about}
use Rattle.lab_asks.specs.OneOrder.{TellsMade, order_fault_words, order_of}
use Rattle.lab_asks.proofs.OrderLemmas.{order_is}
use Rattle.lab_streams.specs.Outputs.{prints}
use Rattle.lab_streams.proofs.OutputLemmas.{said_of}
use Rattle.lab_asks.proofs.one_order.tell_made.Goals as goal

pub returns-in-Err-clause-writes : goal.returns-in-Err-clause-writes
returns-in-Err-clause-writes g c =
    let name = unwrap_or (option_map (λ file. file.now) c.args.asked.now.file) (codes "-") in
    let callers = c.args.callers.now in
    let order = c.args.order.now in
    said_of _ (TellsMade (map told_by c.args.bank.now.plans.now) name callers order) _ _ _ (line_about name) (order_fault_words c.in-Err.fault) c.tell_order_fault.result
    (λ output says. inr (c.in-Err.fault, c.in-Err.ensures.unmade, says)) (rw c.name.ensures at c.tell_order_fault.ensures.line) c.tell_order_fault.ensures.status

pub returns-in_ok-write_all-in-Ok-clause-writes : goal.returns-in_ok-write_all-in-Ok-clause-writes
returns-in_ok-write_all-in-Ok-clause-writes g c =
    let callers = c.args.callers.now in
    let order = c.args.order.now in
    record {
      output = prints (order_of callers order);
      is = inl (c.in-Ok.ensures.made, refl);
      printed = subst (λ (l : List ℕ). Appends (g.O.Stream.contents c.args.out.now) (g.O.Stream.contents c.write_all.new.self) l)
          (c.as_bytes.ensures.value ∙ c.in-Ok.ensures.scenario ∙ order_is callers order) c.in_ok-write_all-in-Ok.ensures.bytes;
      said = Appends-nil _;
      ended = refl;
    }
