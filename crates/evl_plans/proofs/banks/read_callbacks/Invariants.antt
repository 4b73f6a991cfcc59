use Rattle.std.proofs.Common.{◌≡◌, ◌≤◌, length, map, drop}
use Rattle.toml.specs.View.{items_view}
use Rattle.evl_plans.specs.Banks.{callbacks_from}
use Rattle.evl_plans.specs.Told.{handler_of}
use Rattle.evl_plans.proofs.CallbackLaws.{after_callbacks}
use Rattle.evl_plans.proofs.banks.read_callbacks.Given as goal

abbrev pub invariant-loop-i : goal.invariant-loop-i
invariant-loop-i l = record {
  rest : after_callbacks (map handler_of l.bank.items) (callbacks_from l.i (items_view (drop l.i l.values))) ≡ callbacks_from 0 (items_view l.values);
  count : length l.bank.items ≤ l.i;
  few : length l.bank.items ≤ 64;
}
