use Rattle.std.proofs.Common.{◌≡◌, ◌≤◌, length, map, take}
use Rattle.evl_plans.specs.Told as callbacks
use Rattle.evl_c.specs.Forms.{handler_of}
use Rattle.evl_c.proofs.forms.read_plans.Given as goal

abbrev pub invariant-loop-form : goal.invariant-loop-form
invariant-loop-form l = record {
  read : map callbacks.handler_of l.plans.items ≡ map handler_of (take l.form-index l.forms);
  count : length l.plans.items ≤ l.form-index;
}
