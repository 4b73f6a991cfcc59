use Rattle.std.proofs.Common.{◌≡◌, drop}
use Rattle.std.specs.List.{list_all}
use Rattle.evl_c.specs.Forms.{is_plan}
use Rattle.evl_c.proofs.forms.is_each_plan.Given as goal

abbrev pub invariant-loop-form : goal.invariant-loop-form
invariant-loop-form l = list_all is_plan (drop l.form-index l.forms) ≡ list_all is_plan l.forms
