use Rattle.std.proofs.Common.{arith, map, string_bytes}
use Rattle.evl_plans.specs.Told.{handler_of}
use Rattle.evl_shell.specs.Moments.{moment}
use Rattle.lab_warnings.proofs.RunLaws.{looked}
use Rattle.lab_warnings.proofs.runs.look.Goals as goal

pub returns : goal.returns
returns c =
    let old = c.args.kernel.now in
    let made = c.in_ok-make_steps.ensures in
    looked c.args.name.now c.args.counts (map handler_of c.args.bank.now) c.len-asked.result old.limit (moment old) c.args.steps.items _ _ _ (string_bytes c.args.told.now) (string_bytes c.make_steps.new.told) (string_bytes c.warn_of_end.new.told)
    c.requires.empty (omega (arith, c.len-asked.ensures, c.args.steps.ok.0)) made.told made.entries made.state c.in_ok-warn_of_end.ensures
