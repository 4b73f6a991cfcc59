use Rattle.std.proofs.Common.{map, string_bytes}
use Rattle.evl_plans.specs.Told.{handler_of}
use Rattle.lab_warnings.proofs.RunLaws.{no_script, of_script}
use Rattle.lab_warnings.proofs.runs.run.Goals as goal

pub returns-in_ok-play-in-Ok : goal.returns-in_ok-play-in-Ok
returns-in_ok-play-in-Ok c =
    of_script c.args.name.now (map handler_of c.args.bank.now) _ c.in-Ok.scenario (string_bytes c.args.told.now) _ c.in-Ok.ensures.ok c.in_ok-play-in-Ok.ensures

pub returns-in_ok-end_of-in-Err : goal.returns-in_ok-end_of-in-Err
returns-in_ok-end_of-in-Err c = no_script c.args.name.now (map handler_of c.args.bank.now) _ _ (string_bytes c.args.told.now) c.in_ok-end_of-in-Err.ensures c.in-Err.ensures.err
