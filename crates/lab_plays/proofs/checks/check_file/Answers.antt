use Rattle.std.proofs.Common.{map}
use Rattle.evl_plans.specs.Told.{handler_of}
use Rattle.lab_plays.proofs.CheckLemmas.{each_read, each_unread}
use Rattle.lab_plays.proofs.checks.check_file.Goals as goal

pub returns-in-Ok-clause-each : goal.returns-in-Ok-clause-each
returns-in-Ok-clause-each g c =
    each_read (map handler_of c.args.plans.now) _ c.args.name.now c.in-Ok.text.items _ _ c.check_judged.result c.in-Ok.ensures c.check_judged.ensures.prints

pub returns-in_ok-tell_unread-in-Err-clause-each : goal.returns-in_ok-tell_unread-in-Err-clause-each
returns-in_ok-tell_unread-in-Err-clause-each g c = each_unread (map handler_of c.args.plans.now) c.args.name.now c.in-Err.why _ _ c.in_ok-tell_unread-in-Err.ensures.line
