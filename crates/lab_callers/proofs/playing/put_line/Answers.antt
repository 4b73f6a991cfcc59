use Rattle.std.specs.Prelude.{string_bytes}
use Rattle.lab_callers.proofs.PlayLaws.{front_told}
use Rattle.lab_callers.proofs.playing.put_line.Goals as goal

pub returns-clause-told : goal.returns-clause-told
returns-clause-told g c =
    rw (← c.report.view_is) (front_told _ _ c.args.who.0 (string_bytes c.args.told.now.answer) c.args.told.now.shows (string_bytes c.report.inside.text)
    c.args.front.now (string_bytes c.push_str.new.self) c.put_told.new.report.text c.put_told.result c.in_ok-push_str.ensures.bytes c.put_told.ensures.told)
