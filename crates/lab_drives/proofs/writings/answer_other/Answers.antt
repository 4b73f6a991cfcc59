use Rattle.lab_drives.proofs.LiveLemmas.{line_answered}
use Rattle.lab_drives.proofs.writings.answer_other.Goals as goal

pub returns : goal.returns
returns c =
    let e = c.in_ok-answer_line.ensures in
    let line = line_answered c.args.line.now c.args.session.now c.answer_line.new.session _ _ e.told e.asked e.stays e.undone e.none e.comment e.scenario e.state e.whole e.sign e.help e.word in
    (e.told.lines, line, e.told.told)
