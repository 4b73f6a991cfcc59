use Rattle.lab_lines.proofs.HeardLaws.{words_heard}
use Rattle.lab_lines.proofs.lines.read_words.Goals as goal

pub returns-in-len2-up : goal.returns-in-len2-up
returns-in-len2-up c =
    words_heard c.read_thread.result c.args.line.now c.args.words.now (record { from = 0; to = 0 }) (record { from = 0; to = 0 }) c.behind_two.result.now
    c.in-len2-up.len_at_least c.behind_two.ensures c.read_thread.ensures
