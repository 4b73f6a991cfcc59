use Rattle.std.proofs.Common.{◌≡◌, codes, option_map, refl}
use Rattle.std.specs.Prelude.{unwrap_or}
use Rattle.lab_asks.specs.Alone.{alone_status, alone_text, head_text, verdict_told}
use Rattle.lab_streams.proofs.OutputLemmas.{written_err}
use Rattle.lab_asks.proofs.alone.tell_found.Goals as goal

pub returns-clause-writes : goal.returns-clause-writes
returns-clause-writes g c =
    let name = unwrap_or (option_map (λ file. file.now) c.args.asked.now.file) (codes "-") in
    let ask = c.args.ask.now in
    let found = c.args.found.now in
    written_err _ (λ output. output ≡ verdict_told name ask found) _ _ _ _ (head_text found) (alone_text name ask found) (alone_status ask found)
    c.tell_verdict.result refl c.in_ok-print_head.ensures.text (rw c.name.ensures at c.tell_verdict.ensures.line) c.tell_verdict.ensures.status
