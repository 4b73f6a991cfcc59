use Rattle.std.proofs.Common.{◌≡◌, [], Some, Bool, true, false, refl}
use Rattle.std.specs.Prelude.{is_some}
use Rattle.std.proofs.KnownBytes.{Appends-nil}
use Rattle.evl_scenario.specs.Steps.{word_of}
use Rattle.lab_json.specs.Calls.{call_named}
use Rattle.lab.specs.Helps.{HelpsJson, no_call_text}
use Rattle.lab_streams.specs.Outputs.{prints}
use Rattle.lab.proofs.HelpLemmas.{is_helped_json, is_no_call_json}
use Rattle.lab_streams.proofs.OutputLemmas.{written_err}
use Rattle.lab.proofs.helps.help_with_json.Goals as goal

pub returns-then-branch-clause-writes : goal.returns-then-branch-clause-writes
returns-then-branch-clause-writes g c =
    let known : is_some (word_of c.args.call.now) ≡ true = cc (c.in_ok-print_call_json.ensures.answers, c.if-branch.true) in
    record { output = prints (call_named c.args.call.now); is = is_helped_json (is_some (word_of c.args.call.now)) c.args.call.now known; printed = c.in_ok-print_call_json.ensures.form; said = Appends-nil _; ended = refl }

pub returns-clause-writes : goal.returns-clause-writes
returns-clause-writes g c =
    let unknown : is_some (word_of c.args.call.now) ≡ false = cc (c.in_ok-print_call_json.ensures.answers, c.if-branch.false) in
    written_err _ (HelpsJson (Some c.args.call.now)) _ _ _ _ [] (no_call_text c.args.call.now) 3 c.tell_no_call.result
    (is_no_call_json (is_some (word_of c.args.call.now)) c.args.call.now unknown) (c.in_ok-print_call_json.ensures.none unknown) c.tell_no_call.ensures.line c.tell_no_call.ensures.status
