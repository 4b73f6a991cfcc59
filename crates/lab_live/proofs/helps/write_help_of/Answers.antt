use Rattle.std.proofs.Common.{string_bytes}
use Rattle.lab_live.proofs.HelpLaws.{not_helped}
use Rattle.lab_live.proofs.helps.write_help_of.Goals as goal

pub returns : goal.returns
returns c =
    let called = c.in_ok-write_call_of in
    not_helped c.args.word.now called.field-0 (string_bytes c.args.told.now) (string_bytes c.write_call_of.new.told) (string_bytes c.push_str.new.self) called.ensures.answers
    c.if-branch.false called.ensures.none c.in_ok-push_str.ensures.bytes
