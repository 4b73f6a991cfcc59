use Rattle.std.proofs.Common.{◌∙◌, ◌++◌, ap, string_bytes}
use Rattle.lab_json.specs.Notices.{Said, notice_json}
use Rattle.lab_json.specs.Warned.{warned_json}
use Rattle.lab_json.proofs.warned.write_warned.Goals as goal

pub returns : goal.returns
unfolding warned_json
returns c = c.in_ok-write_notice.ensures ∙ ap (λ (said : Said). string_bytes c.args.json.now ++ notice_json c.args.file.now said) c.warned.ensures
