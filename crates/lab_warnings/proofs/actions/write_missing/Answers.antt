use Rattle.std.proofs.Common.{string_bytes}
use Rattle.lab_warnings.proofs.LineLaws.{behind}
use Rattle.lab_warnings.proofs.actions.write_missing.Goals as goal

pub returns : goal.returns
returns c = behind (string_bytes c.args.told.now) (string_bytes c.write_place.new.told) (string_bytes c.write.new.self) _ _ c.in_ok-write_place.ensures c.in_ok-write.ensures.bytes
