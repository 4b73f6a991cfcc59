-- Why a part of the program ends early.
use Rattle.std.specs.Prelude.{◌≡◌, Bool, false}
use Rattle.std.specs.declared.io.Error.{Error}
use Rattle.std.specs.IoError.{error_kind}
use Rattle.std.specs.declared.io.ErrorKind.TheVariants.{OutOfMemory}

-- rule: No part ends before it has done its work but for want of memory, or because its input, its output or its error
--   stream has failed: a file that cannot be read, a text or a bank that is refused ends none early.
--   clauses: check_files: early; note_files: early; play_files: early; tell_states: early; draw: early; convert: early;
--   live: early; tell_orders: early; drive_callers: early; help: early; do_part: early
-- for want of memory, unless its input, its output or its error stream has failed
abbrev pub EndsEarly : Bool → Bool → Bool → Error → Type 0
EndsEarly input_failed output_failed errors_failed error =
    input_failed ≡ false → output_failed ≡ false → errors_failed ≡ false → error_kind error ≡ OutOfMemory
