-- The box of each thread, in which the bytes lie that ended its wait.
use Rattle.std.specs.Prelude.{ℕ, ⊤, ◌≤◌, Bool, true, false, length, Option, Some, None}
use Rattle.std.specs.Option.{option_map_or}
use Rattle.arrayvec.specs.ArrayVec.{ArrayVec}
use Rattle.evl_base.specs.declared.reply.Reply.{Reply}
use Rattle.evl_base.specs.declared.reply.Reply.TheVariants.{Bytes}
use Rattle.evl_kernel.specs.declared.wait_place.Outcome.{Outcome}
use Rattle.evl_kernel.specs.declared.wait_place.Outcome.TheVariants.{Told, Read}
use Rattle.evl_kernel.specs.declared.waits.Wait.{Wait}

-- what ends a wait, as an answer
abbrev pub reply_of : Outcome → Reply
reply_of (Told reply) = reply
reply_of (Read bytes) = Bytes (record { items = bytes.now })

-- one transfer carries the bytes
abbrev pub FitsBox : Option Outcome → Type 0
FitsBox (Some (Read bytes)) = length bytes.now ≤ 256
FitsBox _ = ⊤

abbrev pub has_bytes : Reply → Bool
has_bytes (Bytes bytes) = true
has_bytes _ = false

-- the thread's box is there, or this answer's bytes lie in it
abbrev pub has_box : Option (ArrayVec ℕ) → Reply → Bool
has_box (Some box) answer = true
has_box None answer = has_bytes answer

-- the thread's box is there, or the bytes that ended its wait lie in it
abbrev pub keeps_box : Option (ArrayVec ℕ) → Option Wait → Bool
keeps_box (Some box) wait = true
keeps_box None wait = option_map_or (λ w. option_map_or has_bytes w.outcome false) wait false
