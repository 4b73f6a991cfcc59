-- Whom a call served, and how that is kept: the bytes of all readers follow one another.
use Rattle.std.specs.Prelude.{ℕ, ◌≡◌, ◌≤◌, List, [], ◌∷◌, ◌++◌, length, map, slice_range, Option, Some, None, if◌then◌else◌}
use Rattle.std.specs.List.{AllByRecursion}
use Rattle.evl_xbuf.specs.declared.services.Service.{Service as Told}
use Rattle.evl_xbuf.specs.declared.services.Service.TheVariants as told
use Rattle.evl_xbuf.specs.declared.services.Turn.{Turn}
use Rattle.evl_xbuf.specs.Streams.{Service, Wrote, Got}

-- the bytes that readers got, in order
abbrev pub read_by : List Service → List ℕ
read_by [] = []
read_by (Wrote thread ∷ others) = read_by others
read_by (Got thread bytes ∷ others) = bytes ++ read_by others

-- a service with its thread and its bytes by number
abbrev pub told_of : Told → Service
told_of (told.Wrote thread) = Wrote thread.0
told_of (told.Got thread bytes) = Got thread.0 bytes.now

-- one transfer carries its bytes
abbrev pub IsShort : Option Told → Type 0
IsShort None = Unit {0}
IsShort (Some (told.Wrote thread)) = Unit {0}
IsShort (Some (told.Got thread bytes)) = length bytes.now ≤ 256

abbrev pub service_of : List ℕ → Turn → Service
service_of bytes turn = if turn.reads then Got turn.thread (slice_range bytes turn.start turn.end) else Wrote turn.thread

abbrev pub services : List ℕ → List Turn → List Service
services bytes turns = map (service_of bytes) turns

-- the bytes are those that the readers got
pub record AreTurns (bytes : List ℕ) (turns : List Turn) : Type 0 where
  pub within : AllByRecursion (λ turn. (turn.start ≤ turn.end) × (turn.end ≤ length bytes)) turns
  pub whole : read_by (services bytes turns) ≡ bytes
