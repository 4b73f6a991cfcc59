use Rattle.std.proofs.Common.{◌≡◌, ℕ, List, ◌++◌, take}
use Rattle.std.specs.Prelude.{string_bytes}
use Rattle.lab_traces.specs.Parts.{Lacks}
use Rattle.lab_drives.specs.Lives.{Hears}
use Rattle.lab_drives.proofs.lives.take_bytes.Given as goal

abbrev pub invariant-loop-byte : goal.invariant-loop-byte
invariant-loop-byte g l = record {
  waits : Lacks 10 l.waiting.items;
  heard : (answers : List ℕ) × Hears (take l.byte-index l.bytes) l.initial.waiting.items l.waiting.items l.initial.session l.session answers
      × (string_bytes l.told ≡ string_bytes l.initial.told ++ answers);
}
