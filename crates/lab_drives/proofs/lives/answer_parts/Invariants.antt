use Rattle.std.proofs.Common.{ℕ, List, []}
use Rattle.std.specs.Io.KnownBytes.{Appends, Consumes}
use Rattle.lab_traces.specs.Parts.{Lacks}
use Rattle.lab_drives.specs.Lives.{Hears}
use Rattle.lab_drives.proofs.lives.answer_parts.Given as goal

abbrev pub invariant-loop : goal.invariant-loop
invariant-loop g l = record {
  waits : Lacks 10 l.waiting.items;
  heard : (bytes answers : List ℕ) × Consumes (g.I.Read.remaining l.initial.input) (g.I.Read.remaining l.input) bytes
      × Hears bytes [] l.waiting.items l.initial.session l.session answers × Appends (g.O.Stream.contents l.initial.out) (g.O.Stream.contents l.out) answers;
}
