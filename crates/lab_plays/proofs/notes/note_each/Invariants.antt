use Rattle.std.proofs.Common.{map, take}
use Rattle.evl_plans.specs.Told.{handler_of}
use Rattle.lab_plays.specs.Notes.{NotesEach}
use Rattle.lab_plays.proofs.notes.note_each.Given as goal

abbrev pub invariant-loop-name : goal.invariant-loop-name
invariant-loop-name g l =
    NotesEach (map handler_of l.plans) (map (λ name. name.now) (take l.name-index l.names)) (g.O.Stream.contents l.initial.out) (g.O.Stream.contents l.out) l.status
