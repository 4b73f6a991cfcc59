use Rattle.std.proofs.Common.{◌≡◌, None, find, map, take}
use Rattle.evl_plans.specs.Told.{handler_of}
use Rattle.lab_plays.specs.Plays.{PlaysEach}
use Rattle.lab_streams.specs.Texts.{is_input}
use Rattle.lab_plays.specs.States.{IsTold}
use Rattle.lab_plays.proofs.states.tell_each.Given as goal

abbrev pub invariant-loop-file : goal.invariant-loop-file
invariant-loop-file g l =
    (all : PlaysEach (IsTold (map handler_of l.plans) l.limit) (map (λ file. file.now) (take l.file-index l.files))
    (g.I.Read.remaining l.initial.input) (g.O.Stream.contents l.initial.out) (g.O.Stream.contents l.out) (g.E.Stream.contents l.initial.err) (g.E.Stream.contents l.err) l.status)
    × (find (λ p. is_input p.name) all.each ≡ None → g.I.Read.remaining l.input ≡ g.I.Read.remaining l.initial.input)
