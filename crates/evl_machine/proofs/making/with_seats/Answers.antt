use Rattle.std.proofs.Common.{map, length, ◌+◌, ap, sym, ◌∙◌}
use Rattle.std.specs.List.{range_with_len}
use Rattle.evl_core.specs.rule.Known.{mutex_count}
use Rattle.evl_core.specs.words.MutexPlaces.{new_places}
use Rattle.evl_machine.proofs.callers.Newcomers.{staxes_of}
use Rattle.evl_machine.proofs.making.with_seats.Goals as goal

pub seat_callers-requires-clause-seats : goal.seat_callers-requires-clause-seats
seat_callers-requires-clause-seats g c = (
  c.requires.made.staxes ∙ ap (λ n. map (staxes_of c.args.elements.gates) (range_with_len 0 n)) c.requires.threads,
  c.requires.made.places ∙ ap (λ n. map (new_places (mutex_count c.args.core.shared.key.value)) (range_with_len 0 n)) c.requires.threads,
)

pub invariant_of-result : goal.invariant_of-result
invariant_of-result g c =
    let kinds = c.requires.made.kinds in
    (c.requires.table.0 ∙ ap (λ ks. 1 + length ks) (sym kinds), c.requires.table.1, c.requires.threads, kinds, c.requires.board)
