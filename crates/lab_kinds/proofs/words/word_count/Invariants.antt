use Rattle.std.proofs.Common.{◌≡◌, ◌≤◌, ◌+◌, drop}
use Rattle.std.specs.Prelude.{count_by}
use Rattle.lab_kinds.specs.Words.{is_word}
use Rattle.lab_kinds.proofs.words.word_count.Given as goal

abbrev pub invariant-loop-piece : goal.invariant-loop-piece
invariant-loop-piece l = record {
  rest : l.count + count_by (λ piece. is_word piece.kind) (drop l.piece-index l.pieces) ≡ count_by (λ piece. is_word piece.kind) l.pieces;
  few : l.count ≤ l.piece-index;
}
