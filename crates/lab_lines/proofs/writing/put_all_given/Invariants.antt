use Rattle.std.proofs.Common.{◌≡◌, ◌++◌, drop, flat_map, map}
use Rattle.lab_lines.specs.Lines.{words_of}
use Rattle.lab_lines.specs.Writings.{given_text}
use Rattle.lab_lines.proofs.writing.put_all_given.Given as goal

abbrev pub invariant-loop-line : goal.invariant-loop-line
invariant-loop-line l =
    l.text.items ++ flat_map (λ line. given_text line (words_of line)) (map (λ line. line.now) (drop l.line-index l.all))
    ≡ l.initial.text.items ++ flat_map (λ line. given_text line (words_of line)) (map (λ line. line.now) l.all)
