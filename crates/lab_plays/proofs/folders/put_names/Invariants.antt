use Rattle.std.proofs.Common.{◌≡◌, ◌++◌, drop, map, string_bytes}
use Rattle.std.specs.List.{concat}
use Rattle.lab_plays.specs.Folders.{behind_slash}
use Rattle.lab_plays.proofs.folders.put_names.Given as goal

abbrev pub invariant-loop-name : goal.invariant-loop-name
invariant-loop-name l =
    string_bytes l.path ++ concat (map behind_slash (map (λ name. name.now) (drop l.name-index l.names)))
    ≡ string_bytes l.initial.path ++ concat (map behind_slash (map (λ name. name.now) l.names))
