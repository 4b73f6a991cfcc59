use Rattle.std.proofs.Common.{◌≡◌, ◌++◌, drop, false, map, string_bytes}
use Rattle.toml.specs.View.{items_of}
use Rattle.evl_scenario.specs.Writings.{items_text}
use Rattle.evl_scenario.proofs.lists.write_others.Given as goal

abbrev pub invariant-loop-value : goal.invariant-loop-value
invariant-loop-value g l =
    string_bytes l.text ++ items_text false (items_of (map g.T.Listed.data_of (drop l.value-index l.others)))
    ≡ string_bytes l.initial.text ++ items_text false (items_of (map g.T.Listed.data_of l.others))
