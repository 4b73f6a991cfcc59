-- Tables with a key less, or with a value at a key.
use Rattle.std.specs.Prelude.{ℕ, List, if◌then◌else◌}
use Rattle.std.specs.Cmp.Lexicographic.{slice_cmp}
use Rattle.std.specs.Ordering.{match_ordering, nat_cmp}
use Rattle.toml.specs.Data.{Data, Members, no_members, member, same_key}

-- without what is at a key
abbrev pub without : List ℕ → Members → Members
without key no_members = no_members
without key (member other value rest) = if same_key key other then rest else member other value (without key rest)

-- with this value at a key, whose place is the one that it has in the order of the keys
abbrev pub with_value : List ℕ → Data → Members → Members
with_value key new no_members = member key new no_members
with_value key new (member other value rest) =
    match_ordering (slice_cmp nat_cmp key other) (member key new (member other value rest)) (member other new rest) (member other value (with_value key new rest))
