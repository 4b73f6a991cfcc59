use Rattle.std.proofs.Common.{◌≡◌, map, take}
use Rattle.evl_sync.specs.FlagGroups as flag_groups
use Rattle.evl_kernel.proofs.elements.opened_flags.Given as goal

abbrev pub invariant-loop-bits : goal.invariant-loop-bits
invariant-loop-bits g l = l.flags.items ≡ map flag_groups.opened_group (take l.bits-index l.openings)
