use Rattle.std.proofs.Common.{◌≡◌, ◌++◌, map, take, drop, length}
use Rattle.evl_sync.specs.FlagGroups as flag_groups
use Rattle.evl_kernel.proofs.elements.resetting.reset_flags.Given as goal

abbrev pub invariant-loop-i : goal.invariant-loop-i
invariant-loop-i g l = record {
  length : length l.flags.items ≡ length l.fn.flags.items;
  items : l.flags.items ≡ map flag_groups.opened_group (take l.i l.openings) ++ drop l.i l.fn.flags.items;
}
