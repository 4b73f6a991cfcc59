use Rattle.std.proofs.Common.{◌≡◌, ◌++◌, All, map}
use Rattle.std.specs.Arc.{arc_value}
use Rattle.evl_machine.specs.callers.Handles.{Belongs}
use Rattle.evl_hosts.specs.Hosts.{new_host}
use Rattle.evl_hosts.proofs.opening.apart.Given as goal

abbrev pub invariant-loop-caller : goal.invariant-loop-caller
invariant-loop-caller l = record {
  made : l.hosts.items ++ map (new_host (arc_value l.shared)) l.caller-iterator.rest.items ≡ map (new_host (arc_value l.shared)) l.fn.callers.items;
  belong : All (λ c. Belongs c (arc_value l.shared)) l.caller-iterator.rest.items;
}
