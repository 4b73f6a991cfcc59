use Rattle.std.proofs.Common.{◌≡◌, ◌++◌, drop, flat_map, map, string_bytes}
use Rattle.lab_faults.specs.Told.{fault_told}
use Rattle.lab_json.specs.Notices.{fault_json}
use Rattle.lab_json.proofs.notices.write_faults.Given as goal

abbrev pub invariant-loop-one : goal.invariant-loop-one
invariant-loop-one l =
    string_bytes l.json ++ flat_map (fault_json l.file) (map fault_told (drop l.one-index l.found))
    ≡ string_bytes l.initial.json ++ flat_map (fault_json l.file) (map fault_told l.found)
