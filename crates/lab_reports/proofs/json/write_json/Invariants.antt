use Rattle.std.proofs.Common.{◌≡◌, ◌++◌, drop, map, string_bytes}
use Rattle.lab_traces.specs.Says.{says_of}
use Rattle.lab_reports.specs.Json.{left_json, trace_json}
use Rattle.lab_reports.proofs.json.write_json.Given as goal

abbrev pub invariant-loop-line : goal.invariant-loop-line
invariant-loop-line l =
    string_bytes l.json ++ left_json l.file l.begun (map (λ line. says_of line.says) (drop l.line-index l.lines))
    ≡ trace_json l.file (map (λ line. says_of line.says) l.lines)
