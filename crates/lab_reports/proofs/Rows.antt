-- Worked rows, computed from the definitions.
use Rattle.std.proofs.Common.{◌≡◌, ℕ, false, List, [], ◌∷◌, ◌++◌, codes, Some, None, refl}
use Rattle.evl_base.specs.declared.play.Play.TheVariants.{Clock, Line}
use Rattle.evl_base.specs.declared.stage.Stage.TheVariants.{Oob}
use Rattle.lab_traces.specs.Lines.{Said, entry, play}
use Rattle.std.specs.Fmt.{digits}
use Rattle.serde_json.proofs.OnLiterals.{serde_json_on_literals}
use Rattle.lab_reports.specs.Calls.{call_pairs, call_word}
use Rattle.lab_reports.specs.Differences.{differing}
use Rattle.lab_reports.specs.Json.{answer_json, trace_json}

-- ---- the parts of a call

-- a value with a space in it
call_1-word : call_word (codes "attach policy=fifo 10 stage=oob") ≡ codes "attach"
call_1-word = refl

call_1-pairs : call_pairs (codes "attach policy=fifo 10 stage=oob") ≡ (codes "policy", codes "fifo 10") ∷ (codes "stage", codes "oob") ∷ []
call_1-pairs = refl

-- no keys
call_2-word : call_word (codes "pick") ≡ codes "pick"
call_2-word = refl

call_2-pairs : call_pairs (codes "pick") ≡ []
call_2-pairs = refl

-- of no call: a second `=` without a space before it
call_3-pairs : call_pairs (codes "put sem=0=1 of=2") ≡ (codes "sem", codes "0=1 of=2") ∷ []
call_3-pairs = refl

-- ---- a trace

-- 1 T1 write xbuf=0 way=in bytes=- -> done, and what was played: a line, the clock
-- - T0 begin_get sem=0 until=none -> HistoryFull
abbrev told : List Said
told =
    entry (record { number = Some 1; thread = 1; call = codes "write xbuf=0 way=in bytes=-"; answer = codes "done" })
    ∷ play (Line (record { 0 = 5 }) Oob 1 false) ∷ play Clock
    ∷ entry (record { number = None; thread = 0; call = codes "begin_get sem=0 until=none"; answer = codes "HistoryFull" }) ∷ []

abbrev write_line : List ℕ
write_line =
    codes "{\"file\": \"a \\\"b\\\"\", \"number\": 1, \"who\": 1, \"call\": \"write\", \"keys\": {\"xbuf\": 0, \"way\": \"in\", \"bytes\": \"\"}, "
    ++ (codes "\"answer\": {\"kind\": \"done\", \"value\": null}, \"refused\": false, \"plays\": ["
    ++ codes "{\"play\": \"line\", \"line\": 5, \"stage\": \"oob\", \"count\": 1, \"handled\": false}, {\"play\": \"clock\"}]}\n")

abbrev begin_line : List ℕ
begin_line =
    codes "{\"file\": \"a \\\"b\\\"\", \"number\": null, \"who\": 0, \"call\": \"begin_get\", \"keys\": {\"sem\": 0, \"until\": null}, "
    ++ codes "\"answer\": {\"kind\": \"refused\", \"value\": \"HistoryFull\"}, \"refused\": true, \"plays\": []}\n"

trace_1 : trace_json (codes "a \"b\"") told ≡ write_line ++ begin_line
unfolding serde_json_on_literals digits
trace_1 = refl

-- a play that no entry comes before
abbrev before_line : List ℕ
before_line =
    codes "{\"file\": \"a \\\"b\\\"\", \"number\": null, \"who\": null, \"call\": null, \"keys\": {}, "
    ++ codes "\"answer\": null, \"refused\": false, \"plays\": [{\"play\": \"clock\"}]}\n"

trace_2 : trace_json (codes "a \"b\"") (play Clock ∷ told) ≡ before_line ++ (write_line ++ begin_line)
unfolding serde_json_on_literals digits
trace_2 = refl

-- ---- answers

answer_1 : answer_json (codes "count -2") ≡ codes ", \"answer\": {\"kind\": \"count\", \"value\": -2}, \"refused\": false"
unfolding serde_json_on_literals digits
answer_1 = refl

answer_2 : answer_json (codes "bytes 0012") ≡ codes ", \"answer\": {\"kind\": \"bytes\", \"value\": \"0012\"}, \"refused\": false"
unfolding serde_json_on_literals digits
answer_2 = refl

answer_3 : answer_json (codes "bytes -") ≡ codes ", \"answer\": {\"kind\": \"bytes\", \"value\": \"\"}, \"refused\": false"
unfolding serde_json_on_literals digits
answer_3 = refl

answer_4 : answer_json (codes "thread none") ≡ codes ", \"answer\": {\"kind\": \"thread\", \"value\": null}, \"refused\": false"
unfolding serde_json_on_literals digits
answer_4 = refl

answer_5 : answer_json (codes "next 3 more") ≡ codes ", \"answer\": {\"kind\": \"next\", \"value\": {\"thread\": 3, \"more\": true}}, \"refused\": false"
unfolding serde_json_on_literals digits
answer_5 = refl

answer_6 : answer_json (codes "next none") ≡ codes ", \"answer\": {\"kind\": \"next\", \"value\": {\"thread\": null, \"more\": false}}, \"refused\": false"
unfolding serde_json_on_literals digits
answer_6 = refl

answer_7 : answer_json (codes "timed out") ≡ codes ", \"answer\": {\"kind\": \"timed out\", \"value\": null}, \"refused\": false"
unfolding serde_json_on_literals digits
answer_7 = refl

-- ---- differences

-- the number of an entry is none, another answer and a line more are
apart_1 : differing 1 (codes "1 T0 now -> number 0" ∷ codes "2 T0 peek sem=0 -> count 1" ∷ [])
    (codes "2 T0 now -> number 0" ∷ codes "2 T0 peek sem=0 -> count 2" ∷ codes "  clock" ∷ [])
    ≡ (2, Some (codes "2 T0 peek sem=0 -> count 1"), Some (codes "2 T0 peek sem=0 -> count 2")) ∷ (3, None, Some (codes "  clock")) ∷ []
unfolding digits
apart_1 = refl
