-- How a machine is, as a line of JSON.
use Rattle.std.specs.Prelude.{ℕ, Bool, List, ◌++◌, codes, decimal, if◌then◌else◌}
use Rattle.evl_base.specs.Stage.{stage_text}
use Rattle.evl_base.specs.declared.stage.Stage.{Stage}
use Rattle.evl_base.specs.declared.stage.Stage.TheVariants.{Inband, Oob}
use Rattle.evl_pipeline.specs.Lines.{side}
use Rattle.evl_sched.specs.Picks.{picked}
use Rattle.evl_kernel.specs.calls.ThreadCalls.{rank_of}
use Rattle.evl_kernel.specs.state.States.{State, date}
use Rattle.evl_shell.specs.Runs.{Moment}
use Rattle.lab_json.specs.Texts.{json_text, name_json, number_json}
use Rattle.lab_json.specs.Parts.{all_json, numbers_json, numbers_there}
use Rattle.lab_json.specs.declared.lists.Part.{Part}
use Rattle.lab_json.specs.declared.lists.Part.TheVariants.{Thread, Sem, Flags, Xbuf, Mutex, Timer, Pending}

abbrev pub date_json : State → List ℕ
date_json s = codes ", \"date\": " ++ decimal (date s)

abbrev pub picked_json : State → List ℕ
picked_json s = name_json (codes "picked") ++ number_json (picked (rank_of s) s.sched)

-- in the order of the ready list
abbrev pub ready_json : State → List ℕ
ready_json s = name_json (codes "ready") ++ numbers_json s.sched.ready

abbrev pub turn_json : State → List ℕ
turn_json s = date_json s ++ (picked_json s ++ ready_json s)

-- ---- what there is

abbrev pub list_json : State → List ℕ → Part → List ℕ
list_json s name part = name_json name ++ all_json s part

abbrev pub threads_json : State → List ℕ
threads_json s = list_json s (codes "threads") Thread ++ (list_json s (codes "mutexes") Mutex ++ list_json s (codes "sems") Sem)

abbrev pub elements_json : State → List ℕ
elements_json s = list_json s (codes "flags") Flags ++ (list_json s (codes "xbufs") Xbuf ++ list_json s (codes "timers") Timer)

abbrev pub truth_json : Bool → List ℕ
truth_json truth = if truth then codes "true" else codes "false"

abbrev pub stalled_json : State → Stage → List ℕ
stalled_json s stage =
    codes ", \"" ++ (stage_text stage ++ (codes "\": {\"stalled\": " ++ (truth_json (side s.lines stage).stalled ++ codes ", \"pending\": ")))

-- a stage: whether it is stalled, and the lines that are pending on it, in rising order
abbrev pub stage_json : State → Stage → List ℕ
stage_json s stage = stalled_json s stage ++ (numbers_json (numbers_there s (Pending stage)) ++ codes "}")

abbrev pub stages_json : State → List ℕ
stages_json s = stage_json s Oob ++ (stage_json s Inband ++ codes "}\n")

abbrev pub things_json : State → List ℕ
things_json s = threads_json s ++ (elements_json s ++ stages_json s)

-- ---- a moment

abbrev pub entries_json : Moment → List ℕ
entries_json m = codes ", \"entries\": " ++ decimal m.entries

abbrev pub head_json : List ℕ → Moment → List ℕ
head_json file m = codes "{\"file\": " ++ (json_text file ++ entries_json m)

-- rule: A machine's line has the history's length, the date, who is picked, the ready list in order, each attached
--   thread (stage, policy, effective rank, wait and how it ended), each mutex with an owner, each element with its
--   queue in order, timers, and of both stages whether it is stalled and what is pending.
--   also: Parts.part_json
--   clauses: write_moment
-- the line of a moment of a run, of a file of this name: the date, who is picked and who is ready, and what there is
unfoldable pub moment_json : List ℕ → Moment → List ℕ
moment_json file m = head_json file m ++ (turn_json m.state ++ things_json m.state)
