-- A whole play: the setup, the threads of the tasks, and the turns.
use Rattle.std.specs.Prelude.{ℕ, ◌≡◌, ◌≢◌, ◌+◌, Bool, true, false, List, [], ◌∷◌, length, map, not, nat_lt, replicate, Option, Some, None, Result, Ok, Err}
use Rattle.evl_base.specs.declared.board.Board.{Board}
use Rattle.evl_base.specs.declared.call.Call.TheVariants.{Attach}
use Rattle.evl_base.specs.declared.refusal.Refusal.{Refusal}
use Rattle.evl_base.specs.declared.reply.Reply.{Reply}
use Rattle.evl_kernel.specs.state.Openings.{opening}
use Rattle.evl_kernel.specs.state.States.{Handler}
use Rattle.evl_scenario.specs.declared.steps.Step.{Step}
use Rattle.evl_shell.specs.Moments.{moment}
use Rattle.evl_shell.specs.Runs.{beginning}
use Rattle.lab_tasks.specs.declared.sets.Rules.{Rules}
use Rattle.lab_tasks.specs.declared.sets.Task.{Task}
use Rattle.lab_tasks.specs.declared.sets.TaskSet.{TaskSet}
use Rattle.lab_tasks.specs.Sets.{idle_of}
use Rattle.lab_schedules.specs.declared.schedules.End.{End}
use Rattle.lab_schedules.specs.declared.schedules.End.TheVariants as end
use Rattle.lab_schedules.specs.declared.schedules.Schedule.{Schedule}
use Rattle.lab_schedules.specs.Places.{first, more}
use Rattle.lab_schedules.specs.Plays.{Played, answer, called, now, thread_of}
use Rattle.lab_schedules.specs.Turns.{turns}
use Rattle.lab_schedules.specs.Words.{free}

abbrev pub is_refused : Result Reply Refusal → Bool
is_refused (Ok reply) = false
is_refused (Err why) = true

-- the number of a step that is refused, or what comes of those after it
abbrev pub refused_or : Bool → ℕ → Played → Option ℕ × Played → Option ℕ × Played
refused_or true n p rest = (Some n, p)
refused_or false n p rest = rest

-- the steps of a setup, from this number on
abbrev pub set_up : ℕ → List Step → Played → Option ℕ × Played
set_up n [] p = (None, p)
set_up n (step ∷ steps) p =
    refused_or (is_refused (answer p step.who step.call)) n (called p step.who step.call) (set_up (more n) steps (called p step.who step.call))

-- the threads of tasks attach, from this one on, counted from 0
abbrev pub attach_all : ℕ → List Task → Played → Option ℕ × Played
attach_all i [] p = (None, p)
attach_all i (is ∷ tasks) p =
    refused_or (is_refused (answer p (thread_of i) (Attach is.policy is.stage))) (more i) (called p (thread_of i) (Attach is.policy is.stage))
    (attach_all (i + 1) tasks (called p (thread_of i) (Attach is.policy is.stage)))

-- the most turns
abbrev pub most_turns : ℕ
most_turns = 4000000

abbrev pub attached : Rules → Option ℕ × Played → End × Played
attached rules (None, p) = turns most_turns rules p
attached rules (Some n, p) = (end.Attach n, p)

abbrev pub when_set_up : Rules → Option ℕ × Played → End × Played
when_set_up rules (None, p) = attached rules (attach_all 0 rules.tasks.items p)
when_set_up rules (Some n, p) = (end.Setup n, p)

-- the whole play
unfoldable pub play : List Step → Rules → Played → End × Played
play setup rules p = when_set_up rules (set_up 1 setup p)

-- before the first call, over callbacks that declare and answer this
abbrev pub opened : Board → ℕ → ℕ → List Handler → Played
opened board limit tasks bank = record {
  limit = limit;
  moment = beginning (opening board bank);
  words = map free board.mutexes.items;
  places = replicate tasks first;
  gone = 0;
  events = [];
  runs = [];
  idle = idle_of board;
  has_groups = nat_lt 0 (length board.groups.items);
}

-- what comes of a task set
abbrev pub played : TaskSet → List Handler → End × Played
played set bank = play set.setup.items set.rules (opened set.board set.limit (length set.rules.tasks.items) bank)

-- a play from here to this end leaves this; where it ends since its history is full, it is
abbrev pub PlaysTo : List Step → Rules → ℕ → Played → End → Played → Type 0
PlaysTo setup rules limit old last new = (last ≢ end.Full → play setup rules old ≡ (last, new)) × (last ≡ end.Full → new.moment.entries ≡ limit)

-- a schedule has the rules, and all that a play has left
pub record Ends (p : Played) (all : Rules) (s : Schedule) : Type 0 where
  pub rules : s.rules ≡ all
  pub events : s.events.items ≡ p.events
  pub runs : s.runs.items ≡ p.runs
  pub dates : s.date ≡ now p
  pub moment_is : moment s.kernel ≡ p.moment

-- a schedule is what a play from here leaves at its end
abbrev pub Finishes : List Step → Rules → ℕ → Played → Schedule → Type 0
Finishes setup rules limit p s = (q : Played) × PlaysTo setup rules limit p s.end q × Ends q rules s

-- rule: The answer of a whole play is what the definition computes of setup, tasks and callbacks, unless it ends since
--   the history is full, as it then is.
--   also: Openings.played
--   clauses: play_tasks
-- A schedule is what comes of its task set, unless it ends since its history is full, as it then is.
pub record IsSchedule (set : TaskSet) (bank : List Handler) (s : Schedule) : Type 0 where
  pub rules : s.rules ≡ set.rules
  pub ends : s.end ≢ end.Full → s.end ≡ (played set bank).0
  pub events : s.end ≢ end.Full → s.events.items ≡ (played set bank).1.events
  pub runs : s.end ≢ end.Full → s.runs.items ≡ (played set bank).1.runs
  pub dates : s.end ≢ end.Full → s.date ≡ now (played set bank).1
  pub moment_is : s.end ≢ end.Full → moment s.kernel ≡ (played set bank).1.moment
  pub full : s.end ≡ end.Full → length s.kernel.history.entries ≡ set.limit
