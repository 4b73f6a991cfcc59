-- The plays after a call, one play after another, until nothing is playable.
use Rattle.std.specs.Prelude.{ℕ, ◌≡◌, ◌+◌, ◌==◌, nat_lt, Bool, true, false, ◌&&◌, List, [], ◌∷◌, ◌++◌, Option, Some, None, unwrap_or, option_map, if◌then◌else◌}
use Rattle.evl_base.specs.declared.stage.Stage.{Stage}
use Rattle.evl_base.specs.declared.stage.Stage.TheVariants.{Inband, Oob}
use Rattle.evl_base.specs.declared.reply.Reply.TheVariants.{TimedOut}
use Rattle.evl_base.specs.declared.play.Play.{Play}
use Rattle.evl_base.specs.declared.play.Play.TheVariants as play
use Rattle.evl_pipeline.specs.declared.action.Action.{Action}
use Rattle.evl_pipeline.specs.declared.action.Action.TheVariants.{PostSem, PostFlags, Propagate, PostOob, StopTimer}
use Rattle.evl_pipeline.specs.declared.answer.Answer.{Answer}
use Rattle.evl_pipeline.specs.Counts.{one_more}
use Rattle.evl_pipeline.specs.Plans.{answer_of}
use Rattle.evl_pipeline.specs.Lines as lines
use Rattle.evl_clock.specs.declared.due.Item.{Item}
use Rattle.evl_clock.specs.declared.due.Item.TheVariants as item
use Rattle.evl_clock.specs.declared.timer.Timer.{Timer}
use Rattle.evl_clock.specs.Timers.{made, missed_periods}
use Rattle.evl_clock.specs.Clocks.{timer_at}
use Rattle.evl_clock.specs.Dues.{next_due, is_due}
use Rattle.evl_clock.specs.ClockSteps.{fired}
use Rattle.evl_sched.specs.Picks.{is_anyone_eligible}
use Rattle.evl_kernel.specs.state.Limits.{callback_limit, inband_limit}
use Rattle.evl_kernel.specs.settling.Paths.{Along}
use Rattle.evl_kernel.specs.state.States.{State, with_lines, with_clock, plan_at}
use Rattle.evl_kernel.specs.calls.Effects.{if_done}
use Rattle.evl_kernel.specs.calls.Semaphores.{put}
use Rattle.evl_kernel.specs.calls.FlagGroups as group
use Rattle.evl_kernel.specs.calls.Elements.{Touch, Told, touched, untouched, on_sem, on_flags}
use Rattle.evl_kernel.specs.waiting.Waits.{woken}
use Rattle.evl_kernel.specs.waiting.Endings.{expiring}
use Rattle.evl_kernel.specs.calls.LineCalls as line_call
use Rattle.evl_kernel.specs.calls.TimerCalls as timer_call

-- what an action leaves, and the steps of elements that it made: those of its call, and nothing else where that would be
-- refused
abbrev pub Left : Type 0
Left = List Touch × State

abbrev pub left_after : State → Told → Left
left_after s told = (told.touches, if_done s told.effect)

-- rule: Each action does what its call does.
--   rows: flags_and_buffers_4; flags_posted_by_a_callback; ping_pong_1; posted_by_a_callback
-- an action does what its call does
abbrev pub acting : State → ℕ → Action → Left
acting s line (PostSem sem) = left_after s (touched s None (on_sem sem.0 put))
acting s line (PostFlags flags bits) = left_after s (touched s None (on_flags flags.0 (group.post bits)))
acting s line Propagate = left_after s (untouched (line_call.post s Inband line))
acting s line (PostOob other) = left_after s (untouched (line_call.post s Oob other.0))
acting s line (StopTimer timer) = left_after s (untouched (timer_call.stop_timer s timer.0))

-- rule: An action whose call would be refused does nothing.
--   also: Effects.if_done
--   rows: refused_actions
abbrev pub after_action : State → ℕ → Action → State
after_action s line action = (acting s line action).1

-- in order
abbrev pub all_acting : State → ℕ → List Action → Left
all_acting s line [] = ([], s)
all_acting s line (action ∷ actions) = ((acting s line action).0 ++ (all_acting (after_action s line action) line actions).0, (all_acting (after_action s line action) line actions).1)

-- rule: A handled answer's actions are carried out in order, an unhandled answer's not at all.
--   rows: actions_of_unhandled; unhandled_stop; no_post_of_unhandled
abbrev pub all_acted : State → ℕ → List Action → State
all_acted s line actions = (all_acting s line actions).1

-- rule: A call makes at most 64 in-band plays. Their out-of-band posts are still played.
--   also: Settling.{line_next, going_on, one_inband}; Limits.inband_limit
--   rows: ping_pong_is_bounded; ping_pong_leaves; ping_pong
-- While the kernel settles: the records, how many in-band plays this call made, and whether the clock's play goes on,
-- which it does as long as something is due.
pub record Settling : Type 0 where
  pub state : State
  pub inband : ℕ
  pub in_clock : Bool

abbrev pub after_call : State → Settling
after_call s = record { state = s; inband = 0; in_clock = false }

-- of an answer that isn't handled no action is carried out
abbrev pub responding : State → ℕ → Answer → Left
responding s line answer = (if answer.handled then (all_acting s line answer.actions.items).0 else [], if answer.handled then all_acted s line answer.actions.items else s)

abbrev pub after_answer : State → ℕ → Answer → State
after_answer s line answer = (responding s line answer).1

-- a callback is called once: it answers its plan
abbrev pub answer_given : State → lines.Installed ℕ → Answer
answer_given s at = answer_of (plan_at s at.callback) (one_more at.count)

abbrev pub line_left : State → Stage → ℕ → lines.Installed ℕ → Left
line_left s stage line at = responding (with_lines s (lines.played s.lines stage line at (answer_given s at).handled)) line (answer_given s at)

abbrev pub line_played : State → Stage → ℕ → lines.Installed ℕ → Play × State
line_played s stage line at = (play.Line (record { 0 = line }) stage (one_more at.count) (answer_given s at).handled, (line_left s stage line at).1)

abbrev pub clock_played : State → Play × State
clock_played s = (play.Clock, with_lines s (lines.with_side s.lines Oob (lines.cleared s.lines.oob 0)))

-- a timer's callback is called once, too
abbrev pub timer_given : State → Timer ℕ → Answer
timer_given s t = answer_of (plan_at s t.callback) (one_more t.count)

-- the timer is what it is after its fire before the first action, and its line is the clock's
abbrev pub timer_left : State → ℕ → Timer ℕ → Left
timer_left s n t = responding (with_clock s (fired s.clock n t)) 0 (timer_given s t)

abbrev pub timer_played : State → ℕ → Timer ℕ → Play × State
timer_played s n t = (play.Timer (record { 0 = n }) (one_more t.count) (missed_periods s.clock.now t.state) (timer_given s t).handled, (timer_left s n t).1)

-- in the place of a timer where there is none
abbrev pub no_timer : Timer ℕ
no_timer = made callback_limit 0

abbrev pub timer_there : State → ℕ → Timer ℕ
timer_there s n = unwrap_or (timer_at s.clock n) no_timer

-- a deadline that falls due ends its thread's wait, and is gone itself
abbrev pub deadline_left : State → ℕ → Left
deadline_left s thread = left_after (woken s thread TimedOut) (expiring s thread)

-- a due item is played: a timer fires, or a deadline ends a wait
abbrev pub item_played : State → Item → Play × State
item_played s (item.Timer id) = timer_played s id.0 (timer_there s id.0)
item_played s (item.Deadline thread) = (play.Deadline thread, (deadline_left s thread.0).1)

-- the steps of elements that it made
abbrev pub item_touches : State → Item → List Touch
item_touches s (item.Timer id) = (timer_left s id.0 (timer_there s id.0)).0
item_touches s (item.Deadline thread) = (deadline_left s thread.0).0

abbrev pub is_clock : Stage → ℕ → Bool
is_clock Oob line = line == 0
is_clock Inband line = false

-- in the place of a callback where there is none
abbrev pub nothing : lines.Installed ℕ
nothing = record { callback = callback_limit; tag = 0; count = 0 }

abbrev pub pending_played : State → Stage → ℕ → Play × State
pending_played s stage line =
    if is_clock stage line then clock_played s
    else line_played s stage line (unwrap_or (lines.installed_at s.lines stage line) nothing)

-- the steps of elements that a play made: the clock makes none
abbrev pub play_touches : State → Stage → ℕ → List Touch
play_touches s stage line =
    if is_clock stage line then []
    else (line_left s stage line (unwrap_or (lines.installed_at s.lines stage line) nothing)).0

-- an in-band play is counted
abbrev pub one_inband : Stage → ℕ
one_inband Inband = 1
one_inband Oob = 0

-- it is the clock's, or that of a due item
abbrev pub is_of_clock : Play → Bool
is_of_clock (play.Line line stage count handled) = false
is_of_clock _ = true

-- after the clock's play and after each due item the clock goes on where something is due
abbrev pub clock_goes_on : Play → State → Bool
clock_goes_on one s = is_of_clock one && is_due s.clock

abbrev pub going_on : Settling → Stage → Play × State → Play × Settling
going_on at stage (one, s) = (one, record { state = s; inband = at.inband + one_inband stage; in_clock = clock_goes_on one s })

-- a play with the steps of elements that it made
pub record Move : Type 0 where
  pub play : Play
  pub touches : List Touch

abbrev pub moving : List Touch → Play × Settling → Move × Settling
moving touches (one, next) = (record { play = one; touches = touches }, next)

abbrev pub move_of : Settling → Option (Stage × ℕ) → Option (Move × Settling)
move_of at None = None
move_of at (Some (stage, line)) = Some (moving (play_touches at.state stage line) (going_on at stage (pending_played at.state stage line)))

abbrev pub next_of : Settling → Option (Stage × ℕ) → Option (Play × Settling)
next_of at None = None
next_of at (Some (stage, line)) = Some (going_on at stage (pending_played at.state stage line))

-- rule: An eligible thread holds in-band plays back; one of an empty quota group does not.
--   rows: oob_holds_back_inband; waits_3; waits_4
-- the lowest playable line, an out-of-band one before an in-band one, which an eligible thread holds back
abbrev pub line_next : Settling → Option (Stage × ℕ)
line_next at = lines.next_line at.state.lines (is_anyone_eligible at.state.sched) (nat_lt at.inband inband_limit)

-- a line is played, if one is playable
abbrev pub line_goes : Settling → Option (Play × Settling)
line_goes at = next_of at (line_next at)

-- what is due while the clock's play goes on, each item looked for anew
abbrev pub item_next : Settling → Option Item
item_next at = if at.in_clock then next_due at.state.clock else None

abbrev pub item_before : Settling → Option Item → Option (Play × Settling)
item_before at (Some one) = Some (going_on at Oob (item_played at.state one))
item_before at None = line_goes at

-- the next due item is played, if something is due
abbrev pub due_played : State → Option (Play × State)
due_played s = option_map (item_played s) (next_due s.clock)

-- rule: A play of line 0 is `Clock`, followed by what is due, looked for again each time.
--   also: Settling.next_move
--   rows: two_timers_at_one_date; stops_the_next
-- what is played next, and what it leaves: what is due in the clock's play, else a line
unfoldable pub next_play : Settling → Option (Play × Settling)
next_play at = item_before at (item_next at)

abbrev pub item_moves : Settling → Option Item → Option (Move × Settling)
item_moves at (Some one) = Some (moving (item_touches at.state one) (going_on at Oob (item_played at.state one)))
item_moves at None = move_of at (line_next at)

-- the same, with the steps of elements
unfoldable pub next_move : Settling → Option (Move × Settling)
next_move at = item_moves at (item_next at)

-- plays lead from one to the other
abbrev pub Plays : Settling → List Play → Settling → Type 0
Plays = Along next_play

-- rule: After an accepted call the kernel plays until nothing is playable.
--   also: Settling.{next_play, next_move}
--   clauses: Kernel::apply
-- plays that end exactly where nothing is playable
pub record Settles (s : State) (plays : List Play) (after : State) : Type 0 where
  pub last : Settling
  pub played : Plays (after_call s) plays last
  pub ended : next_play last ≡ None
  pub left : after ≡ last.state
