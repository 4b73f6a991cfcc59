-- Nothing but their own steps changes the elements in a run of the kernel.
use Rattle.std.proofs.Common.{◌≡◌, ℕ, nat_le, Bool, true, false, not, List, [], ◌∷◌, ◌++◌, length, map, Option, Some, None, Result, Ok, Err, unwrap_or, slice_get, if◌then◌else◌, refl, sym, ap, ◌∙◌, subst, append_assoc}
use Rattle.std.specs.Prelude.{All, flat_map}
use Rattle.std.specs.Option.{option_map_or}
use Rattle.std.proofs.lemmas.List.Elements.{filter_map-append, All-cons, All-nil}
use Rattle.evl_base.specs.declared.stage.Stage.{Stage}
use Rattle.evl_base.specs.declared.refusal.Refusal.{Refusal}
use Rattle.evl_base.specs.declared.refusal.Refusal.TheVariants.{Busy, Invalid}
use Rattle.evl_base.specs.declared.call.Call.{Call}
use Rattle.evl_base.specs.declared.reply.Reply.{Reply}
use Rattle.evl_base.specs.declared.reply.Reply.TheVariants.{TimedOut}
use Rattle.evl_base.specs.declared.play.Play.{Play}
use Rattle.evl_base.specs.declared.entry.Entry.{Entry}
use Rattle.evl_pipeline.specs.declared.action.Action.{Action}
use Rattle.evl_pipeline.specs.declared.action.Action.TheVariants.{PostSem, PostFlags, Propagate, PostOob, StopTimer}
use Rattle.evl_pipeline.specs.declared.answer.Answer.{Answer}
use Rattle.evl_pipeline.specs.Lines as lines
use Rattle.evl_kernel.specs.settling.Paths.{Along, walk_path}
use Rattle.evl_kernel.specs.state.States.{Elements, State, Banked, with_lines, with_clock, with_banked, come_home}
use Rattle.evl_kernel.specs.calls.Effects.{Answered, Effect, Made, Runs, leaving, unless, known, refused_by, if_done, reply_in, lifted}
use Rattle.evl_kernel.specs.calls.FlagGroups as group
use Rattle.evl_kernel.specs.calls.Mutexes as mutex
use Rattle.evl_kernel.specs.calls.Elements.{ElementStep, on_sem, on_flags, Touch, Told, elements, with_elements, element, wakes, serves, stepping_to, touch, touched, no_touch_if, told_unless, part, its_sem, its_flags, its_xbuf, on_mutex, its_mutex}
use Rattle.evl_kernel.specs.waiting.Waits.{wait_at, with_wait, is_past, suspended, wait_begun, woken, all_woken}
use Rattle.evl_kernel.specs.waiting.Beginnings.{awaited_by, begin_refusal, begin_step, beginning}
use Rattle.evl_kernel.specs.waiting.Endings as ending
use Rattle.evl_kernel.specs.waiting.Endings.{drop_step, finish, goes_inband, inband_if}
use Rattle.evl_kernel.specs.declared.waits.Awaited.{Awaited}
use Rattle.evl_kernel.specs.declared.waits.Wanted.{Wanted}
use Rattle.evl_kernel.specs.declared.waits.Wait.{Wait}
use Rattle.evl_kernel.specs.calls.Semaphores.{put}
use Rattle.evl_kernel.specs.calls.LineCalls as line_call
use Rattle.evl_kernel.specs.calls.TimerCalls as timer_call
use Rattle.evl_sched.specs.Calls.{attach_refusal, set_policy_refusal, stranger_refusal}
use Rattle.evl_clock.specs.Clocks as clocks
use Rattle.evl_clock.specs.Timers.{is_timer_allowed}
use Rattle.evl_clock.specs.Dues.{is_due}
use Rattle.evl_clock.specs.ClockSteps.{fired}
use Rattle.evl_clock.specs.declared.due.Item.{Item}
use Rattle.evl_clock.specs.declared.due.Item.TheVariants as item
use Rattle.evl_sched.specs.Threads.{stage_of}
use Rattle.evl_kernel.specs.calls.Families.{LineStep, request, free, arrive, post, stall, unstall, line_effect, ClockStep, tick, read_date, new_timer, start_timer, stop_timer, drop_timer, overruns, clock_effect, ThreadStep, attach, detach, set_policy, set_stage, pick, tell_rank, thread_effect, Task, on_lines, on_clock, on_threads, on_element, on_staged, begins, ends, performing, task_of, raises}
use Rattle.evl_kernel.specs.calls.Serving.{serving, general_refusal, what_call_does, answer}
use Rattle.evl_kernel.specs.settling.Settling.{Settling, Move, deadline_left, next_play, next_move, moving, acting, after_action, all_acting, all_acted, responding, answer_given, timer_given, timer_there, item_played, item_touches, line_left, play_touches, pending_played, line_played, clock_played, is_clock, after_call, nothing}
use Rattle.evl_kernel.specs.histories.Histories.{Run, Follows, opened_kernel}
use Rattle.evl_kernel.specs.state.Openings.{opening}
use Rattle.evl_kernel.specs.histories.Replays.{plays_in, touches_in, settled_moves, outcome_of, replayed, outcomes, touches_of, led_to, touches}
use Rattle.evl_kernel.proofs.settling.DueLaws.{one_played, moves_item, moves_line}
use Rattle.evl_kernel.specs.histories.Parts.{HistoriesAreReplayed, ElementsRunByThemselves, CallsAreAnsweredByElements, PartGrows, PartsGrow}
use Rattle.evl_kernel.specs.calls.ThreadCalls.{detach_refusal}
use Rattle.evl_kernel.specs.calls.OwnerCalls.{raiser_refusal}

-- one stretch after another
pub runs_append : {X P : Type 0} (machine : X → P → Answered X) (x y z : X) (xs ys : List (Made P)) → Runs machine x xs y → Runs machine y ys z → Runs machine x (xs ++ ys) z
runs_append machine x y z [] ys same more = subst (λ u. Runs machine u ys z) same more
runs_append machine x y z (made ∷ xs) ys (is, run) more = (is, runs_append machine (if_done x (machine x made.step)) y z xs ys run more)

-- the steps lead the elements from one state to the other
abbrev pub Tells : State → List Touch → State → Type 0
Tells s touches t = Runs element (elements s) touches (elements t)

tells_append : (r s t : State) (xs ys : List Touch) → Tells r xs s → Tells s ys t → Tells r (xs ++ ys) t
tells_append r s t xs ys first more = runs_append element (elements r) (elements s) (elements t) xs ys first more

-- an effect that leaves the elements as they were
abbrev Beside : State → Effect → Type 0
Beside s e = elements (if_done s e) ≡ elements s

beside-refused : (s : State) (o : Option Refusal) (e : Effect) → Beside s e → Beside s (refused_by o e)
beside-refused s None e h = h
beside-refused s (Some refusal) e h = refl

beside-unless : (s : State) (b : Bool) (refusal : Refusal) (e : Effect) → Beside s e → Beside s (unless ((b, refusal) ∷ []) e)
beside-unless s true refusal e h = refl
beside-unless s false refusal e h = h

beside-both : (s : State) (b c : Bool) (e : Effect) → Beside s e → Beside s (unless ((b, Invalid) ∷ (c, Busy) ∷ []) e)
beside-both s true c e h = refl
beside-both s false true e h = refl
beside-both s false false e h = h

beside-known : {A : Type 0} (s : State) (o : Option A) (f : A → Effect) → ((x : A) → Beside s (f x)) → Beside s (known o f)
beside-known s None f h = refl
beside-known s (Some x) f h = h x

beside-returned : (s : State) (o : Option (lines.Installed ℕ)) → elements (line_call.with_callback_back s o) ≡ elements s
beside-returned s None = refl
beside-returned s (Some at) = by (slice_get s.bank at.callback)
  where
    by : (o : Option Banked) → elements (option_map_or (with_banked s true at.callback) o s) ≡ elements s
    by None = refl
    by (Some b) = refl

-- the waits of some end, or one begins, and the elements are as they were
woken_same : (s : State) (served : List (ℕ × Reply)) → elements (all_woken s served) ≡ elements s
woken_same s [] = refl
woken_same s ((thread, outcome) ∷ others) = woken_same (woken s thread outcome) others

begun_same : (s : State) (thread : ℕ) (on : Awaited) (until : Option ℕ) (served : Option Reply) → elements (wait_begun s thread on until served) ≡ elements s
begun_same s thread on until None = by (is_past s.clock.now until)
  where
    by : (b : Bool) → elements (timer_call.posted_if b (suspended s thread on until)) ≡ elements s
    by true = refl
    by false = refl
begun_same s thread on until (Some outcome) = refl

-- a step of an element
stepping_tells : (then_ : State → State) → ((x : State) → elements (then_ x) ≡ elements x) → (s : State) (by : Option ℕ) (step : ElementStep) → Tells s (touch s by step ∷ []) (if_done s (stepping_to then_ s step))
stepping_tells then_ same s by step = (refl, left_is (element (elements s) step))
  where
    left_is : (a : Answered Elements) → elements (if_done s (lifted (λ e. all_woken (then_ (with_elements s e)) (wakes (elements s) step)) a)) ≡ if_done (elements s) a
    left_is (Ok (reply, e)) = woken_same (then_ (with_elements s e)) (wakes (elements s) step) ∙ same (with_elements s e)
    left_is (Err refusal) = refl

touched_tells : (s : State) (by : Option ℕ) (step : ElementStep) → Tells s (touched s by step).touches (if_done s (touched s by step).effect)
touched_tells s by step = stepping_tells (λ x. x) (λ x. refl) s by step

told_unless_tells : (s : State) (o : Option Refusal) (told : Told) → Tells s told.touches (if_done s told.effect) → Tells s (told_unless o told).touches (if_done s (told_unless o told).effect)
told_unless_tells s None told h = h
told_unless_tells s (Some refusal) told h = refl

beginning_tells : (s : State) (thread : ℕ) (wants : Wanted) (until : Option ℕ) → Tells s (beginning s thread wants until).touches (if_done s (beginning s thread wants until).effect)
beginning_tells s thread wants until =
    let step = begin_step s thread wants in
    let served = serves (elements s) step in
    told_unless_tells s (begin_refusal s thread wants) _ (stepping_tells (λ x. wait_begun x thread (awaited_by wants) until served) (λ x. begun_same x thread (awaited_by wants) until served) s (Some thread) step)

finish_beside : (s : State) (thread : ℕ) (keep : Bool) → Beside s (finish s thread keep)
finish_beside s thread keep = by (ending.outcome_of (wait_at s thread))
  where
    same : (b : Bool) → elements (inband_if b (with_wait s thread None) thread) ≡ elements s
    same true = refl
    same false = refl

    by : (r : Result Reply Refusal) → Beside s (leaving (inband_if (goes_inband s thread keep) (with_wait s thread None) thread) r)
    by (Ok reply) = same (goes_inband s thread keep)
    by (Err refusal) = refl

deadline_tells : (s : State) (thread : ℕ) → Tells s (deadline_left s thread).0 (deadline_left s thread).1
deadline_tells s thread = by (wait_at s thread)
  where
    after : State
    after = woken s thread TimedOut

    dropping : Option Wait → Told
    dropping o = option_map_or (λ (w : Wait). touched after None (drop_step thread w.on)) o (record { touches = []; effect = Err Invalid })

    by : (o : Option Wait) → Tells s (dropping o).touches (if_done after (dropping o).effect)
    by None = refl
    by (Some w) = touched_tells after None (drop_step thread w.on)

line_beside : (s : State) (step : LineStep) → Beside s (line_effect s step)
line_beside s (request line stage number tag) = beside-known s (slice_get s.bank number) _ (λ b.
    beside-refused s (lines.request_refusal s.lines line stage b.handler.kinds) _ (beside-unless s (not b.home) Busy _ refl))
line_beside s (free line stage) = beside-refused s (lines.free_refusal s.lines line stage) _
    (beside-returned (with_lines s (lines.freed s.lines line stage)) (lines.installed_at s.lines stage line))
line_beside s (arrive line) = beside-refused s (lines.post_refusal line) _ refl
line_beside s (post stage line) = beside-refused s (lines.post_refusal line) _ refl
line_beside s (stall stage) = refl
line_beside s (unstall stage) = refl

beside-alarmed : (s : State) → elements (timer_call.alarmed s) ≡ elements s
beside-alarmed s = by (is_due s.clock)
  where
    by : (b : Bool) → elements (if b then timer_call.posted_clock s else s) ≡ elements s
    by true = refl
    by false = refl

beside-started : (s : State) (n date interval : ℕ) → elements (timer_call.with_running s n date interval) ≡ elements s
beside-started s n date interval = by (nat_le date s.clock.now)
  where
    after : State
    after = with_clock s (clocks.start s.clock n date interval)

    by : (b : Bool) → elements (if b then timer_call.posted_clock after else after) ≡ elements s
    by true = refl
    by false = refl

beside-home : (s : State) (number : ℕ) → elements (come_home s number) ≡ elements s
beside-home s number = by (slice_get s.bank number)
  where
    by : (o : Option Banked) → elements (option_map_or (with_banked s true number) o s) ≡ elements s
    by None = refl
    by (Some b) = refl

beside-placed : (s : State) (number tag : ℕ) (b : Banked) (place : Option ℕ) → Beside s (timer_call.place_timer s number tag b place)
beside-placed s number tag b None = refl
beside-placed s number tag b (Some n) = refl

clock_beside : (s : State) (step : ClockStep) → Beside s (clock_effect s step)
clock_beside s (tick delta) = beside-refused s (clocks.advance_refusal s.clock delta) _ (beside-alarmed (timer_call.at_date (timer_call.paid s delta) delta))
clock_beside s read_date = refl
clock_beside s (new_timer number tag) = beside-known s (slice_get s.bank number) _ (λ b.
    beside-both s (not (is_timer_allowed b.handler.kinds)) (not b.home) _ (beside-placed s number tag b (clocks.free_place s.clock)))
clock_beside s (start_timer timer date interval) = beside-refused s (clocks.timer_refusal s.clock timer) _ (beside-started s timer date interval)
clock_beside s (stop_timer timer) = beside-refused s (clocks.timer_refusal s.clock timer) _ refl
clock_beside s (drop_timer timer) = beside-known s (clocks.timer_at s.clock timer) _ (λ t. beside-home (with_clock s (clocks.dropped s.clock timer)) t.callback)
clock_beside s (overruns timer) = beside-known s (clocks.timer_at s.clock timer) _ (λ t. refl)

thread_beside : (s : State) (caller : ℕ) (step : ThreadStep) → Beside s (thread_effect s caller step)
thread_beside s caller (attach policy stage) = beside-refused s (attach_refusal s.sched caller policy) _ refl
thread_beside s caller detach = beside-refused s (detach_refusal s caller) _ refl
thread_beside s caller (set_policy policy) = beside-refused s (set_policy_refusal s.sched caller policy) _ refl
thread_beside s caller (set_stage stage) = beside-refused s (stranger_refusal s.sched caller) _ refl
thread_beside s caller pick = refl
thread_beside s caller (tell_rank thread) = beside-refused s (stranger_refusal s.sched thread) _ refl

task_tells : (s : State) (caller : ℕ) (task : Task) → Tells s (performing s caller task).touches (if_done s (performing s caller task).effect)
task_tells s caller (on_lines step) = line_beside s step
task_tells s caller (on_clock step) = clock_beside s step
task_tells s caller (on_threads step) = thread_beside s caller step
task_tells s caller (on_element step) = touched_tells s (Some caller) step
task_tells s caller (on_staged step_from) = touched_tells s (Some caller) (step_from caller (stage_of s.sched caller))
task_tells s caller (raises n) = told_unless_tells s (raiser_refusal s caller n) _ (touched_tells s (Some caller) (on_mutex n (mutex.raise caller)))
task_tells s caller (begins wants until) = beginning_tells s caller wants until
task_tells s caller (ends keep) = finish_beside s caller keep

answering_tells : (s : State) (caller : ℕ) (asked : Call) → Tells s (what_call_does s caller asked).touches (if_done s (answer s caller asked))
answering_tells s caller asked = told_unless_tells s (general_refusal s caller asked) (serving s caller asked) (task_tells s caller (task_of asked))

acting_tells : (s : State) (line : ℕ) (action : Action) → Tells s (acting s line action).0 (after_action s line action)
acting_tells s line (PostSem sem) = touched_tells s None (on_sem sem.0 put)
acting_tells s line (PostFlags flags bits) = touched_tells s None (on_flags flags.0 (group.post bits))
acting_tells s line Propagate = beside-refused s (lines.post_refusal line) _ refl
acting_tells s line (PostOob other) = beside-refused s (lines.post_refusal other.0) _ refl
acting_tells s line (StopTimer timer) = beside-refused s (clocks.timer_refusal s.clock timer.0) _ refl

all_tell : (s : State) (line : ℕ) (actions : List Action) → Tells s (all_acting s line actions).0 (all_acted s line actions)
all_tell s line [] = refl
all_tell s line (action ∷ actions) =
    tells_append s (after_action s line action) (all_acted (after_action s line action) line actions) (acting s line action).0 (all_acting (after_action s line action) line actions).0
    (acting_tells s line action) (all_tell (after_action s line action) line actions)

responding_tells : (s : State) (line : ℕ) (answer : Answer) → Tells s (responding s line answer).0 (responding s line answer).1
responding_tells s line answer = by answer.handled
  where
    by : (b : Bool) → Tells s (if b then (all_acting s line answer.actions.items).0 else []) (if b then all_acted s line answer.actions.items else s)
    by true = all_tell s line answer.actions.items
    by false = refl

line_tells : (s : State) (stage : Stage) (line : ℕ) (at : lines.Installed ℕ) → Tells s (line_left s stage line at).0 (line_left s stage line at).1
line_tells s stage line at = responding_tells (with_lines s (lines.played s.lines stage line at (answer_given s at).handled)) line (answer_given s at)

played_tells : (s : State) (stage : Stage) (line : ℕ) → Tells s (play_touches s stage line) (pending_played s stage line).1
played_tells s stage line = by (is_clock stage line)
  where
    at : lines.Installed ℕ
    at = unwrap_or (lines.installed_at s.lines stage line) nothing

    by : (b : Bool) → Tells s (if b then [] else (line_left s stage line at).0) (if b then clock_played s else line_played s stage line at).1
    by true = refl
    by false = line_tells s stage line at

item_tells : (s : State) (found : Item) → Tells s (item_touches s found) (item_played s found).1
item_tells s (item.Deadline thread) = deadline_tells s thread.0
item_tells s (item.Timer id) = let t = timer_there s id.0 in responding_tells (with_clock s (fired s.clock id.0 t)) 0 (timer_given s t)

-- what a play is with its steps of elements
record Moves (at : Settling) (one : Play) (mid : Settling) : Type 0 where
  touches : List Touch
  is : next_move at ≡ Some (record { play = one; touches = touches }, mid)
  tells : Tells at.state touches mid.state

-- a play with its steps of elements and where it leads
record MovesTo (at : Settling) (x : Play × Settling) : Type 0 where
  touches : List Touch
  is : next_move at ≡ Some (moving touches x)
  tells : Tells at.state touches x.1.state

moves : (at mid : Settling) (one : Play) → next_play at ≡ Some (one, mid) → Moves at one mid
moves at mid one next =
    let found = one_played (MovesTo at) at mid one
    (λ found is. record { touches = item_touches at.state found; is = moves_item at found is; tells = item_tells at.state found })
    (λ stage line none is. record { touches = play_touches at.state stage line; is = moves_line at stage line none is; tells = played_tells at.state stage line }) next in
    record { touches = found.touches; is = found.is; tells = found.tells }

-- a walk of as many plays
record Walks (at : Settling) (plays : List Play) (last : Settling) (path : List Move × Settling) : Type 0 where
  plays_are : plays_in path.0 ≡ plays
  ends : path.1 ≡ last
  tells : Tells at.state (touches_in path.0) last.state

walks : (at : Settling) (plays : List Play) (last : Settling) → Along next_play at plays last → Walks at plays last (walk_path next_move (length plays) at)
walks at [] last same = record { plays_are = refl; ends = sym same; tells = ap (λ (x : Settling). elements x.state) same }
walks at (one ∷ plays) last (mid, next, path) =
    let first = moves at mid one next in
    let rest = walks mid plays last path in
    rw first.is record {
      plays_are = ap (λ (ps : List Play). one ∷ ps) rest.plays_are;
      ends = rest.ends;
      tells = tells_append at.state mid.state last.state first.touches (touches_in (walk_path next_move (length plays) mid).0) first.tells rest.tells;
    }

-- a step of the kernel, by so many plays
record Replays (old : State) (own : List Touch) (effect : Effect) (reply : Result Reply Refusal) (plays : List Play) (new : State) : Type 0 where
  reply_is : (outcome_of (length plays) old own effect).reply ≡ reply
  plays_are : (outcome_of (length plays) old own effect).plays ≡ plays
  after_is : (outcome_of (length plays) old own effect).after ≡ new
  tells : Tells old (outcome_of (length plays) old own effect).touches new

replays : (old : State) (own : List Touch) (effect : Effect) (reply : Result Reply Refusal) (plays : List Play) (new : State)
    → Tells old own (if_done old effect) → Follows old effect reply plays new → Replays old own effect reply plays new
replays old own (Err refusal) reply plays new tells p = record {
  reply_is = sym p.0;
  plays_are = sym p.1;
  after_is = sym p.2;
  tells = subst (λ (x : State). Tells old own x) (sym p.2) tells;
}
replays old own (Ok (said, changed)) reply plays new tells (is, settles) =
    let walk = walks (after_call changed) plays settles.last settles.played in
    record {
      reply_is = sym is;
      plays_are = walk.plays_are;
      after_is = ap (λ (x : Settling). x.state) walk.ends ∙ sym settles.left;
      tells = subst (λ (x : State). Tells old (own ++ touches_in (settled_moves (length plays) changed).0) x) (sym settles.left)
          (tells_append old changed settles.last.state own (touches_in (settled_moves (length plays) changed).0) tells walk.tells);
    }

record EntryReplays (old : State) (e : Entry) (plays : List Play) (new : State) : Type 0 where
  reply_is : (replayed old e).reply ≡ e.reply
  plays_are : (replayed old e).plays ≡ plays
  after_is : (replayed old e).after ≡ new
  tells : Tells old (replayed old e).touches new

entry_replays : (old : State) (e : Entry) (plays : List Play) (new : State) → e.plays ≡ length plays → Follows old (answer old e.caller.0 e.call) e.reply plays new → EntryReplays old e plays new
entry_replays old e plays new counted step =
    let same = replays old (what_call_does old e.caller.0 e.call).touches (answer old e.caller.0 e.call) e.reply plays new (answering_tells old e.caller.0 e.call) step in
    rw counted record { reply_is = same.reply_is; plays_are = same.plays_are; after_is = same.after_is; tells = same.tells }

-- a run, from any state
pub run_tells : (old : State) (entries : List Entry) (plays : List Play) (new : State) → Run old entries plays new → Tells old (touches_of old entries) new
run_tells old [] plays new run = ap elements run.1
run_tells old (e ∷ entries) plays new (own, rest, mid, split, (counted, step), run) =
    let first = entry_replays old e own mid counted step in
    let others = run_tells mid entries rest new run in
    tells_append old mid new (replayed old e).touches (touches_of (replayed old e).after entries) first.tells
    (subst (λ (x : State). Tells mid (touches_of x entries) new) (sym first.after_is) others)

pub elements_run : ElementsRunByThemselves
elements_run h legal = run_tells (opened_kernel h) h.entries h.plays h.state legal

-- a refusal before all else comes with no step, and each other call's step was answered as the call was
pub calls_answered : CallsAreAnsweredByElements
calls_answered old caller asked reply plays new step = by (general_refusal old caller asked) step
  where
    said : (effect : Effect) → Follows old effect reply plays new → reply_in effect ≡ reply
    said (Ok (reply', changed)) p = sym p.0
    said (Err refusal) p = sym p.0

    same : (f : Elements → State) (a : Answered Elements) → reply_in a ≡ reply_in (lifted f a)
    same f (Ok (reply', e)) = refl
    same f (Err refusal) = refl

    one : (then_ : State → State) (s : ElementStep) → Follows old (stepping_to then_ old s) reply plays new → All (λ t. (t.by ≡ Some caller) × (t.answer ≡ reply)) (touch old (Some caller) s ∷ [])
    one then_ s p = All-cons (λ t. (t.by ≡ Some caller) × (t.answer ≡ reply)) (touch old (Some caller) s) []
        (refl, same (λ e. all_woken (then_ (with_elements old e)) (wakes (elements old) s)) (element (elements old) s) ∙ said (stepping_to then_ old s) p) (All-nil (λ t. (t.by ≡ Some caller) × (t.answer ≡ reply)))

    begins_right : (wants : Wanted) (until : Option ℕ) (o : Option Refusal)
        → Follows old (refused_by o (stepping_to (λ x. wait_begun x caller (awaited_by wants) until (serves (elements old) (begin_step old caller wants))) old (begin_step old caller wants))) reply plays new
        → All (λ t. (t.by ≡ Some caller) × (t.answer ≡ reply)) (no_touch_if o (touch old (Some caller) (begin_step old caller wants) ∷ []))
    begins_right wants until None p = one (λ x. wait_begun x caller (awaited_by wants) until (serves (elements old) (begin_step old caller wants))) (begin_step old caller wants) p
    begins_right wants until (Some refusal) p = All-nil (λ t. (t.by ≡ Some caller) × (t.answer ≡ reply))

    raises_right : (n : ℕ) (o : Option Refusal) → Follows old (refused_by o (touched old (Some caller) (on_mutex n (mutex.raise caller))).effect) reply plays new
        → All (λ t. (t.by ≡ Some caller) × (t.answer ≡ reply)) (no_touch_if o (touch old (Some caller) (on_mutex n (mutex.raise caller)) ∷ []))
    raises_right n None p = one (λ x. x) (on_mutex n (mutex.raise caller)) p
    raises_right n (Some refusal) p = All-nil (λ t. (t.by ≡ Some caller) × (t.answer ≡ reply))

    served_right : (task : Task) → Follows old (performing old caller task).effect reply plays new → All (λ t. (t.by ≡ Some caller) × (t.answer ≡ reply)) (performing old caller task).touches
    served_right (on_lines step) p = All-nil (λ t. (t.by ≡ Some caller) × (t.answer ≡ reply))
    served_right (on_clock step) p = All-nil (λ t. (t.by ≡ Some caller) × (t.answer ≡ reply))
    served_right (on_threads step) p = All-nil (λ t. (t.by ≡ Some caller) × (t.answer ≡ reply))
    served_right (on_element step) p = one (λ x. x) step p
    served_right (on_staged step_from) p = one (λ x. x) (step_from caller (stage_of old.sched caller)) p
    served_right (raises n) p = raises_right n (raiser_refusal old caller n) p
    served_right (begins wants until) p = begins_right wants until (begin_refusal old caller wants) p
    served_right (ends keep) p = All-nil (λ t. (t.by ≡ Some caller) × (t.answer ≡ reply))

    by : (o : Option Refusal) → Follows old (refused_by o (serving old caller asked).effect) reply plays new → All (λ t. (t.by ≡ Some caller) × (t.answer ≡ reply)) (no_touch_if o (serving old caller asked).touches)
    by None p = served_right (task_of asked) p
    by (Some refusal) p = All-nil (λ t. (t.by ≡ Some caller) × (t.answer ≡ reply))

-- a run is what its entries replay to
pub record RunReplays (old : State) (entries : List Entry) (plays : List Play) (new : State) : Type 0 where
  pub replies_are : map (λ o. o.reply) (outcomes old entries) ≡ map (λ e. e.reply) entries
  pub plays_are : flat_map (λ o. o.plays) (outcomes old entries) ≡ plays
  pub ends : led_to old entries ≡ new

pub run_replays : (old : State) (entries : List Entry) (plays : List Play) (new : State) → Run old entries plays new → RunReplays old entries plays new
run_replays old [] plays new run = record { replies_are = refl; plays_are = sym run.0; ends = sym run.1 }
run_replays old (e ∷ entries) plays new (own, rest, mid, split, (counted, step), run) =
    let first = entry_replays old e own mid counted step in
    let others = subst (λ (x : State). RunReplays x entries rest new) (sym first.after_is) (run_replays mid entries rest new run) in
    record {
      replies_are = (λ i. first.reply_is i ∷ others.replies_are i);
      plays_are = (λ i. first.plays_are i ++ others.plays_are i) ∙ sym split;
      ends = others.ends;
    }

pub histories_replayed : HistoriesAreReplayed
histories_replayed h legal = let all = run_replays (opened_kernel h) h.entries h.plays h.state legal in (all.replies_are, all.plays_are, all.ends)

touches_append : (s : State) (entries more : List Entry) → touches_of s (entries ++ more) ≡ touches_of s entries ++ touches_of (led_to s entries) more
touches_append s [] more = refl
touches_append s (e ∷ entries) more =
    ap (λ (ts : List Touch). (replayed s e).touches ++ ts) (touches_append (replayed s e).after entries more)
    ∙ sym (append_assoc (replayed s e).touches (touches_of (replayed s e).after entries) (touches_of (led_to (replayed s e).after entries) more))

-- whichever element is looked at
pub part_grows : {P : Type 0} (own : Touch → Option (Made P)) → PartGrows own
part_grows own old new more legal on =
    let led = (run_replays (opened_kernel old) old.entries old.plays old.state legal).ends in
    let same : touches new ≡ touches_of (opened_kernel old) (old.entries ++ more) = (λ i. touches_of (opening (on.board i) (on.bank i)) (on.entries i)) in
    let all : touches new ≡ touches old ++ touches_of old.state more =
    same ∙ (touches_append (opened_kernel old) old.entries more ∙ ap (λ (x : State). touches old ++ touches_of x more) led) in
    ap (part own) all ∙ filter_map-append own (touches old) (touches_of old.state more)

pub grow : PartsGrow
grow n = (part_grows (its_sem n), part_grows (its_flags n), part_grows (its_xbuf n), part_grows (its_mutex n))
