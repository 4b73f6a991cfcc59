-- The records but for how far the in-band stage is: each change of them follows from them alone.
use Rattle.std.proofs.Common.{◌≡◌, ℕ, zero, suc, ◌==◌, nat_le, nat_lt, Bool, true, false, not, ◌&&◌, ◌||◌, List, [], ◌∷◌, map, Option, Some, None, Result, Ok, Err, is_some, unwrap_or, slice_get, slice_set, slice_index_or, if◌then◌else◌, refl, sym, ap, ◌∙◌}
use Rattle.std.specs.Option.{option_map, option_map_or}
use Rattle.std.proofs.lemmas.List.{map-set}
use Rattle.evl_base.specs.declared.stage.Stage.{Stage}
use Rattle.evl_base.specs.declared.stage.Stage.TheVariants.{Inband, Oob}
use Rattle.evl_base.specs.declared.call.Call.{Call}
use Rattle.evl_base.specs.declared.refusal.Refusal.{Refusal}
use Rattle.evl_base.specs.declared.refusal.Refusal.TheVariants.{Busy, Invalid, Unknown}
use Rattle.evl_base.specs.declared.reply.Reply.{Reply}
use Rattle.evl_base.specs.declared.reply.Reply.TheVariants as reply
use Rattle.evl_base.specs.declared.reply.Reply.TheVariants.{TimedOut}
use Rattle.evl_base.specs.declared.play.Play.{Play}
use Rattle.evl_base.specs.declared.play.Play.TheVariants as play
use Rattle.evl_pipeline.specs.declared.action.Action.{Action}
use Rattle.evl_pipeline.specs.declared.action.Action.TheVariants.{PostSem, PostFlags, Propagate, PostOob, StopTimer}
use Rattle.evl_pipeline.specs.declared.answer.Answer.{Answer}
use Rattle.evl_pipeline.specs.Counts.{count_raised, one_more}
use Rattle.evl_pipeline.specs.NumberSet.{least}
use Rattle.evl_pipeline.specs.Plans.{answer_of, is_allowed}
use Rattle.evl_pipeline.specs.Lines as lines
use Rattle.evl_pipeline.specs.Limits.{line_count}
use Rattle.evl_clock.specs.declared.due.Item.{Item}
use Rattle.evl_clock.specs.declared.due.Item.TheVariants as item
use Rattle.evl_clock.specs.Timers.{is_timer_allowed, missed_periods}
use Rattle.evl_clock.specs.Clocks as clocks
use Rattle.evl_clock.specs.ClockSteps.{fired}
use Rattle.evl_clock.specs.Dues.{next_due, is_due}
use Rattle.evl_sched.specs.Threads as threads
use Rattle.evl_sched.specs.Picks.{picked}
use Rattle.evl_sched.specs.Calls.{attach_refusal, set_policy_refusal, stranger_refusal}
use Rattle.evl_kernel.specs.state.States.{Elements, State, Banked, with_lines, with_clock, with_sched, with_banked, come_home, plan_at}
use Rattle.evl_kernel.specs.calls.Effects.{Answered, Effect, leaving, lifted, done, tells, unless, known, refused_by, if_done}
use Rattle.evl_kernel.specs.calls.Semaphores.{put}
use Rattle.evl_kernel.specs.calls.FlagGroups as group
use Rattle.evl_kernel.specs.calls.Mutexes as mutex
use Rattle.evl_kernel.specs.calls.Elements.{ElementStep, on_sem, on_flags, elements, with_elements, element, wakes, serves, stepping_to, touched, on_mutex}
use Rattle.evl_kernel.specs.waiting.Waits.{wait_at, with_wait, is_past, suspended, wait_begun, woken, all_woken}
use Rattle.evl_kernel.specs.waiting.Beginnings.{awaited_by, begin_refusal, begin_step, beginning}
use Rattle.evl_kernel.specs.waiting.Endings.{drop_step, finish, goes_inband, inband_if, outcome_of}
use Rattle.evl_kernel.specs.declared.waits.Awaited.{Awaited}
use Rattle.evl_kernel.specs.declared.waits.Wanted.{Wanted}
use Rattle.evl_kernel.specs.declared.waits.Wait.{Wait}
use Rattle.evl_kernel.specs.calls.LineCalls as line_call
use Rattle.evl_kernel.specs.calls.TimerCalls as timer_call
use Rattle.evl_kernel.specs.calls.ThreadCalls as thread_call
use Rattle.evl_sched.specs.Threads.{stage_of}
use Rattle.evl_kernel.specs.calls.Families.{LineStep, request, free, arrive, post, stall, unstall, line_effect, ClockStep, tick, read_date, new_timer, start_timer, stop_timer, drop_timer, overruns, clock_effect, ThreadStep, attach, detach, set_policy, set_stage, pick, tell_rank, thread_effect, Task, on_lines, on_clock, on_threads, on_element, on_staged, begins, ends, performing, task_of, raises}
use Rattle.evl_kernel.specs.calls.Serving.{general_refusal, answer}
use Rattle.evl_kernel.specs.settling.Settling.{after_action, all_acted, after_answer, deadline_left, timer_given, timer_there, item_played, clock_goes_on, pending_played, line_played, clock_played, nothing}
use Rattle.evl_kernel.proofs.state.RenamedLaws.{lookup-map}
use Rattle.evl_kernel.specs.calls.ThreadCalls.{detach_refusal}
use Rattle.evl_kernel.specs.calls.OwnerCalls.{raiser_refusal}

abbrev pub Table : Type 0
Table = List (Option (lines.Installed ℕ))

-- a callback as it was requested
abbrev pub uncounted : lines.Installed ℕ → lines.Installed ℕ
uncounted at = record at { count = 0 }

abbrev pub bare : Table → Table
bare installed = map (option_map uncounted) installed

-- nothing pends in-band, and these callbacks stand there
abbrev pub standing : State → Table → State
standing s installed = with_lines s (record s.lines { inband = record { stalled = false; pending = []; installed = installed; unhandled = [] } })

-- the records but for how far the in-band stage is
abbrev pub outside : State → State
outside s = standing s (bare s.lines.inband.installed)

bare_twice : (xs : Table) → bare (bare xs) ≡ bare xs
bare_twice [] = refl
bare_twice (None ∷ xs) = ap (λ (l : Table). None ∷ l) (bare_twice xs)
bare_twice (Some at ∷ xs) = ap (λ (l : Table). Some (uncounted at) ∷ l) (bare_twice xs)

pub outside_twice : (s : State) → outside (outside s) ≡ outside s
outside_twice s = ap (standing s) (bare_twice s.lines.inband.installed)

bare-set : (xs : Table) (i : ℕ) (x : Option (lines.Installed ℕ)) → bare (slice_set xs i x) ≡ slice_set (bare xs) i (option_map uncounted x)
bare-set xs i x = map-set (option_map uncounted) xs i x

bare-set_twice : (xs : Table) (i : ℕ) (x : Option (lines.Installed ℕ)) → bare (slice_set xs i x) ≡ bare (slice_set (bare xs) i x)
bare-set_twice xs i x = bare-set xs i x ∙ (ap (λ (l : Table). slice_set l i (option_map uncounted x)) (sym (bare_twice xs)) ∙ sym (bare-set (bare xs) i x))

some-uncounted : (o : Option (lines.Installed ℕ)) → is_some (option_map uncounted o) ≡ is_some o
some-uncounted None = refl
some-uncounted (Some at) = refl

-- whether a line has a callback
stands-bare : (xs : Table) (line : ℕ) → is_some (slice_index_or (bare xs) line None) ≡ is_some (slice_index_or xs line None)
stands-bare xs line = ap is_some (lookup-map uncounted xs line) ∙ some-uncounted (slice_index_or xs line None)

-- the effect, but for how far the in-band stage is
abbrev pub out : Effect → Effect
out (Ok (given, s)) = Ok (given, outside s)
out (Err refusal) = Err refusal

out-refused : (o : Option Refusal) (e f : Effect) → out e ≡ out f → out (refused_by o e) ≡ out (refused_by o f)
out-refused None e f h = h
out-refused (Some refusal) e f h = refl

out-unless : (b : Bool) (refusal : Refusal) (e f : Effect) → out e ≡ out f → out (unless ((b, refusal) ∷ []) e) ≡ out (unless ((b, refusal) ∷ []) f)
out-unless true refusal e f h = refl
out-unless false refusal e f h = h

out-known : {A : Type 0} (o : Option A) (e f : A → Effect) → ((x : A) → out (e x) ≡ out (f x)) → out (known o e) ≡ out (known o f)
out-known None e f h = refl
out-known (Some x) e f h = h x

out-done : (s t : State) → outside s ≡ outside t → out (done s) ≡ out (done t)
out-done s t h = ap (λ (x : State). Ok (reply.Done, x)) h

-- a change that leaves the in-band stage alone
out-beside : (s : State) → out (done s) ≡ out (done (outside s))
out-beside s = out-done s (outside s) (sym (outside_twice s))

-- the waits of some end
outside-all_woken : (s t : State) (served : List (ℕ × Reply)) → outside s ≡ outside t → outside (all_woken s served) ≡ outside (all_woken t served)
outside-all_woken s t [] h = h
outside-all_woken s t ((thread, outcome) ∷ others) h = outside-all_woken (woken s thread outcome) (woken t thread outcome) others (ap (λ (x : State). woken x thread outcome) h)

-- a step of an element
out-stepping : (then_ : State → State) → ((x : State) → outside (then_ x) ≡ outside (then_ (outside x))) → (s : State) (step : ElementStep) → out (stepping_to then_ s step) ≡ out (stepping_to then_ (outside s) step)
out-stepping then_ same s step = by (element (elements s) step)
  where
    served : List (ℕ × Reply)
    served = wakes (elements s) step

    by : (a : Answered Elements) → out (lifted (λ e. all_woken (then_ (with_elements s e)) served) a) ≡ out (lifted (λ e. all_woken (then_ (with_elements (outside s) e)) served) a)
    by (Ok (given, e)) =
        ap (λ (x : State). Ok (given, x)) (outside-all_woken (then_ (with_elements s e)) (then_ (with_elements (outside s) e)) served (same (with_elements s e)))
    by (Err refusal) = refl

out-touched : (s : State) (by : Option ℕ) (step : ElementStep) → out (touched s by step).effect ≡ out (touched (outside s) by step).effect
out-touched s by step = out-stepping (λ x. x) (λ x. sym (outside_twice x)) s step

-- an event
outside-posted : (s : State) (stage : Stage) (line : ℕ) → outside (with_lines s (lines.posted s.lines stage line)) ≡ outside (with_lines (outside s) (lines.posted (outside s).lines stage line))
outside-posted s Oob line = by (lines.has_callback s.lines Oob line)
  where
    by : (b : Bool) → outside (with_lines s (if b then lines.with_side s.lines Oob (lines.logged s.lines.oob line) else record s.lines { spurious = count_raised s.lines.spurious line }))
        ≡ outside (with_lines (outside s) (if b then lines.with_side (outside s).lines Oob (lines.logged s.lines.oob line) else record (outside s).lines { spurious = count_raised s.lines.spurious line }))
    by true = sym (outside_twice (with_lines s (lines.with_side s.lines Oob (lines.logged s.lines.oob line))))
    by false = sym (outside_twice (with_lines s (record s.lines { spurious = count_raised s.lines.spurious line })))
outside-posted s Inband line = by (lines.has_callback s.lines Inband line) ∙ ap posted_there (sym (stands-bare s.lines.inband.installed line))
  where
    posted_there : Bool → State
    posted_there b = outside (with_lines (outside s) (if b then lines.with_side (outside s).lines Inband (lines.logged (outside s).lines.inband line) else record (outside s).lines { spurious = count_raised s.lines.spurious line }))

    by : (b : Bool) → outside (with_lines s (if b then lines.with_side s.lines Inband (lines.logged s.lines.inband line) else record s.lines { spurious = count_raised s.lines.spurious line })) ≡ posted_there b
    by true = sym (outside_twice s)
    by false = sym (outside_twice (with_lines s (record s.lines { spurious = count_raised s.lines.spurious line })))

out-post : (s : State) (stage : Stage) (line : ℕ) → out (line_call.post s stage line) ≡ out (line_call.post (outside s) stage line)
out-post s stage line = out-refused (lines.post_refusal line) _ _
    (out-done (with_lines s (lines.posted s.lines stage line)) (with_lines (outside s) (lines.posted (outside s).lines stage line)) (outside-posted s stage line))

out-arrive : (s : State) (line : ℕ) → out (line_call.arrive s line) ≡ out (line_call.arrive (outside s) line)
out-arrive s line = out-refused (lines.post_refusal line) _ _
    (out-done (with_lines s (lines.arrived s.lines line)) (with_lines (outside s) (lines.arrived (outside s).lines line)) (by (lines.has_callback s.lines Oob line)))
  where
    by : (b : Bool) → outside (with_lines s (if b then lines.posted s.lines Oob line else lines.posted s.lines Inband line))
        ≡ outside (with_lines (outside s) (if b then lines.posted (outside s).lines Oob line else lines.posted (outside s).lines Inband line))
    by true = outside-posted s Oob line
    by false = outside-posted s Inband line

out-stall : (s : State) (stage : Stage) → out (line_call.stall s stage) ≡ out (line_call.stall (outside s) stage)
out-stall s Oob = out-beside (with_lines s (lines.stalled s.lines Oob))
out-stall s Inband = out-beside s

out-unstall : (s : State) (stage : Stage) → out (line_call.unstall s stage) ≡ out (line_call.unstall (outside s) stage)
out-unstall s Oob = out-beside (with_lines s (lines.unstalled s.lines Oob))
out-unstall s Inband = out-beside s

-- a request
request_refusal-outside : (s : State) (line : ℕ) (stage : Stage) (kinds : ℕ) → lines.request_refusal (outside s).lines line stage kinds ≡ lines.request_refusal s.lines line stage kinds
request_refusal-outside s line Oob kinds = refl
request_refusal-outside s line Inband kinds =
    ap (λ (b : Bool). if not (nat_lt line line_count) then Some Unknown else (if line == 0 || not (is_allowed Inband kinds) then Some Invalid else (if b then Some Busy else None)))
    (stands-bare s.lines.inband.installed line)

outside-requested : (s : State) (line : ℕ) (stage : Stage) (number tag : ℕ) (b : Banked)
    → outside (with_banked (with_lines s (lines.requested s.lines line stage number tag)) false number b) ≡ outside (with_banked (with_lines (outside s) (lines.requested (outside s).lines line stage number tag)) false number b)
outside-requested s line Oob number tag b = sym (outside_twice (with_banked (with_lines s (lines.requested s.lines line Oob number tag)) false number b))
outside-requested s line Inband number tag b = ap (standing (with_banked s false number b)) (bare-set_twice s.lines.inband.installed line (Some (record { callback = number; tag = tag; count = 0 })))

out-request : (s : State) (line : ℕ) (stage : Stage) (number tag : ℕ) → out (line_call.request s line stage number tag) ≡ out (line_call.request (outside s) line stage number tag)
out-request s line stage number tag = out-known (slice_get s.bank number) _ _ (λ b.
    let old = with_banked (with_lines s (lines.requested s.lines line stage number tag)) false number b in
    let new = with_banked (with_lines (outside s) (lines.requested (outside s).lines line stage number tag)) false number b in
    out-refused (lines.request_refusal s.lines line stage b.handler.kinds) _ _ (out-unless (not b.home) Busy _ _ (out-done old new (outside-requested s line stage number tag b)))
    ∙ ap (λ (o : Option Refusal). out (refused_by o (unless ((not b.home, Busy) ∷ []) (done new)))) (sym (request_refusal-outside s line stage b.handler.kinds)))

-- a free
free_refusal-outside : (s : State) (line : ℕ) (stage : Stage) → lines.free_refusal (outside s).lines line stage ≡ lines.free_refusal s.lines line stage
free_refusal-outside s line Oob = refl
free_refusal-outside s line Inband =
    ap (λ (b : Bool). if not (nat_lt line line_count) then Some Unknown else (if line == 0 then Some Invalid else (if b then None else Some Unknown)))
    (stands-bare s.lines.inband.installed line)

outside-freed : (s : State) (line : ℕ) (stage : Stage) → outside (with_lines s (lines.freed s.lines line stage)) ≡ outside (with_lines (outside s) (lines.freed (outside s).lines line stage))
outside-freed s line Oob = sym (outside_twice (with_lines s (lines.freed s.lines line Oob)))
outside-freed s line Inband = ap (standing s) (bare-set_twice s.lines.inband.installed line None)

outside-returned : (s : State) (o : Option (lines.Installed ℕ)) → outside (line_call.with_callback_back s o) ≡ line_call.with_callback_back (outside s) o
outside-returned s None = refl
outside-returned s (Some at) = by (slice_get s.bank at.callback)
  where
    by : (b : Option Banked) → outside (option_map_or (with_banked s true at.callback) b s) ≡ option_map_or (with_banked (outside s) true at.callback) b (outside s)
    by None = refl
    by (Some b) = refl

returned-uncounted : (s : State) (o : Option (lines.Installed ℕ)) → line_call.with_callback_back s (option_map uncounted o) ≡ line_call.with_callback_back s o
returned-uncounted s None = refl
returned-uncounted s (Some at) = refl

returned-outside : (s t : State) (stage : Stage) (line : ℕ) → line_call.with_callback_back t (lines.installed_at (outside s).lines stage line) ≡ line_call.with_callback_back t (lines.installed_at s.lines stage line)
returned-outside s t Oob line = refl
returned-outside s t Inband line = ap (line_call.with_callback_back t) (lookup-map uncounted s.lines.inband.installed line) ∙ returned-uncounted t (lines.installed_at s.lines Inband line)

out-free : (s : State) (line : ℕ) (stage : Stage) → out (line_call.free_line s line stage) ≡ out (line_call.free_line (outside s) line stage)
out-free s line stage =
    let old = with_lines s (lines.freed s.lines line stage) in
    let new = with_lines (outside s) (lines.freed (outside s).lines line stage) in
    let left = line_call.with_callback_back old (lines.installed_at s.lines stage line) in
    let leaves = line_call.with_callback_back new (lines.installed_at (outside s).lines stage line) in
    let same : outside left ≡ outside leaves =
    outside-returned old (lines.installed_at s.lines stage line)
    ∙ (ap (λ (x : State). line_call.with_callback_back x (lines.installed_at s.lines stage line)) (outside-freed s line stage)
    ∙ (sym (outside-returned new (lines.installed_at s.lines stage line)) ∙ ap outside (sym (returned-outside s new stage line)))) in
    out-refused (lines.free_refusal s.lines line stage) _ _ (out-done left leaves same)
    ∙ ap (λ (o : Option Refusal). out (refused_by o (done leaves))) (sym (free_refusal-outside s line stage))

out-line : (s : State) (step : LineStep) → out (line_effect s step) ≡ out (line_effect (outside s) step)
out-line s (request line stage number tag) = out-request s line stage number tag
out-line s (free line stage) = out-free s line stage
out-line s (arrive line) = out-arrive s line
out-line s (post stage line) = out-post s stage line
out-line s (stall stage) = out-stall s stage
out-line s (unstall stage) = out-unstall s stage

-- an answer that is a number
out-tells : (n : ℕ) (s : State) → out (tells n s) ≡ out (tells n (outside s))
out-tells n s = ap (λ (x : State). Ok (reply.Number n, x)) (sym (outside_twice s))

outside-posted_if : (due : Bool) (s : State) → outside (timer_call.posted_if due s) ≡ outside (timer_call.posted_if due (outside s))
outside-posted_if true s = outside-posted s Oob 0
outside-posted_if false s = sym (outside_twice s)

outside-home : (s : State) (number : ℕ) → outside (come_home s number) ≡ come_home (outside s) number
outside-home s number = by (slice_get s.bank number)
  where
    by : (b : Option Banked) → outside (option_map_or (with_banked s true number) b s) ≡ option_map_or (with_banked (outside s) true number) b (outside s)
    by None = refl
    by (Some b) = refl

outside-home_twice : (s : State) (number : ℕ) → outside (come_home s number) ≡ outside (come_home (outside s) number)
outside-home_twice s number = outside-home s number ∙ (ap (λ (x : State). come_home x number) (sym (outside_twice s)) ∙ sym (outside-home (outside s) number))

out-both : (b c : Bool) (e f : Effect) → out e ≡ out f → out (unless ((b, Invalid) ∷ (c, Busy) ∷ []) e) ≡ out (unless ((b, Invalid) ∷ (c, Busy) ∷ []) f)
out-both true c e f h = refl
out-both false true e f h = refl
out-both false false e f h = h

out-placed : (s : State) (number tag : ℕ) (b : Banked) (place : Option ℕ) → out (timer_call.place_timer s number tag b place) ≡ out (timer_call.place_timer (outside s) number tag b place)
out-placed s number tag b None = refl
out-placed s number tag b (Some n) = out-tells n (with_banked (with_clock s (clocks.with_new_timer s.clock n number tag)) false number b)

out-stop : (s : State) (n : ℕ) → out (timer_call.stop_timer s n) ≡ out (timer_call.stop_timer (outside s) n)
out-stop s n = out-refused (clocks.timer_refusal s.clock n) _ _ (out-beside (with_clock s (clocks.stop s.clock n)))

-- a step on the clock
out-clock : (s : State) (step : ClockStep) → out (clock_effect s step) ≡ out (clock_effect (outside s) step)
out-clock s (tick delta) =
    let then_ = timer_call.at_date (timer_call.paid s delta) delta in
    out-refused (clocks.advance_refusal s.clock delta) _ _ (out-done (timer_call.alarmed then_) (timer_call.alarmed (outside then_)) (outside-posted_if (is_due then_.clock) then_))
out-clock s read_date = out-tells s.clock.now s
out-clock s (new_timer number tag) = out-known (slice_get s.bank number) _ _ (λ b.
    out-both (not (is_timer_allowed b.handler.kinds)) (not b.home) _ _ (out-placed s number tag b (clocks.free_place s.clock)))
out-clock s (start_timer timer date interval) =
    let then_ = with_clock s (clocks.start s.clock timer date interval) in
    let due = nat_le date s.clock.now in
    out-refused (clocks.timer_refusal s.clock timer) _ _ (out-done (timer_call.posted_if due then_) (timer_call.posted_if due (outside then_)) (outside-posted_if due then_))
out-clock s (stop_timer timer) = out-stop s timer
out-clock s (drop_timer timer) = out-known (clocks.timer_at s.clock timer) _ _ (λ t.
    let then_ = with_clock s (clocks.dropped s.clock timer) in
    out-done (come_home then_ t.callback) (come_home (outside then_) t.callback) (outside-home_twice then_ t.callback))
out-clock s (overruns timer) = out-known (clocks.timer_at s.clock timer) _ _ (λ t. out-tells t.overruns s)

-- a step on threads
out-threads : (s : State) (caller : ℕ) (step : ThreadStep) → out (thread_effect s caller step) ≡ out (thread_effect (outside s) caller step)
out-threads s caller (attach policy stage) = out-refused (attach_refusal s.sched caller policy) _ _ (out-beside (with_sched s (threads.attached s.sched caller policy stage)))
out-threads s caller detach = out-refused (detach_refusal s caller) _ _ (out-beside (with_sched s (threads.detached s.sched caller)))
out-threads s caller (set_policy policy) = out-refused (set_policy_refusal s.sched caller policy) _ _ (out-beside (with_sched s (threads.policy_set s.sched caller policy)))
out-threads s caller (set_stage stage) = out-refused (stranger_refusal s.sched caller) _ _ (out-beside (with_sched s (threads.stage_set s.sched caller stage)))
out-threads s caller pick = ap (λ (x : State). Ok (reply.Chosen (option_map mutex.thread_named (picked (thread_call.rank_of s) s.sched)), x)) (sym (outside_twice s))
out-threads s caller (tell_rank thread) = out-refused (stranger_refusal s.sched thread) _ _ (out-tells (thread_call.rank_of s thread) s)

-- a wait that begins
outside-begun : (s : State) (thread : ℕ) (on : Awaited) (until : Option ℕ) (served : Option Reply) → outside (wait_begun s thread on until served) ≡ outside (wait_begun (outside s) thread on until served)
outside-begun s thread on until None = outside-posted_if (is_past s.clock.now until) (suspended s thread on until)
outside-begun s thread on until (Some outcome) = sym (outside_twice (wait_begun s thread on until (Some outcome)))

out-beginning : (s : State) (thread : ℕ) (wants : Wanted) (until : Option ℕ) → out (beginning s thread wants until).effect ≡ out (beginning (outside s) thread wants until).effect
out-beginning s thread wants until =
    let step = begin_step s thread wants in
    let served = serves (elements s) step in
    out-refused (begin_refusal s thread wants) _ _ (out-stepping (λ x. wait_begun x thread (awaited_by wants) until served) (λ x. outside-begun x thread (awaited_by wants) until served) s step)

-- and one that is finished
out-finish : (s : State) (thread : ℕ) (keep : Bool) → out (finish s thread keep) ≡ out (finish (outside s) thread keep)
out-finish s thread keep = by (outcome_of (wait_at s thread))
  where
    goes : Bool
    goes = goes_inband s thread keep

    same : (b : Bool) → outside (inband_if b (with_wait s thread None) thread) ≡ outside (inband_if b (with_wait (outside s) thread None) thread)
    same true = sym (outside_twice (inband_if true (with_wait s thread None) thread))
    same false = sym (outside_twice (with_wait s thread None))

    by : (r : Result Reply Refusal) → out (leaving (inband_if goes (with_wait s thread None) thread) r) ≡ out (leaving (inband_if goes (with_wait (outside s) thread None) thread) r)
    by (Ok reply) = ap (λ (x : State). Ok (reply, x)) (same goes)
    by (Err refusal) = refl

out-task : (s : State) (caller : ℕ) (task : Task) → out (performing s caller task).effect ≡ out (performing (outside s) caller task).effect
out-task s caller (on_lines step) = out-line s step
out-task s caller (on_clock step) = out-clock s step
out-task s caller (on_threads step) = out-threads s caller step
out-task s caller (on_element step) = out-touched s (Some caller) step
out-task s caller (on_staged step_from) = out-touched s (Some caller) (step_from caller (stage_of s.sched caller))
out-task s caller (raises n) = out-refused (raiser_refusal s caller n) _ _ (out-touched s (Some caller) (on_mutex n (mutex.raise caller)))
out-task s caller (begins wants until) = out-beginning s caller wants until
out-task s caller (ends keep) = out-finish s caller keep

-- a call
pub out-answer : (s : State) (caller : ℕ) (asked : Call) → out (answer s caller asked) ≡ out (answer (outside s) caller asked)
out-answer s caller asked = out-refused (general_refusal s caller asked) _ _ (out-task s caller (task_of asked))

if_done-out : (s : State) (e : Effect) → outside (if_done s e) ≡ if_done (outside s) (out e)
if_done-out s (Ok (given, t)) = refl
if_done-out s (Err refusal) = refl

outside-if_done : (s : State) (e f : Effect) → out e ≡ out f → outside (if_done s e) ≡ outside (if_done (outside s) f)
outside-if_done s e f h =
    if_done-out s e ∙ (ap (if_done (outside s)) h ∙ (ap (λ (x : State). if_done x (out f)) (sym (outside_twice s)) ∙ sym (if_done-out (outside s) f)))

-- the actions of an answer
outside-acted : (s : State) (line : ℕ) (action : Action) → outside (after_action s line action) ≡ outside (after_action (outside s) line action)
outside-acted s line (PostSem sem) = outside-if_done s _ _ (out-touched s None (on_sem sem.0 put))
outside-acted s line (PostFlags flags bits) = outside-if_done s _ _ (out-touched s None (on_flags flags.0 (group.post bits)))
outside-acted s line Propagate = outside-if_done s _ _ (out-post s Inband line)
outside-acted s line (PostOob other) = outside-if_done s _ _ (out-post s Oob other.0)
outside-acted s line (StopTimer timer) = outside-if_done s _ _ (out-stop s timer.0)

outside-all_acted : (s : State) (line : ℕ) (actions : List Action) → outside (all_acted s line actions) ≡ outside (all_acted (outside s) line actions)
outside-all_acted s line [] = sym (outside_twice s)
outside-all_acted s line (action ∷ actions) =
    outside-all_acted (after_action s line action) line actions
    ∙ (ap (λ (x : State). outside (all_acted x line actions)) (outside-acted s line action)
    ∙ sym (outside-all_acted (after_action (outside s) line action) line actions))

outside-answered : (s : State) (line : ℕ) (answer : Answer) → outside (after_answer s line answer) ≡ outside (after_answer (outside s) line answer)
outside-answered s line answer = by answer.handled
  where
    by : (b : Bool) → outside (if b then all_acted s line answer.actions.items else s) ≡ outside (if b then all_acted (outside s) line answer.actions.items else outside s)
    by true = outside-all_acted s line answer.actions.items
    by false = sym (outside_twice s)

-- an out-of-band play
abbrev pub out_play : Play × State → Play × State
out_play p = (p.0, outside p.1)

pub out-played : (s : State) (line : ℕ) → out_play (pending_played (outside s) Oob line) ≡ out_play (pending_played s Oob line)
out-played s line = by (line == 0)
  where
    at : lines.Installed ℕ
    at = unwrap_or (lines.installed_at s.lines Oob line) nothing

    by : (b : Bool) → out_play (if b then clock_played (outside s) else line_played (outside s) Oob line at) ≡ out_play (if b then clock_played s else line_played s Oob line at)
    by true = ap (λ (x : State). (play.Clock, x)) (outside_twice (with_lines s (lines.with_side s.lines Oob (lines.cleared s.lines.oob 0))))
    by false =
        let given = answer_of (plan_at s at.callback) (one_more at.count) in
        ap (λ (x : State). (play.Line (record { 0 = line }) Oob (one_more at.count) given.handled, x)) (sym (outside-answered (with_lines s (lines.played s.lines Oob line at given.handled)) line given))

-- a deadline
outside-deadline : (s : State) (thread : ℕ) → outside (deadline_left (outside s) thread).1 ≡ outside (deadline_left s thread).1
outside-deadline s thread = by (wait_at s thread)
  where
    after : State
    after = woken s thread TimedOut

    dropped : State → Option Wait → State
    dropped x o = if_done x (option_map_or (λ (w : Wait). touched x None (drop_step thread w.on)) o (record { touches = []; effect = Err Invalid })).effect

    by : (o : Option Wait) → outside (dropped (outside after) o) ≡ outside (dropped after o)
    by None = outside_twice after
    by (Some w) = sym (outside-if_done after _ _ (out-touched after None (drop_step thread w.on)))

-- the play of a due item
pub out-item : (s : State) (found : Item) → out_play (item_played (outside s) found) ≡ out_play (item_played s found)
out-item s (item.Deadline thread) = ap (λ (x : State). (play.Deadline thread, x)) (outside-deadline s thread.0)
out-item s (item.Timer id) =
    let t = timer_there s id.0 in
    let given = timer_given s t in
    ap (λ (x : State). (play.Timer (record { 0 = id.0 }) (one_more t.count) (missed_periods s.clock.now t.state) given.handled, x))
    (sym (outside-answered (with_clock s (fired s.clock id.0 t)) 0 given))

-- the records outside while the kernel settles, and whether the clock's play goes on
abbrev pub Outer : Type 0
Outer = State × Bool

abbrev pub onward : Play × State → Play × Outer
onward p = (p.0, (p.1, clock_goes_on p.0 p.1))

abbrev pub item_outside : Outer → Option Item
item_outside x = if x.1 then next_due x.0.clock else None

abbrev pub line_outside : State → Option (Play × Outer)
line_outside s =
    if is_some (least s.lines.oob.pending) && not s.lines.oob.stalled then option_map (λ line. onward (out_play (pending_played s Oob line))) (least s.lines.oob.pending) else None

abbrev pub item_or_line : Outer → Option Item → Option (Play × Outer)
item_or_line x (Some found) = Some (onward (out_play (item_played x.0 found)))
item_or_line x None = line_outside x.0

-- the due item or the out-of-band line that is played next, and what it leaves
unfoldable pub next_outside : Outer → Option (Play × Outer)
next_outside x = item_or_line x (item_outside x)

pub next_outside-quiet : (s : State) → (is_some (least s.lines.oob.pending) && not s.lines.oob.stalled) ≡ false → next_outside (outside s, false) ≡ None
unfolding next_outside
next_outside-quiet s quiet = rw quiet refl

pub next_outside-item : (s : State) (b : Bool) (found : Item) → item_outside (s, b) ≡ Some found → next_outside (outside s, b) ≡ Some (onward (out_play (item_played s found)))
unfolding next_outside
next_outside-item s b found is = ap (item_or_line (outside s, b)) is ∙ ap (λ (x : Play × State). Some (onward x)) (out-item s found)

pub next_outside-plays : (s : State) (b : Bool) (line : ℕ) → item_outside (s, b) ≡ None → (is_some (least s.lines.oob.pending) && not s.lines.oob.stalled) ≡ true → least s.lines.oob.pending ≡ Some line
    → next_outside (outside s, b) ≡ Some (onward (out_play (pending_played s Oob line)))
unfolding next_outside
next_outside-plays s b line none playable low = ap (item_or_line (outside s, b)) none ∙ rw (playable, low) (ap (λ (x : Play × State). Some (onward x)) (out-played s line))

-- an in-band play of a callback without actions
bare-recounted : (xs : Table) (line : ℕ) (at : lines.Installed ℕ) (count : ℕ) → slice_index_or xs line None ≡ Some at → bare (slice_set xs line (Some (record at { count = count }))) ≡ bare xs
bare-recounted [] line at count there = refl
bare-recounted (x ∷ xs) zero at count there = ap (λ (o : Option (lines.Installed ℕ)). option_map uncounted o ∷ bare xs) (sym there)
bare-recounted (x ∷ xs) (suc line) at count there = ap (λ (l : Table). option_map uncounted x ∷ l) (bare-recounted xs line at count there)

answered-silent : (s : State) (line : ℕ) (answer : Answer) → answer.actions.items ≡ [] → after_answer s line answer ≡ s
answered-silent s line answer none = ap (λ (actions : List Action). if answer.handled then all_acted s line actions else s) none ∙ by answer.handled
  where
    by : (b : Bool) → (if b then s else s) ≡ s
    by true = refl
    by false = refl

pub outside-silent_play : (s : State) (line : ℕ) (at : lines.Installed ℕ) → lines.installed_at s.lines Inband line ≡ Some at → (plan_at s at.callback).rows.items ≡ []
    → outside (pending_played s Inband line).1 ≡ outside s
outside-silent_play s line at there silent =
    let given = answer_of (plan_at s at.callback) (one_more at.count) in
    ap (λ (o : Option (lines.Installed ℕ)). outside (line_played s Inband line (unwrap_or o nothing)).1) there
    ∙ (ap outside (answered-silent (with_lines s (lines.played s.lines Inband line at given.handled)) line given (no_actions silent))
    ∙ ap (standing s) (bare-recounted s.lines.inband.installed line at (one_more at.count) there))
  where
    no_actions : (plan_at s at.callback).rows.items ≡ [] → (answer_of (plan_at s at.callback) (one_more at.count)).actions.items ≡ []
    no_actions e = rw e refl
