-- C's view of a kernel besides its calls.
use Rattle.std.specs.Prelude.{ℕ, ℤ, pos, Bool, true, false, nat_le, nat_eq, ◌&&◌, length, Option, Some, None, option_map, slice_get, if◌then◌else◌}
use Rattle.std.specs.Option.{option_map_or}
use Rattle.evl_base.specs.declared.stage.Stage.{Stage}
use Rattle.evl_base.specs.declared.stage.Stage.TheVariants.{Inband, Oob}
use Rattle.evl_base.specs.declared.way.Way.{Way}
use Rattle.evl_base.specs.declared.way.Way.TheVariants.{In, Out}
use Rattle.evl_kernel.specs.state.KernelViews.{KernelView}
use Rattle.evl_kernel.specs.calls.MutexEffects.{record_at}
use Rattle.evl_kernel.specs.waiting.Standing.{queue_of}
use Rattle.evl_kernel.specs.state.States.{State, date}
use Rattle.evl_kernel.specs.calls.ThreadCalls.{rank_of}
use Rattle.evl_kernel.specs.waiting.Waits.{has_ended, has_timed_out, is_waiting}
use Rattle.evl_kernel.specs.declared.waits.Awaited.{Awaited}
use Rattle.evl_kernel.specs.declared.waits.Awaited.TheVariants.{Sem, Flags, Writing, Reading, Mutex}
use Rattle.evl_mutex.specs.Owners.{owner_at}
use Rattle.evl_pipeline.specs.Lines.{is_pending}
use Rattle.evl_plans.specs.declared.planned.Planned.{Planned}
use Rattle.evl_sched.specs.Picks.{picked}
use Rattle.evl_sched.specs.Threads.{is_attached, is_ready, stage_of as stage_in}
use Rattle.evl_sync.specs.Semaphores.{peek}
use Rattle.evl_xbuf.specs.Xbufs.{stream}
use Rattle.evl_c.specs.Answers.{stage_number}
use Rattle.evl_c.specs.declared.readings.QuestionForm.{QuestionForm}
use Rattle.evl_c.specs.declared.readings.ReadingForm.{ReadingForm}

-- a truth
abbrev pub truth : Bool → ReadingForm
truth there = record { there = there; number = 0; count = pos 0 }

-- a number, if there is one
abbrev pub number : Option ℕ → ReadingForm
number (Some found) = record { there = true; number = found; count = pos 0 }
number None = truth false

-- a count, if there is one
abbrev pub count : Option ℤ → ReadingForm
count (Some found) = record { there = true; number = 0; count = found }
count None = truth false

-- whether each number is in its range
abbrev pub is_question : QuestionForm → Bool
is_question form = nat_le form.kind 14 && (nat_le form.stage 1 && (nat_le form.way 1 && nat_le form.on 4))

abbrev pub stage_of : QuestionForm → Stage
stage_of form = if nat_eq form.stage 0 then Inband else Oob

abbrev pub way_of : QuestionForm → Way
way_of form = if nat_eq form.way 0 then In else Out

-- what is waited for
abbrev pub awaited_of : QuestionForm → Awaited
awaited_of form =
    if nat_eq form.on 0 then Sem (record { 0 = form.element }) else
    if nat_eq form.on 1 then Flags (record { 0 = form.element }) else
    if nat_eq form.on 2 then Writing (record { 0 = form.element }) (way_of form) else
    if nat_eq form.on 3 then Reading (record { 0 = form.element }) (way_of form) else
    Mutex (record { 0 = form.element })

abbrev pub rank : KernelView Planned → ℕ → ReadingForm
rank k thread = number (if is_attached k.history.state.sched thread then Some (rank_of k.history.state thread) else None)

abbrev pub bits : KernelView Planned → ℕ → ReadingForm
bits k flags = number (option_map (λ group. group.bits) (slice_get k.history.state.elements.flags flags))

abbrev pub reading_stored : KernelView Planned → ℕ → Way → ReadingForm
reading_stored k xbuf way = number (option_map (λ x. length (stream x way).there) (slice_get k.history.state.elements.xbufs xbuf))

-- 0 to 7: the date and the threads
abbrev pub thread_reading : KernelView Planned → QuestionForm → ReadingForm
thread_reading k form =
    if nat_eq form.kind 0 then number (Some (date k.history.state)) else
    if nat_eq form.kind 1 then number (picked (rank_of k.history.state) k.history.state.sched) else
    if nat_eq form.kind 2 then rank k form.element else
    if nat_eq form.kind 3 then truth (is_ready k.history.state.sched form.element) else
    if nat_eq form.kind 4 then truth (is_waiting k.history.state form.element) else
    if nat_eq form.kind 5 then truth (has_ended k.history.state form.element) else
    if nat_eq form.kind 6 then truth (has_timed_out k.history.state form.element) else
    number (Some (stage_number (stage_in k.history.state.sched form.element)))

-- 8 to 14: the elements and the lines
abbrev pub element_reading : KernelView Planned → QuestionForm → ReadingForm
element_reading k form =
    if nat_eq form.kind 8 then count (option_map peek (slice_get k.history.state.elements.sems form.element)) else
    if nat_eq form.kind 9 then bits k form.element else
    if nat_eq form.kind 10 then reading_stored k form.element (way_of form) else
    if nat_eq form.kind 11 then number (owner_at (record_at k.history.state form.element)) else
    if nat_eq form.kind 12 then number (Some (option_map_or (λ m. length m.waiters) (record_at k.history.state form.element) 0)) else
    if nat_eq form.kind 13 then number (slice_get (queue_of k.history.state.elements (awaited_of form)) form.place) else
    truth (is_pending k.history.state.lines (stage_of form) form.element)

abbrev pub reading_of : KernelView Planned → QuestionForm → ReadingForm
reading_of k form = if nat_le form.kind 7 then thread_reading k form else element_reading k form
