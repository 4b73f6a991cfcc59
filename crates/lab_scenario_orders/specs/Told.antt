-- The lines that are reported of callers at the end of an order.
use Rattle.std.specs.Prelude.{ℕ, zero, suc, ◌==◌, Bool, List, [], ◌∷◌, ◌++◌, codes, length, Option, Some, None, is_some, if◌then◌else◌, option_map, slice_get, slice_index, slice_index_or}
use Rattle.std.specs.Fmt.{decimal, signed_decimal}
use Rattle.std.specs.List.{list_any}
use Rattle.std.specs.Option.{option_map_or}
use Rattle.evl_base.specs.Limits.{line_limit}
use Rattle.evl_base.specs.Stage.{stage_text}
use Rattle.evl_base.specs.Way.{way_text}
use Rattle.evl_base.specs.declared.board.Board.{Board}
use Rattle.evl_base.specs.declared.stage.Stage.{Stage}
use Rattle.evl_base.specs.declared.stage.Stage.TheVariants.{Oob, Inband}
use Rattle.evl_base.specs.declared.way.Way.{Way}
use Rattle.evl_base.specs.declared.way.Way.TheVariants.{In, Out}
use Rattle.evl_pipeline.specs.Lines.{is_pending}
use Rattle.evl_mutex.specs.Owners.{owner_at}
use Rattle.evl_sync.specs.Semaphores as semaphores
use Rattle.evl_xbuf.specs.Xbufs.{stream}
use Rattle.evl_kernel.specs.calls.MutexEffects.{record_at}
use Rattle.evl_kernel.specs.state.States.{State}
use Rattle.evl_kernel.specs.waiting.Waits.{wait_at}
use Rattle.evl_kernel.specs.declared.waits.Awaited.{Awaited}
use Rattle.evl_kernel.specs.declared.waits.Awaited.TheVariants.{Sem, Flags, Writing, Reading, Mutex}
use Rattle.evl_scenario.specs.Lines.{line_feed}
use Rattle.lab_scenario_orders.specs.Callers.{Seen, goes_on, next_place}
use Rattle.lab_scenario_orders.specs.declared.callers.Callers.{Callers}

-- the lines of each number below n
unfoldable pub lines_below : (ℕ → List ℕ) → ℕ → List ℕ
lines_below line zero = []
lines_below line (suc n) = lines_below line n ++ line n

-- for what a thread waits
abbrev pub awaited_text : Awaited → List ℕ
awaited_text (Sem sem) = codes " for sem " ++ decimal sem.0
awaited_text (Flags flags) = codes " for flags " ++ decimal flags.0
awaited_text (Writing xbuf way) = codes " to write xbuf " ++ (decimal xbuf.0 ++ (codes " way " ++ way_text way))
awaited_text (Reading xbuf way) = codes " to read xbuf " ++ (decimal xbuf.0 ++ (codes " way " ++ way_text way))
awaited_text (Mutex mutex) = codes " for mutex " ++ decimal mutex.0

abbrev pub waits_text : ℕ → Option Awaited → List ℕ
waits_text who None = codes "T" ++ (decimal who ++ codes " waits\n")
waits_text who (Some on) = codes "T" ++ (decimal who ++ (codes " waits" ++ (awaited_text on ++ line_feed)))

abbrev pub awaited_at : State → ℕ → Option Awaited
awaited_at s who = option_map (λ w. w.on) (wait_at s who)

-- a thread whose wait goes on
abbrev pub waiting_text : State → ℕ → List ℕ
waiting_text s who = if goes_on s who then waits_text who (awaited_at s who) else []

-- a caller has a step more
abbrev pub has_more : Callers → List ℕ → ℕ → Bool
has_more c made n = is_some (next_place c n (slice_index made n))

-- its wait doesn't go on: another one is picked
abbrev pub unpicked_text : ℕ → List ℕ
unpicked_text who = codes "T" ++ (decimal who ++ codes " isn't picked\n")

abbrev pub stuck_text : State → ℕ → List ℕ
stuck_text s who = codes "stuck: " ++ (if goes_on s who then waits_text who (awaited_at s who) else unpicked_text who)

-- a caller that has a step more and can't make it is stuck
abbrev pub stuck_line : Callers → List ℕ → State → ℕ → List ℕ
stuck_line c made s n = if has_more c made n then option_map_or (λ caller. stuck_text s caller.who.0) (slice_get c.callers.items n) [] else []

-- a caller that has no step more, and waits
abbrev pub resting_line : Callers → List ℕ → State → ℕ → List ℕ
resting_line c made s n = if has_more c made n then [] else option_map_or (λ caller. waiting_text s caller.who.0) (slice_get c.callers.items n) []

abbrev pub is_caller : Callers → ℕ → Bool
is_caller c who = list_any (λ caller. caller.who.0 == who) c.callers.items

-- a thread that waits and is no caller
abbrev pub waiting_line : Callers → State → ℕ → List ℕ
waiting_line c s who = if is_caller c who then [] else waiting_text s who

-- what a caller was answered
abbrev pub answered_text : ℕ → List ℕ → List ℕ
answered_text who told = codes "T" ++ (decimal who ++ (told ++ line_feed))

abbrev pub answered_line : Callers → List (List ℕ) → ℕ → List ℕ
answered_line c answers n = option_map_or (λ caller. answered_text caller.who.0 (slice_index_or answers n [])) (slice_get c.callers.items n) []

-- a mutex with a recorded owner
abbrev pub owner_text : ℕ → ℕ → Option ℕ → List ℕ
owner_text n waiters None = []
owner_text n waiters (Some owner) =
    codes "mutex " ++ (decimal n ++ (codes ": owner T" ++ (decimal owner ++ (codes ", " ++ (decimal waiters ++ codes " wait\n")))))

abbrev pub mutex_line : State → ℕ → List ℕ
mutex_line s n = owner_text n (option_map_or (λ m. length m.waiters) (record_at s n) 0) (owner_at (record_at s n))

abbrev pub sem_line : State → ℕ → List ℕ
sem_line s n =
    option_map_or (λ sem. codes "sem " ++ (decimal n ++ (codes ": " ++ (signed_decimal (semaphores.peek sem) ++ line_feed)))) (slice_get s.elements.sems n) []

abbrev pub flags_line : State → ℕ → List ℕ
flags_line s n =
    option_map_or (λ group. codes "flags " ++ (decimal n ++ (codes ": " ++ (decimal group.bits ++ line_feed)))) (slice_get s.elements.flags n) []

-- how many bytes stand in a way of a cross-buffer
abbrev pub xbuf_line : State → Way → ℕ → List ℕ
xbuf_line s way n =
    option_map_or (λ x. codes "xbuf " ++ (decimal n ++ (codes " " ++ (way_text way ++ (codes ": " ++ (decimal (length (stream x way).there) ++ codes " bytes\n"))))))
    (slice_get s.elements.xbufs n) []

-- an event that is pending
abbrev pub pending_line : State → Stage → ℕ → List ℕ
pending_line s stage n = if is_pending s.lines stage n then codes "line " ++ (decimal n ++ (codes " " ++ (stage_text stage ++ codes " pending\n"))) else []

-- who is stuck and who waits, and what each caller was answered
abbrev pub callers_text : Callers → List ℕ → List (List ℕ) → State → List ℕ
callers_text c made answers s =
    lines_below (stuck_line c made s) (length c.callers.items)
    ++ (lines_below (resting_line c made s) (length c.callers.items)
    ++ (lines_below (answered_line c answers) (length c.callers.items)
    ++ lines_below (waiting_line c s) c.board.threads))

abbrev pub xbufs_text : Board → State → List ℕ
xbufs_text board s = lines_below (xbuf_line s In) (length board.xbufs.items) ++ lines_below (xbuf_line s Out) (length board.xbufs.items)

-- how the elements stand
abbrev pub elements_text : Board → State → List ℕ
elements_text board s =
    lines_below (mutex_line s) (length board.mutexes.items)
    ++ (lines_below (sem_line s) (length board.sems.items)
    ++ (lines_below (flags_line s) (length board.flags.items)
    ++ (lines_below (xbuf_line s In) (length board.xbufs.items) ++ lines_below (xbuf_line s Out) (length board.xbufs.items))))

abbrev pub pending_text : State → List ℕ
pending_text s = lines_below (pending_line s Oob) line_limit ++ lines_below (pending_line s Inband) line_limit

-- rule: The state of an end is reported: who is stuck, who waits for what, each caller's answers, recorded owners,
--   counts, bits, bytes, pending events.
--   clauses: outcomes_of
-- what is reported where callers and kernel stand so
abbrev pub told_text : Callers → Seen → List ℕ
told_text c seen = callers_text c seen.made seen.answers seen.state ++ (elements_text c.board seen.state ++ pending_text seen.state)
