-- All that a driven machine shows.
use Rattle.std.specs.Prelude.{ℕ, ℤ, ◌==◌, Bool, false, List, [], ◌++◌, length, flat_map, codes, decimal, slice_get, if◌then◌else◌, Option, Some, None, option_map}
use Rattle.std.specs.Fmt.{signed_decimal}
use Rattle.evl_base.specs.Policy.{policy_text}
use Rattle.evl_base.specs.Stage.{stage_text}
use Rattle.evl_base.specs.declared.policy.Policy.{Policy}
use Rattle.evl_base.specs.declared.way.Way.{Way}
use Rattle.evl_base.specs.declared.way.Way.TheVariants.{In, Out}
use Rattle.evl_sched.specs.Picks.{picked}
use Rattle.evl_sched.specs.Threads.{is_attached, seat_at, stage_of}
use Rattle.evl_sync.specs.Semaphores.{peek}
use Rattle.evl_xbuf.specs.Xbufs.{stream}
use Rattle.evl_kernel.specs.calls.ThreadCalls.{rank_of}
use Rattle.evl_kernel.specs.histories.Histories.{History}
use Rattle.evl_kernel.specs.state.States.{State, date}
use Rattle.evl_scenario.specs.Lines.{line_feed}
use Rattle.lab_live.specs.Sessions.{Driven}
use Rattle.lab_live.specs.States.{numbers_below, rest_text, wait_text}

-- ---- a thread

abbrev pub policy_part : Option Policy → List ℕ
policy_part None = []
policy_part (Some policy) = codes " " ++ policy_text policy

abbrev pub rank_part : Option ℕ → List ℕ
rank_part None = []
rank_part (Some rank) = codes " rank " ++ decimal rank

-- the effective rank of a thread that is attached
abbrev pub rank_at : State → ℕ → Option ℕ
rank_at s thread = if is_attached s.sched thread then Some (rank_of s thread) else None

abbrev pub is_same : Option ℕ → ℕ → Bool
is_same None thread = false
is_same (Some other) thread = other == thread

abbrev pub is_picked : State → ℕ → Bool
is_picked s thread = is_same (picked (rank_of s) s.sched) thread

abbrev pub picked_part : State → ℕ → List ℕ
picked_part s thread = if is_picked s thread then codes " picked" else []

-- a thread's stage; if it is attached its policy, its effective rank, and whether it is picked; its unfinished wait, if it has one
abbrev pub whole_thread : History → ℕ → List ℕ
whole_thread h thread =
    codes "T" ++ (decimal thread ++ (codes " " ++ (stage_text (stage_of h.state.sched thread) ++ (policy_part (option_map (λ seat. seat.policy) (seat_at h.state.sched thread))
    ++ (rank_part (rank_at h.state thread) ++ (picked_part h.state thread ++ (wait_text h thread ++ line_feed)))))))

-- ---- elements

abbrev pub count_text : ℕ → Option ℤ → List ℕ
count_text sem None = []
count_text sem (Some count) = codes "sem " ++ (decimal sem ++ (codes " count " ++ (signed_decimal count ++ line_feed)))

-- a semaphore's count, or minus the number of its waiters
abbrev pub sem_line : State → ℕ → List ℕ
sem_line s sem = count_text sem (option_map peek (slice_get s.elements.sems sem))

abbrev pub bits_text : ℕ → Option ℕ → List ℕ
bits_text flags None = []
bits_text flags (Some bits) = codes "flags " ++ (decimal flags ++ (codes " bits " ++ (decimal bits ++ line_feed)))

abbrev pub flags_line : State → ℕ → List ℕ
flags_line s flags = bits_text flags (option_map (λ group. group.bits) (slice_get s.elements.flags flags))

-- how many bytes are in a way of a cross-buffer
abbrev pub there_at : State → ℕ → Way → Option ℕ
there_at s xbuf way = option_map (λ x. length (stream x way).there) (slice_get s.elements.xbufs xbuf)

abbrev pub there_text : ℕ → Option ℕ → Option ℕ → List ℕ
there_text xbuf (Some inbound) (Some outbound) =
    codes "xbuf " ++ (decimal xbuf ++ (codes " in " ++ (decimal inbound ++ (codes " bytes, out " ++ (decimal outbound ++ codes " bytes\n")))))
there_text xbuf _ _ = []

abbrev pub xbuf_line : State → ℕ → List ℕ
xbuf_line s xbuf = there_text xbuf (there_at s xbuf In) (there_at s xbuf Out)

-- ---- the machine

-- the date in nanoseconds
abbrev pub date_line : State → List ℕ
date_line s = codes "date " ++ (decimal (date s) ++ line_feed)

-- the date, and a line for each thread, semaphore, flag group and cross-buffer; then mutexes, stages and timers as they are reported by themselves
unfoldable pub whole_text : Driven → List ℕ
whole_text driven =
    date_line driven.history.state
    ++ (flat_map (whole_thread driven.history) (numbers_below driven.board.threads)
    ++ (flat_map (sem_line driven.history.state) (numbers_below (length driven.board.sems.items))
    ++ (flat_map (flags_line driven.history.state) (numbers_below (length driven.board.flags.items))
    ++ (flat_map (xbuf_line driven.history.state) (numbers_below (length driven.board.xbufs.items))
    ++ rest_text driven))))
