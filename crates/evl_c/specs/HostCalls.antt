-- The content of the handles of a machine's callers, and the effect of a call of C's.
use Rattle.std.specs.Prelude.{◌≡◌, ◌⊎◌, ℕ, Bool, ◌&&◌, nat_le, List, length, map, replicate, Option, Some, None, Result, Ok, Err, string_bytes}
use Rattle.std.specs.List.{list_all}
use Rattle.evl_base.specs.declared.board.Board.{Board}
use Rattle.evl_base.specs.declared.refusal.Refusal.{Refusal}
use Rattle.evl_base.specs.declared.refusal.Refusal.TheVariants.{CoreBusy}
use Rattle.evl_base.specs.declared.reply.Reply.{Reply}
use Rattle.evl_base.specs.declared.reply.Reply.TheVariants.{Done}
use Rattle.evl_kernel.specs.state.Openings.{can_open}
use Rattle.evl_kernel.specs.state.States.{Handler}
use Rattle.evl_machine.specs.callers.Handles.{MachineState}
use Rattle.evl_plans.specs.declared.planned.Planned.{Planned}
use Rattle.evl_hosts.specs.Hosts.{HostState, Looks, Steps, TellsTrace, new_hosts}
use Rattle.evl_c.specs.Answers.{answer_form, bytes_of}
use Rattle.evl_c.specs.Boards.{board_of, is_board}
use Rattle.evl_c.specs.Opens.{IsFresh}
use Rattle.evl_c.specs.Texts.{TellsText}
use Rattle.evl_c.specs.Readings.{reading_of}
use Rattle.evl_c.specs.Windows.{window}
use Rattle.evl_c.specs.declared.answers.AnswerForm.{AnswerForm}
use Rattle.evl_c.specs.declared.boards.BoardForm.{BoardForm}
use Rattle.evl_c.specs.declared.host_handles.HostHandle.{HostHandle}
use Rattle.evl_c.specs.declared.readings.QuestionForm.{QuestionForm}
use Rattle.evl_c.specs.declared.readings.ReadingForm.{ReadingForm}

-- the caller that is there, if one is
abbrev pub host_held : HostHandle → Option HostState
host_held handle = handle.slot.held

-- the board of a form with staxes of these limits, whether it is one, and whether a machine may have it, so many callbacks and this limit
abbrev pub machine_board : BoardForm → List ℕ → Board
machine_board form staxes = record (board_of form) { staxes = record { items = staxes } }

abbrev pub is_whole_board : BoardForm → List ℕ → Bool
is_whole_board form staxes = is_board form && nat_le (length staxes) 16

abbrev pub can_be_opened : BoardForm → List ℕ → ℕ → ℕ → Bool
can_be_opened form staxes count limit = is_whole_board form staxes && can_open (machine_board form staxes) count limit

-- rule: A machine that C opens has exactly its board, staxes, callbacks and limit, and a caller in each handle, in the
--   threads' order; else no handle has one, and bad plans, then another number of handles, are reported exactly, a bad
--   board or limit only where it is.
--   clauses: evlsim_c_machine_open; evlsim_c_caller_close
-- each handle holds a caller of a machine that was just made of these
abbrev pub AreFresh : Board → List Handler → ℕ → List HostHandle → Type 0
AreFresh board bank limit handles = (machine : MachineState Planned) × IsFresh board bank limit machine.first × (map host_held handles ≡ map (λ h. Some h) (new_hosts machine board.threads))

-- no handle holds one
abbrev pub are_free : List HostHandle → Type 0
are_free handles = map host_held handles ≡ replicate (length handles) None

-- rule: Each call by a handle is one of its caller, with that answer. Without a caller nothing is done.
--   also: HostCalls.{CallsFor, Leaves}
--   clauses: evlsim_c_try_call; evlsim_c_try_lock_mutex; evlsim_c_begin_lock_mutex; evlsim_c_finish_lock_mutex;
--   evlsim_c_unlock_mutex_fast; evlsim_c_try_unlock_mutex; evlsim_c_try_lock_stax; evlsim_c_unlock_stax
-- A caller was there, and is: it did this, and C got the answer.
abbrev pub Calls : (Result Reply Refusal → HostState → HostState → Type 0) → Option HostState → Option HostState → AnswerForm → Type 0
Calls does (Some old) (Some new) answer = (r : Result Reply Refusal) × does r old new × (answer ≡ answer_form r 0 0)
Calls does _ _ answer = ⊥

-- A caller was there, and is: it made a call of the kernel, C got the answer, and the answer's bytes are in the buffer.
abbrev pub CallsFor : (Result Reply Refusal → HostState → HostState → Type 0) → Option HostState → Option HostState → List ℕ → List ℕ → AnswerForm → Type 0
CallsFor does (Some old) (Some new) buffer told answer = (r : Result Reply Refusal) × does r old new × (answer ≡ answer_form r 0 0) × (told ≡ window (bytes_of r) 0 buffer)
CallsFor does _ _ buffer told answer = ⊥

-- what C learns of a stax that was left, and of whether others want in then
abbrev pub left_form : Result Bool Refusal → AnswerForm
left_form (Ok wanted) = record (answer_form (Ok Done) 0 0) { more = wanted }
left_form (Err refusal) = answer_form (Err refusal) 0 0

abbrev pub Leaves : (Result Bool Refusal → HostState → HostState → Type 0) → Option HostState → Option HostState → AnswerForm → Type 0
Leaves does (Some old) (Some new) answer = (r : Result Bool Refusal) × does r old new × (answer ≡ left_form r)
Leaves does _ _ answer = ⊥

-- the status that says why there is no trace
abbrev pub trace_status : Refusal → ℕ
trace_status CoreBusy = 11
trace_status _ = 4

-- C gets the trace from the byte `start` on, or the status that says why there is none.
abbrev pub TracesAs : Result (List ℕ) Refusal → ℕ → List ℕ → List ℕ → ℕ → ℕ → Type 0
TracesAs (Ok text) start old new told status = (status ≡ 0) × TellsText text start old new told
TracesAs (Err refusal) start old new told status = (status ≡ trace_status refusal) × (new ≡ old)

-- rule: The trace that a caller reports is that of the history of all callers, for which it takes the core and gives it
--   back.
--   clauses: evlsim_c_caller_trace
-- A caller was there, and is: it took the kernel and gave it back, or found it taken.
abbrev pub Traces : ℕ → ℕ → Option HostState → Option HostState → List ℕ → List ℕ → ℕ → Type 0
Traces status start (Some old) (Some new) buffer told count =
    (r : Result (List ℕ) Refusal) × Steps (λ a b. TellsTrace old.machine r a b) old.staxes old.mutexes old new × TracesAs r start buffer told count status
Traces status start _ _ buffer told count = ⊥

-- C gets a reading, or learns that the kernel is taken.
abbrev pub AsksAs : Result ReadingForm Refusal → ReadingForm → ℕ → Type 0
AsksAs (Ok reading) told status = (status ≡ 0) × (told ≡ reading)
AsksAs (Err refusal) told status = status ≡ 11

-- rule: C's view of a question to a caller is what the kernel's history and state say in one take, which enters
--   nothing; 11 comes exactly of a core that another has.
--   clauses: evlsim_c_caller_ask
-- A caller was there, and is: it took the kernel, which answered this, and gave it back, or found it taken.
abbrev pub Asks : ℕ → QuestionForm → Option HostState → Option HostState → ReadingForm → Type 0
Asks status question (Some old) (Some new) told =
    (r : Result ReadingForm Refusal) × Steps (λ a b. Looks old.machine (λ kernel. reading_of kernel question) r a b) old.staxes old.mutexes old new × AsksAs r told status
Asks status question _ _ told = ⊥
