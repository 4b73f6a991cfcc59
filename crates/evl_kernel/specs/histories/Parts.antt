-- The deeds of each element by itself in a run of the kernel.
use Rattle.std.specs.Prelude.{ℕ, ◌≡◌, List, ◌++◌, All, map, flat_map, Option, Some, Result, slice_get}
use Rattle.evl_base.specs.declared.refusal.Refusal.{Refusal}
use Rattle.evl_base.specs.declared.call.Call.{Call}
use Rattle.evl_base.specs.declared.reply.Reply.{Reply}
use Rattle.evl_base.specs.declared.play.Play.{Play}
use Rattle.evl_base.specs.declared.entry.Entry.{Entry}
use Rattle.evl_kernel.specs.state.States.{State, Elements}
use Rattle.evl_kernel.specs.calls.Effects.{Answered, Made, Runs}
use Rattle.evl_kernel.specs.calls.Semaphores.{semaphore}
use Rattle.evl_kernel.specs.calls.FlagGroups.{flag_group}
use Rattle.evl_kernel.specs.calls.CrossBuffers.{cross_buffer}
use Rattle.evl_kernel.specs.calls.Mutexes.{mutex}
use Rattle.evl_kernel.specs.calls.Elements.{Touch, elements, element, part, its_sem, its_flags, its_xbuf, its_mutex}
use Rattle.evl_kernel.specs.calls.Serving.{what_call_does}
use Rattle.evl_kernel.specs.histories.Histories.{Step, History, opened_kernel, IsLegal}
use Rattle.evl_kernel.specs.histories.Replays.{outcomes, touches_of, led_to, touches}

-- a legal history is what its entries replay to
abbrev pub HistoriesAreReplayed : Type 0
HistoriesAreReplayed =
    (h : History) → IsLegal h
    → (map (λ o. o.reply) (outcomes (opened_kernel h) h.entries) ≡ map (λ e. e.reply) h.entries)
    × (flat_map (λ o. o.plays) (outcomes (opened_kernel h) h.entries) ≡ h.plays)
    × (led_to (opened_kernel h) h.entries ≡ h.state)

-- nothing but their own steps changes the elements, and each step was answered by the elements as they stood
abbrev pub ElementsRunByThemselves : Type 0
ElementsRunByThemselves = (h : History) → IsLegal h → Runs element (elements (opened_kernel h)) (touches h) (elements h.state)

-- the part of one element is a run of its machine, from its opening record to the one at the end
abbrev pub RunsByItself : {X P : Type 0} → (X → P → Answered X) → (Elements → Option X) → (Touch → Option (Made P)) → Type 0
RunsByItself {X} machine its own =
    (h : History) → IsLegal h → (x : X) → its (elements (opened_kernel h)) ≡ Some x
    → (y : X) × (its (elements h.state) ≡ Some y) × Runs machine x (part own (touches h)) y

abbrev pub SemaphoresRunByThemselves : Type 0
SemaphoresRunByThemselves = (n : ℕ) → RunsByItself semaphore (λ e. slice_get e.sems n) (its_sem n)

abbrev pub FlagGroupsRunByThemselves : Type 0
FlagGroupsRunByThemselves = (n : ℕ) → RunsByItself flag_group (λ e. slice_get e.flags n) (its_flags n)

abbrev pub CrossBuffersRunByThemselves : Type 0
CrossBuffersRunByThemselves = (n : ℕ) → RunsByItself cross_buffer (λ e. slice_get e.xbufs n) (its_xbuf n)

abbrev pub MutexesRunByThemselves : Type 0
MutexesRunByThemselves = (n : ℕ) → RunsByItself mutex (λ e. slice_get e.mutexes n) (its_mutex n)

-- the steps of elements that a call itself makes are by its caller, and were answered as the caller was
abbrev pub CallsAreAnsweredByElements : Type 0
CallsAreAnsweredByElements =
    (old : State) (caller : ℕ) (asked : Call) (reply : Result Reply Refusal) (plays : List Play) (new : State)
    → Step old caller asked reply plays new → All (λ t. (t.by ≡ Some caller) × (t.answer ≡ reply)) (what_call_does old caller asked).touches

-- a history goes on from another by these entries
pub record GoesOnBy (old : History) (more : List Entry) (new : History) : Type 0 where
  pub board : new.board ≡ old.board
  pub bank : new.bank ≡ old.bank
  pub entries : new.entries ≡ old.entries ++ more

-- the part of a history that goes on from another begins with that one's part
abbrev pub PartGrows : {P : Type 0} → (Touch → Option (Made P)) → Type 0
PartGrows own =
    (old new : History) (more : List Entry) → IsLegal old → GoesOnBy old more new
    → part own (touches new) ≡ part own (touches old) ++ part own (touches_of old.state more)

abbrev pub PartsGrow : Type 0
PartsGrow = (n : ℕ) → PartGrows (its_sem n) × PartGrows (its_flags n) × PartGrows (its_xbuf n) × PartGrows (its_mutex n)
