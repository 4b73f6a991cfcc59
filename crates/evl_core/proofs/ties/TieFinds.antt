-- All that the ties exclude, over the kernel: in a visit a release by the owner and a raise of what was free are accepted, and a wait that is over finds the word as the kernel says.
use Rattle.std.proofs.Common.{◌≡◌, ◌<◌, ℕ, Bool, true, not, List, Option, Some, None, is_some, option_map, Result, Ok, refl, ◌∙◌}
use Rattle.std.specs.Option.{option_map_or}
use Rattle.evl_base.specs.Board.{board_fits}
use Rattle.evl_base.specs.declared.call.Call.TheVariants.{Release, Raise}
use Rattle.evl_base.specs.declared.numbers.MutexId.{MutexId}
use Rattle.evl_base.specs.declared.play.Play.{Play}
use Rattle.evl_base.specs.declared.refusal.Refusal.{Refusal}
use Rattle.evl_base.specs.declared.reply.Reply.{Reply}
use Rattle.evl_base.specs.declared.stage.Stage.TheVariants.{Inband, Oob}
use Rattle.evl_mutex.specs.Mutexes.{Mutex, is_open_to}
use Rattle.evl_sched.specs.declared.seat.Seat.{Seat}
use Rattle.evl_sched.specs.Threads.{is_attached, seat_at, stage_of}
use Rattle.evl_words.specs.MutexBits.{offers_to}
use Rattle.evl_kernel.specs.declared.waits.Wait.{Wait}
use Rattle.evl_kernel.specs.declared.waits.Awaited.TheVariants.{Mutex as OnMutex}
use Rattle.evl_kernel.specs.state.States.{State}
use Rattle.evl_kernel.specs.waiting.Waits.{has_ended, has_timed_out, wait_at}
use Rattle.evl_kernel.specs.histories.Histories.{History, IsLegal, Step}
use Rattle.evl_kernel.specs.calls.MutexEffects.{record_at}
use Rattle.evl_kernel.specs.histories.WaitOwners.{awaited_at}
use Rattle.evl_kernel.proofs.calls.MutexEffects.{mutex_calls_pass}
use Rattle.evl_kernel.proofs.histories.MutexEnds.{waits_end_rightly}
use Rattle.evl_core.specs.rule.Ties.{AreTied}
use Rattle.evl_core.proofs.ties.TieRecords.{raise_finds, accept_finds}

-- who waits for nothing has no unfinished wait
idle : (s : State) (k : ℕ) → awaited_at s k ≡ None → wait_at s k ≡ None
idle s k e = by (wait_at s k) e
  where
    by : (o : Option Wait) → option_map (λ (w : Wait). w.on) o ≡ None → o ≡ None
    by None e = refl
    by (Some w) e = absurd (cc)

oob_attached : (s : State) (k : ℕ) → stage_of s.sched k ≡ Oob → is_attached s.sched k ≡ true
oob_attached s k e = by (seat_at s.sched k) e
  where
    by : (o : Option Seat) → option_map_or (λ (seat : Seat). seat.stage) o Inband ≡ Oob → is_some o ≡ true
    by None e = absurd (cc)
    by (Some seat) e = refl

module _ (ceilings : ℕ → Bool) (s : State) (k : ℕ) (there : k < s.threads) (waits_not : awaited_at s k ≡ None) where
  -- the records don't refuse the owner's release: what a take showed suffices
  pub release_passes : (id : MutexId) (m : Mutex) (r : Result Reply Refusal) (plays : List Play) (new : State) → record_at s id.0 ≡ Some m → is_open_to k m ≡ true → Step s k (Release id) r plays new → (reply : Reply) × (r ≡ Ok reply)
  release_passes id m r plays new here unclaimed step = (mutex_calls_pass s k there (idle s k waits_not)).release id m r plays new here unclaimed step

  -- nor the raise of a mutex with a ceiling whose word was 0, by a thread out-of-band
  pub raise_passes : (id : MutexId) (m : Mutex) (r : Result Reply Refusal) (plays : List Play) (new : State) → record_at s id.0 ≡ Some m → ceilings id.0 ≡ true → AreTied ceilings s id.0 0 → stage_of s.sched k ≡ Oob → Step s k (Raise id) r plays new → (reply : Reply) × (r ≡ Ok reply)
  raise_passes id m r plays new here ceiling tied oob step =
      (mutex_calls_pass s k there (idle s k waits_not)).raise id m r plays new here ((tied m here).0 ∙ ceiling) (raise_finds ceilings id.0 s m tied here) (oob_attached s k oob) step

-- a wait for a mutex that is over: the word offers it where the kernel says that the thread got it, and doesn't where the deadline came first
pub over_finds : (ceilings : ℕ → Bool) (h : History) → IsLegal h → board_fits h.board ≡ true → (k : ℕ) (id : MutexId) (m : Mutex) (word : ℕ) → record_at h.state id.0 ≡ Some m → AreTied ceilings h.state id.0 word → awaited_at h.state k ≡ Some (OnMutex id) → has_ended h.state k ≡ true
    → offers_to word k ≡ not (has_timed_out h.state k)
over_finds ceilings h legal fits k id m word here tied on over = accept_finds ceilings id.0 h.state m word k tied here ∙ waits_end_rightly h legal fits k id on over
