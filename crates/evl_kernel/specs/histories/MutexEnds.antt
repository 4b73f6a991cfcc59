-- A wait for a mutex ends by getting it, or by its deadline.
use Rattle.std.specs.Prelude.{◌≡◌, ℕ, true, not, ◌||◌, Bool, Option, Some}
use Rattle.std.specs.Option.{option_map_or}
use Rattle.evl_base.specs.Board.{board_fits}
use Rattle.evl_base.specs.declared.numbers.MutexId.{MutexId}
use Rattle.evl_kernel.specs.declared.waits.Awaited.TheVariants.{Mutex}
use Rattle.evl_kernel.specs.declared.waits.Wait.{Wait}
use Rattle.evl_kernel.specs.waiting.Waits.{has_ended, has_timed_out, is_timeout}
use Rattle.evl_kernel.specs.waiting.Endings.{is_of_mutex}
use Rattle.evl_kernel.specs.histories.Histories.{History, IsLegal}
use Rattle.evl_kernel.specs.histories.MutexRests.{is_done}
use Rattle.evl_kernel.specs.calls.MutexEffects.{has_got}
use Rattle.evl_kernel.specs.histories.WaitOwners.{awaited_at}

-- not for a mutex, or going on, or ended by getting it or by its deadline
abbrev pub ends_rightly : Option Wait → Bool
ends_rightly wait = option_map_or (λ w. not (is_of_mutex w.on) || option_map_or (λ o. is_done o || is_timeout o) w.outcome true) wait true

-- whose unfinished wait for a mutex is over has got it, unless the deadline came first
abbrev pub MutexWaitsEndRightly : Type 0
MutexWaitsEndRightly =
    (h : History) → IsLegal h → board_fits h.board ≡ true → (t : ℕ) (id : MutexId) → awaited_at h.state t ≡ Some (Mutex id) → has_ended h.state t ≡ true
    → has_got h.state id.0 t ≡ not (has_timed_out h.state t)
