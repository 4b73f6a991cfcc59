-- There are as many places for waits as the board has threads.
use Rattle.std.proofs.Common.{◌≡◌, ◌≤◌, ℕ, zero, suc, false, List, [], ◌∷◌, length, Option, None, is_some, refl, ap, ◌∙◌, arith}
use Rattle.std.specs.Option.{option_map_or}
use Rattle.std.proofs.lemmas.List.{length-replicate, length-set}
use Rattle.evl_base.specs.declared.call.Call.{Call}
use Rattle.evl_kernel.specs.declared.waits.Wait.{Wait}
use Rattle.evl_kernel.specs.state.States.{State}
use Rattle.evl_kernel.specs.waiting.Waits.{wait_of, is_waiting, has_ended, has_timed_out, is_timeout}
use Rattle.evl_kernel.specs.histories.Histories.{History, IsLegal, opened_kernel}
use Rattle.evl_kernel.proofs.calls.ThreadSteps.{leaves-threads}
use Rattle.evl_kernel.proofs.waiting.WaitSteps.{KeptByWakes, kept-deadline, leaves-touched, leaves-beginning, leaves-finish, timed-by}
use Rattle.evl_kernel.proofs.histories.StateWalk.{KeptByEach, KeptByOwn, run_holds}

module _ (n : ℕ) where
  abbrev HasPlaces : State → Type 0
  HasPlaces s = length s.waits ≡ n

  kept_waiting : KeptByWakes HasPlaces
  kept_waiting = record {
    changed = λ s e h. h;
    waiting = λ s thread wait h. length-set s.waits thread wait ∙ h;
    freed = λ s thread h. h;
    queued = λ s ready h. h;
  }

  kept_by_each : KeptByEach HasPlaces
  kept_by_each = record {
    lined = λ s q h. h;
    banked = λ s number home b h. h;
    clocked = λ s c same h. h;
    paid = λ s before delta now h. h;
    asked = λ s by step plain may h. leaves-touched HasPlaces kept_waiting s by step h;
    expired = λ s thread h. kept-deadline HasPlaces kept_waiting s thread h;
  }

  kept_by_own : (s : State) (caller : ℕ) (asked : Call) → KeptByOwn HasPlaces s caller asked
  kept_by_own s caller asked = record {
    threads = λ step is passed h. leaves-threads HasPlaces (λ s q h. h) s caller step h;
    begun = λ on until is passed h. leaves-beginning HasPlaces kept_waiting (timed-by HasPlaces kept_waiting (λ s h. h) (λ s thread until h. h)) s caller on until h;
    ended = λ keep is h. leaves-finish HasPlaces kept_waiting s caller keep (λ x hx. hx) h;
  }

pub places_are : (h : History) → IsLegal h → length h.state.waits ≡ h.board.threads
places_are h legal =
    run_holds (HasPlaces h.board.threads) (kept_by_each h.board.threads) (kept_by_own h.board.threads) (opened_kernel h) h.entries h.plays h.state (length-replicate h.board.threads None) legal

-- nobody waits past the last place
past_places : (waits : List (Option Wait)) (thread : ℕ) → length waits ≤ thread → wait_of waits thread ≡ None
past_places [] thread out = refl
past_places (x ∷ xs) zero out = absurd (omega (arith, out))
past_places (x ∷ xs) (suc thread) out = past_places xs thread (omega (arith, out))

-- the readers answer false for a thread that the board doesn't have
module _ (h : History) (legal : IsLegal h) (thread : ℕ) (out : h.board.threads ≤ thread) where
  nobody : wait_of h.state.waits thread ≡ None
  nobody = past_places h.state.waits thread (omega (arith, out, places_are h legal))

  pub nobody_waits : is_waiting h.state thread ≡ false
  nobody_waits = ap (λ (o : Option Wait). is_some o) nobody

  pub nobody_ended : has_ended h.state thread ≡ false
  nobody_ended = ap (λ (o : Option Wait). option_map_or (λ (w : Wait). is_some w.outcome) o false) nobody

  pub nobody_timed_out : has_timed_out h.state thread ≡ false
  nobody_timed_out = ap (λ (o : Option Wait). option_map_or (λ (w : Wait). option_map_or is_timeout w.outcome false) o false) nobody
