-- There are as many mutexes as the board has.
use Rattle.std.proofs.Common.{◌≡◌, ◌≤◌, ℕ, List, [], ◌∷◌, length, Option, Some, None, option_map, Ok, Err, refl, sym, ap, ◌∙◌, arith}
use Rattle.std.specs.Option.{option_map_or}
use Rattle.std.proofs.lemmas.List.{length-map, length-set}
use Rattle.std.proofs.lemmas.Option.{slice_get_past}
use Rattle.evl_base.specs.declared.numbers.ThreadId.{ThreadId}
use Rattle.evl_base.specs.declared.reply.Reply.{Reply}
use Rattle.evl_mutex.specs.Mutexes.{Mutex as MutexRecorded, opened_mutex as opened_mutex}
use Rattle.evl_mutex.specs.Owners.{owner_at}
use Rattle.evl_kernel.specs.state.States.{Elements}
use Rattle.evl_kernel.specs.calls.Effects.{Answered, Made, Runs, if_done}
use Rattle.evl_kernel.specs.calls.Semaphores.{semaphore as sem_machine}
use Rattle.evl_kernel.specs.calls.FlagGroups.{flag_group}
use Rattle.evl_kernel.specs.calls.CrossBuffers.{cross_buffer}
use Rattle.evl_kernel.specs.calls.Mutexes.{mutex as mutex_machine}
use Rattle.evl_kernel.specs.calls.Elements.{ElementStep, on_sem, on_flags, on_xbuf, on_mutex, element, elements}
use Rattle.evl_kernel.specs.histories.Histories.{History, IsLegal, opened_kernel}
use Rattle.evl_kernel.specs.histories.Replays.{touches}
use Rattle.evl_kernel.specs.calls.MutexEffects.{record_at}
use Rattle.evl_kernel.proofs.calls.ElementSteps.{nth-made}
use Rattle.evl_kernel.proofs.calls.ElementLaws.{elements_run}

abbrev count_in : Elements → ℕ
count_in e = length e.mutexes

-- no step makes a mutex, or takes one away
count_made : (e after : Elements) (reply : Reply) (step : ElementStep) → element e step ≡ Ok (reply, after) → count_in after ≡ count_in e
count_made e after reply (on_sem n step) is = sym (ap count_in (nth-made sem_machine (λ xs. record e { sems = xs }) e.sems n step reply after is).after_is)
count_made e after reply (on_flags n step) is = sym (ap count_in (nth-made flag_group (λ xs. record e { flags = xs }) e.flags n step reply after is).after_is)
count_made e after reply (on_xbuf n step) is = sym (ap count_in (nth-made cross_buffer (λ xs. record e { xbufs = xs }) e.xbufs n step reply after is).after_is)
count_made e after reply (on_mutex n step) is =
    let made = nth-made mutex_machine (λ xs. record e { mutexes = xs }) e.mutexes n step reply after is in
    sym (ap count_in made.after_is) ∙ length-set e.mutexes n made.left

count_after : (e : Elements) (step : ElementStep) → count_in (if_done e (element e step)) ≡ count_in e
count_after e step = by (element e step) refl
  where
    by : (a : Answered Elements) → element e step ≡ a → count_in (if_done e a) ≡ count_in e
    by (Ok (reply, after)) is = count_made e after reply step is
    by (Err refusal) is = refl

count_along : (e : Elements) (made : List (Made ElementStep)) (after : Elements) → Runs element e made after → count_in after ≡ count_in e
count_along e [] after run = ap count_in run
count_along e (one ∷ others) after run = count_along (if_done e (element e one.step)) others after run.1 ∙ count_after e one.step

-- the readers report nobody for a mutex that the board doesn't have
module _ (h : History) (legal : IsLegal h) (n : ℕ) (out : length h.board.mutexes.items ≤ n) where
  count_is : length h.state.elements.mutexes ≡ length h.board.mutexes.items
  count_is = count_along (elements (opened_kernel h)) (touches h) (elements h.state) (elements_run h legal) ∙ length-map h.board.mutexes.items opened_mutex

  no_mutex : record_at h.state n ≡ None
  no_mutex = slice_get_past h.state.elements.mutexes n (omega (arith, out, count_is))

  no_owner : owner_at (record_at h.state n) ≡ None
  no_owner = ap owner_at no_mutex

  pub nobody_owns : (owner : Option ThreadId) → option_map (λ (t : ThreadId). t.0) owner ≡ owner_at (record_at h.state n) → owner ≡ None
  nobody_owns None told = refl
  nobody_owns (Some t) told = absurd (some_none (told ∙ no_owner))
    where
      some_none : Some t.0 ≡ None → ⊥
      some_none e = cc

  pub nobody_awaits : option_map_or (λ (m : MutexRecorded). length m.waiters) (record_at h.state n) 0 ≡ 0
  nobody_awaits = ap (λ (o : Option MutexRecorded). option_map_or (λ (m : MutexRecorded). length m.waiters) o 0) no_mutex
