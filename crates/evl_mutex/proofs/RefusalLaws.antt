-- All that was found at the number of a mutex, as the refusals look for it.
use Rattle.std.proofs.Common.{◌≡◌, ℕ, ◌<◌, ◌≤◌, ◌==◌, List, [], ◌∷◌, length, get_or, slice_get, Some, None, option_map, sym, ap, ◌∙◌, arith}
use Rattle.std.proofs.lemmas.Option.{slice_get-get_or, slice_get-map, slice_get_past}
use Rattle.std.proofs.lemmas.Bool.{eq-eqb, ne_eqb}
use Rattle.evl_mutex.specs.Queues.{is_nobody}
use Rattle.evl_mutex.specs.declared.waiter.Waiter.{Waiter}
use Rattle.evl_mutex.specs.declared.mutex_record.MutexRecord.{MutexRecord}
use Rattle.evl_mutex.specs.Views.{mutex_of, mutexes_of}

pub is-missing : {A : Type 0} (ms : List (MutexRecord A)) (n : ℕ) → length ms ≤ n → slice_get (mutexes_of ms) n ≡ None
is-missing ms n past = slice_get-map mutex_of ms n ∙ ap (option_map mutex_of) (slice_get_past ms n past)

pub is-found : {A : Type 0} (ms : List (MutexRecord A)) (n : ℕ) (m : MutexRecord A) → n < length ms → m ≡ get_or ms n m → slice_get (mutexes_of ms) n ≡ Some (mutex_of m)
is-found ms n m inside at = slice_get-map mutex_of ms n ∙ ap (option_map mutex_of) (slice_get-get_or ms n m inside ∙ ap Some (sym at))

pub nobody-counted : (ws : List Waiter) (n : ℕ) → n ≡ length ws → is_nobody ws ≡ (n == 0)
nobody-counted [] n e = sym (eq-eqb n 0 e)
nobody-counted (w ∷ ws) n e = sym (ne_eqb n 0 (λ none. omega arith))
