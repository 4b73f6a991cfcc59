-- The waits of those whom a cross-buffer served end one after another.
use Rattle.std.proofs.Common.{◌≡◌, ◌≤◌, ℕ, zero, suc, ◌+◌, ◌==◌, true, ◌||◌, List, [], ◌∷◌, Some, None, map, drop, length, slice_get, refl, sym, ap, ◌∙◌, arith}
use Rattle.std.proofs.lemmas.Bool.{eq-eqb, or_left, or_right}
use Rattle.std.proofs.lemmas.List.{drop_all, drop_more}
use Rattle.std.proofs.lemmas.Option.{get_or_from_slice_get, slice_get_within, none-some}
use Rattle.evl_xbuf.specs.Streams.{Service, Wrote, Got}
use Rattle.evl_kernel.specs.calls.CrossBuffers.{service_told}
use Rattle.evl_kernel.specs.waiting.Standing.{is_served}
use Rattle.evl_kernel.specs.state.States.{State}
use Rattle.evl_kernel.specs.waiting.Waits.{all_woken, woken}

first_woken : (s : State) (service : Service) (others : List Service)
    → all_woken s (map service_told (service ∷ others)) ≡ all_woken (woken s (service_told service).0 (service_told service).1) (map service_told others)
first_woken s (Wrote thread) others = refl
first_woken s (Got thread bytes) others = refl

-- with the service at this place
module _ (services : List Service) (place : ℕ) (service : Service) (here : slice_get services place ≡ Some service) where
  from_here : drop place services ≡ service ∷ drop (place + 1) services
  from_here = drop_more services place service (slice_get_within services place service here) ∙ ap (λ (x : Service). x ∷ drop (place + 1) services) (get_or_from_slice_get services place service service here)

  pub itself_served : is_served (service_told service).0 (map service_told (drop place services)) ≡ true
  itself_served =
      ap (λ (xs : List Service). is_served (service_told service).0 (map service_told xs)) from_here
      ∙ or_left ((service_told service).0 == (service_told service).0) _ (eq-eqb (service_told service).0 (service_told service).0 refl)

  pub later_served : (t : ℕ) → is_served t (map service_told (drop (place + 1) services)) ≡ true → is_served t (map service_told (drop place services)) ≡ true
  later_served t is = ap (λ (xs : List Service). is_served t (map service_told xs)) from_here ∙ or_right ((service_told service).0 == t) _ is

  pub later_woken : (s t : State) → t ≡ woken s (service_told service).0 (service_told service).1
      → all_woken t (map service_told (drop (place + 1) services)) ≡ all_woken s (map service_told (drop place services))
  later_woken s t is =
      ap (λ (x : State). all_woken x (map service_told (drop (place + 1) services))) is
      ∙ (sym (first_woken s service (drop (place + 1) services)) ∙ sym (ap (λ (xs : List Service). all_woken s (map service_told xs)) from_here))

-- and with none
outside : (services : List Service) (place : ℕ) → slice_get services place ≡ None → length services ≤ place
outside [] place none = omega arith
outside (one ∷ others) zero none = absurd (none-some _ (sym none))
outside (one ∷ others) (suc place) none = omega (arith, outside others place none)

pub beyond_all : (services : List Service) (place : ℕ) → slice_get services place ≡ None → drop (place + 1) services ≡ drop place services
beyond_all services place none =
    let past = outside services place none in
    drop_all (place + 1) services (omega (arith, past)) ∙ sym (drop_all place services past)
