-- Records that mean the same.
use Rattle.std.proofs.Common.{◌≡◌, List, [], ◌∷◌, map, refl, ap, ◌∙◌}
use Rattle.evl_kernel.specs.declared.bank.BankPlace.{BankPlace}
use Rattle.evl_kernel.specs.state.Callbacks.{handler_of, is_home}
use Rattle.evl_kernel.specs.state.Renamed.{renamed, renamed_clock}
use Rattle.evl_kernel.specs.state.Records.{RecordsView, banked, number_of, state_of}

nothing : {A : Type 0} {x : A} {xs : List A} → [] ≡ x ∷ xs → ⊥
nothing e = cc

something : {A : Type 0} {x : A} {xs : List A} → x ∷ xs ≡ [] → ⊥
something e = cc

first_is : {A : Type 0} {x y : A} {xs ys : List A} → x ∷ xs ≡ y ∷ ys → x ≡ y
first_is e = cc

others_are : {A : Type 0} {x y : A} {xs ys : List A} → x ∷ xs ≡ y ∷ ys → xs ≡ ys
others_are e = cc

module _ {C : Type 0} where
  place_is : (p q : BankPlace C) → handler_of p ≡ handler_of q → is_home p ≡ is_home q → banked p ≡ banked q
  place_is p q h e = cc

  -- the places of a bank mean the same where the handlers are the same and the same ones are there
  pub banked-alike : (ps qs : List (BankPlace C)) → map handler_of ps ≡ map handler_of qs → map is_home ps ≡ map is_home qs → map banked ps ≡ map banked qs
  banked-alike [] [] h e = refl
  banked-alike [] (q ∷ qs) h e = absurd (nothing h)
  banked-alike (p ∷ ps) [] h e = absurd (something h)
  banked-alike (p ∷ ps) (q ∷ qs) h e =
      ap (λ b. b ∷ map banked ps) (place_is p q (first_is h) (first_is e)) ∙ ap (λ bs. banked q ∷ bs) (banked-alike ps qs (others_are h) (others_are e))

  -- records mean the same where each part does
  pub state-alike : (r s : RecordsView C) → r.threads ≡ s.threads → r.elements.elements ≡ s.elements.elements → map banked r.bank ≡ map banked s.bank
      → renamed number_of r.lines ≡ renamed number_of s.lines → renamed_clock number_of r.clock ≡ renamed_clock number_of s.clock
      → r.sched.sched ≡ s.sched.sched → r.waits ≡ s.waits → state_of r ≡ state_of s
  state-alike r s threads elements bank lines clock sched waits = cc

  homes_of : (ps qs : List (BankPlace C)) → map banked ps ≡ map banked qs → map is_home ps ≡ map is_home qs
  homes_of [] [] e = refl
  homes_of [] (q ∷ qs) e = absurd (nothing e)
  homes_of (p ∷ ps) [] e = absurd (something e)
  homes_of (p ∷ ps) (q ∷ qs) e =
      ap (λ b. b ∷ map is_home ps) (ap (λ b. b.home) (first_is e)) ∙ ap (λ bs. is_home q ∷ bs) (homes_of ps qs (others_are e))

  -- where records mean the same, the same callbacks are in their places
  pub homes-alike : (r s : RecordsView C) → state_of r ≡ state_of s → map is_home r.bank ≡ map is_home s.bank
  homes-alike r s e = homes_of r.bank s.bank (ap (λ t. t.bank) e)
