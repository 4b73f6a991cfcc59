-- The owner of a mutex after a claim on it.
use Rattle.std.proofs.Common.{◌≡◌, ◌≢◌, ℕ, ◌-◌, ◌==◌, ◌&&◌, Bool, true, false, [], ◌∷◌, refl, sym, ap, ◌∙◌, eq-eqb, ne_eqb}
use Rattle.std.specs.Prelude.{if◌then◌else◌, not}
use Rattle.evl_words.specs.MutexBits.{number_in}
use Rattle.evl_words.specs.declared.mutex.MutexReply.TheVariants.{Won, Seizing, Queued}
use Rattle.evl_words.specs.MutexWorld.{claims, owns, role_claimed}
use Rattle.lab_step_orders.specs.Words.{along, mutex_view}

claim_held : (word k : ℕ) (held : Bool) → (not (word == 0) && held) ≡ (along k (claims ∷ []) word held).1
claim_held word k held = by (word == 0) (number_in word == 0) held where
  by : (zero some h : Bool) → (not zero && h) ≡ owns (role_claimed (if zero then Won else if some then Seizing else Queued (number_in word - 1)) (mutex_view h).held.role)
  by true some h = refl
  by false true true = refl
  by false true false = refl
  by false false true = refl
  by false false false = refl

pub claim_queues : (word k : ℕ) (held : Bool) → word ≢ 0 → held ≡ (along k (claims ∷ []) word held).1
claim_queues word k held ne = sym (ap (λ (b : Bool). not b && held) (ne_eqb word 0 ne)) ∙ claim_held word k held

pub claim_wins : (word k : ℕ) (held : Bool) → word ≡ 0 → false ≡ (along k (claims ∷ []) word held).1
claim_wins word k held e = sym (ap (λ (b : Bool). not b && held) (eq-eqb word 0 e)) ∙ claim_held word k held
