-- The mutexes that a seat owns, has seized or is offered change by its own steps alone.
use Rattle.std.proofs.Common.{◌≡◌, ℕ, ◌≢◌, eqb, ne_eqb, Bool, true, false, List, refl, sym, ◌∙◌, subst}
use mathlib.Core.Logic.{dite}
use native.Mathlib.Decide.{ℕ_discrete}
use Rattle.std.specs.Prelude.{if◌then◌else◌}
use Rattle.evl_words.specs.declared.mutex.MutexCall.{MutexCall}
use Rattle.evl_words.specs.declared.mutex.MutexCall.TheVariants.{Try, Unlock, Claim, Settle, Offer, Free, Accept, Forget, SeenOffer}
use Rattle.evl_words.specs.declared.history.View.{View}
use Rattle.evl_words.specs.Machine.{Run}
use Rattle.evl_words.specs.History.{Fits}
use Rattle.evl_words.specs.MutexWorld.{mutex_author}
use Rattle.evl_words.specs.Mutex.{Mutex, MutexEntry, MutexStep, unowned, seized, owned, offered, mutex_may, mutex_change, is_owner, is_seizing, is_offered}
use Rattle.evl_words.proofs.Histories.{rest_by_others, run_of_others}

not_by : (by j : ℕ) → j ≢ by → eqb by j ≡ false
not_by by j ne = ne_eqb by j (λ e. ne (sym e))

-- what a seat owns, it owns until it gives it up
pub is_owner-change : (m : Mutex) (by j : ℕ) (call : MutexCall) → j ≢ by → mutex_may m by call → is_owner (mutex_change m by call) j ≡ is_owner m j
is_owner-change unowned by j Try ne may = not_by by j ne
is_owner-change (seized h) by j Try ne may = refl
is_owner-change (owned h marked) by j Try ne may = refl
is_owner-change (offered h marked) by j Try ne may = refl
is_owner-change m by j Unlock ne may = subst (λ n. is_owner (mutex_change n by Unlock) j ≡ is_owner n j) (sym may.1) (go may.0)
  where
    go : (b : Bool) → is_owner (if b then owned by b else unowned) j ≡ eqb by j
    go true = refl
    go false = sym (not_by by j ne)
is_owner-change unowned by j Claim ne may = refl
is_owner-change (seized h) by j Claim ne may = refl
is_owner-change (owned h marked) by j Claim ne may = refl
is_owner-change (offered h marked) by j Claim ne may = refl
is_owner-change m by j Settle ne may = rw may (not_by by j ne)
is_owner-change m by j (Offer next more) ne may = rw may.1 (sym (not_by by j ne))
is_owner-change m by j Free ne may = rw may.1 (sym (not_by by j ne))
is_owner-change unowned by j Accept ne may = refl
is_owner-change (seized h) by j Accept ne may = refl
is_owner-change (owned h marked) by j Accept ne may = refl
is_owner-change (offered h marked) by j Accept ne may = go (eqb h by)
  where
    go : (b : Bool) → is_owner (if b then owned by marked else offered h marked) j ≡ false
    go true = not_by by j ne
    go false = refl
is_owner-change m by j Forget ne may = refl
is_owner-change m by j SeenOffer ne may = refl

-- an offer lasts until its seat accepts it
pub is_offered-change : (m : Mutex) (by j : ℕ) (call : MutexCall) → j ≢ by → mutex_may m by call → is_offered m j ≡ true → is_offered (mutex_change m by call) j ≡ true
is_offered-change unowned by j Try ne may at = cc
is_offered-change (seized h) by j Try ne may at = cc
is_offered-change (owned h marked) by j Try ne may at = cc
is_offered-change (offered h marked) by j Try ne may at = at
is_offered-change m by j Unlock ne may at = absurd (let e : false ≡ true = rw may.1 at at in cc)
is_offered-change unowned by j Claim ne may at = cc
is_offered-change (seized h) by j Claim ne may at = cc
is_offered-change (owned h marked) by j Claim ne may at = cc
is_offered-change (offered h marked) by j Claim ne may at = at
is_offered-change m by j Settle ne may at = absurd (let e : false ≡ true = rw may at at in cc)
is_offered-change m by j (Offer next more) ne may at = absurd (let e : false ≡ true = rw may.1 at at in cc)
is_offered-change m by j Free ne may at = absurd (let e : false ≡ true = rw may.1 at at in cc)
is_offered-change unowned by j Accept ne may at = cc
is_offered-change (seized h) by j Accept ne may at = cc
is_offered-change (owned h marked) by j Accept ne may at = cc
is_offered-change (offered h marked) by j Accept ne may at =
    let here : h ≡ j = dite (ℕ_discrete h j) (λ e. e) (λ n. absurd (let q = ne_eqb h j n in cc)) in
    rw (ne_eqb h by (λ (e : h ≡ by). ne (sym here ∙ e))) at
is_offered-change m by j Forget ne may at = at
is_offered-change m by j SeenOffer ne may at = at

-- an offer that a seat has seen is still there, whatever the others did since
pub offer_stands : {H : Type 0} (k : ℕ) (log : List MutexEntry) (v : View MutexEntry H) (fits : Fits mutex_author log k v) → (s t : Mutex) → is_offered s k ≡ true → Run MutexStep s fits.seen.0 t → is_offered t k ≡ true
offer_stands k log v fits s t at run =
    run_of_others mutex_author MutexStep (λ m. is_offered m k ≡ true) k (λ m e u ne at' step. subst (λ n. is_offered n k ≡ true) (sym step.after) (is_offered-change m e.by k e.call (λ q. ne (sym q)) step.may at')) s t fits.seen.0
    (rest_by_others mutex_author k log v fits) at run

-- who is seizing stays so until it settles
pub is_seizing-change : (m : Mutex) (by j : ℕ) (call : MutexCall) → j ≢ by → mutex_may m by call → is_seizing (mutex_change m by call) j ≡ is_seizing m j
is_seizing-change unowned by j Try ne may = refl
is_seizing-change (seized h) by j Try ne may = refl
is_seizing-change (owned h marked) by j Try ne may = refl
is_seizing-change (offered h marked) by j Try ne may = refl
is_seizing-change m by j Unlock ne may = subst (λ n. is_seizing (mutex_change n by Unlock) j ≡ is_seizing n j) (sym may.1) (go may.0)
  where
    go : (b : Bool) → is_seizing (if b then owned by b else unowned) j ≡ false
    go true = refl
    go false = refl
is_seizing-change unowned by j Claim ne may = not_by by j ne
is_seizing-change (seized h) by j Claim ne may = refl
is_seizing-change (owned h marked) by j Claim ne may = refl
is_seizing-change (offered h marked) by j Claim ne may = refl
is_seizing-change m by j Settle ne may = rw may (sym (not_by by j ne))
is_seizing-change m by j (Offer next more) ne may = rw may.1 refl
is_seizing-change m by j Free ne may = rw may.1 refl
is_seizing-change unowned by j Accept ne may = refl
is_seizing-change (seized h) by j Accept ne may = refl
is_seizing-change (owned h marked) by j Accept ne may = refl
is_seizing-change (offered h marked) by j Accept ne may = go (eqb h by)
  where
    go : (b : Bool) → is_seizing (if b then owned by marked else offered h marked) j ≡ false
    go true = refl
    go false = refl
is_seizing-change m by j Forget ne may = refl
is_seizing-change m by j SeenOffer ne may = refl
