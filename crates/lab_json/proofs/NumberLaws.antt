-- Numbers below a limit that pass a test, and who waits, one after another.
use Rattle.std.proofs.Common.{◌≡◌, ◌∙◌, ◌++◌, ◌∷◌, ◌+◌, ℕ, zero, suc, Bool, true, false, cond, List, [], drop, filter, length, append-nil, append_assoc, add-one, refl, sym, ap, Some, None, slice_get}
use Rattle.std.proofs.lemmas.List.{length-append}
use Rattle.std.proofs.lemmas.List.Elements.{filter-append}
use Rattle.lab_json.specs.Parts.{numbers_below}

pub below_none : (passes : ℕ → Bool) → filter passes (numbers_below 0) ≡ []
unfolding numbers_below
below_none passes = refl

below_next : (passes : ℕ → Bool) (n : ℕ) → filter passes (numbers_below (n + 1)) ≡ filter passes (numbers_below n) ++ filter passes (n ∷ [])
unfolding numbers_below
below_next passes n = ap (λ (k : ℕ). filter passes (numbers_below k)) (add-one n) ∙ filter-append passes (numbers_below n) (n ∷ [])

one_kept : (passes : ℕ → Bool) (n : ℕ) → passes n ≡ true → filter passes (n ∷ []) ≡ n ∷ []
one_kept passes n is = ap (λ (b : Bool). cond b (n ∷ []) []) is

none_kept : (passes : ℕ → Bool) (n : ℕ) → passes n ≡ false → filter passes (n ∷ []) ≡ []
none_kept passes n not = ap (λ (b : Bool). cond b (n ∷ []) []) not

-- one that passes, and one that doesn't
pub below_more : (passes : ℕ → Bool) (n : ℕ) → passes n ≡ true → filter passes (numbers_below (n + 1)) ≡ filter passes (numbers_below n) ++ n ∷ []
below_more passes n is = below_next passes n ∙ ap (λ (ns : List ℕ). filter passes (numbers_below n) ++ ns) (one_kept passes n is)

pub below_same : (passes : ℕ → Bool) (n : ℕ) → passes n ≡ false → filter passes (numbers_below (n + 1)) ≡ filter passes (numbers_below n)
below_same passes n not =
    below_next passes n ∙ ap (λ (ns : List ℕ). filter passes (numbers_below n) ++ ns) (none_kept passes n not) ∙ append-nil (filter passes (numbers_below n))

-- ---- who waits, from a place on

at_next : (queue : List ℕ) (k x : ℕ) → slice_get queue k ≡ Some x → drop k queue ≡ x ∷ drop (suc k) queue
at_next [] k x at = cc
at_next (y ∷ ys) zero x at = cc
at_next (y ∷ ys) (suc k) x at = at_next ys k x at

at_none : (queue : List ℕ) (k : ℕ) → slice_get queue k ≡ None → drop k queue ≡ []
at_none [] zero at = refl
at_none [] (suc k) at = refl
at_none (y ∷ ys) zero at = cc
at_none (y ∷ ys) (suc k) at = at_none ys k at

-- one more, and no more
pub waited_more : (queue done more : List ℕ) (x : ℕ) → done ++ drop (length done) queue ≡ queue → slice_get queue (length done) ≡ Some x → more ≡ done ++ x ∷ []
    → more ++ drop (length more) queue ≡ queue
waited_more queue done more x so at is =
    let long : length more ≡ suc (length done) = ap length is ∙ length-append done (x ∷ []) ∙ add-one (length done) in
    (λ i. is i ++ drop (long i) queue)
    ∙ append_assoc done (x ∷ []) (drop (suc (length done)) queue)
    ∙ ap (λ (r : List ℕ). done ++ r) (sym (at_next queue (length done) x at))
    ∙ so

pub waited_all : (queue done : List ℕ) → done ++ drop (length done) queue ≡ queue → slice_get queue (length done) ≡ None → done ≡ queue
waited_all queue done so at = sym (append-nil done) ∙ ap (λ (r : List ℕ). done ++ r) (sym (at_none queue (length done) at)) ∙ so
