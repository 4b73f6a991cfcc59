-- The calls of steps, and what is set up, step by step.
use Rattle.std.proofs.Common.{◌≡◌, ◌<◌, ◌≤◌, ℕ, ◌+◌, Bool, true, false, List, [], ◌∷◌, ◌++◌, length, get_or, take, drop, Some, None, Ok, Err, refl, sym, ◌∙◌, ap, append_assoc}
use Rattle.std.specs.Prelude.{Option, Result, if◌then◌else◌}
use Rattle.std.proofs.lemmas.List.{append-nil, drop_all, drop_more, take_more}
use Rattle.lab_callers_text.specs.declared.acts.CallersStep.{CallersStep}
use Rattle.lab_step_orders.specs.declared.calls.WordCall.{WordCall}
use Rattle.lab_step_texts.specs.Calls.{call_of, calls_from, made_by, may_attach, unattached, with_call}
use Rattle.lab_step_texts.specs.declared.calls.CallerCall.{CallerCall}
use Rattle.lab_step_texts.specs.declared.calls.CallsFault.{CallsFault}
use Rattle.lab_step_texts.specs.declared.calls.CallsFault.TheVariants.{Step, Memory}
use Rattle.lab_step_texts.specs.declared.faults.StepFault.{StepFault}

-- calls before those of a list, if it has a fault its fault
abbrev pub prefixed : List CallerCall → Result (List CallerCall) (ℕ × StepFault) → Result (List CallerCall) (ℕ × StepFault)
prefixed calls (Ok rest) = Ok (calls ++ rest)
prefixed calls (Err fault) = Err fault

pub prefixed_none : (r : Result (List CallerCall) (ℕ × StepFault)) → prefixed [] r ≡ r
prefixed_none (Ok rest) = refl
prefixed_none (Err fault) = refl

-- one call more
pub prefixed_more : (calls : List CallerCall) (call : WordCall) (n : ℕ) (step : CallersStep) (r : Result (List CallerCall) (ℕ × StepFault))
    → prefixed calls (with_call (Ok call) n step r) ≡ prefixed (calls ++ made_by step call ∷ []) r
prefixed_more calls call n step (Ok rest) = ap (λ (xs : List CallerCall). Ok xs) (sym (append_assoc calls (made_by step call ∷ []) rest))
prefixed_more calls call n step (Err fault) = refl

-- the element at a place, with what is before it and after it
split_at : {A : Type 0} (xs : List A) (i : ℕ) (x : A) → i < length xs → x ≡ get_or xs i x → (drop i xs ≡ x ∷ drop (i + 1) xs) × (take (i + 1) xs ≡ take i xs ++ x ∷ [])
split_at {A} xs i x within at =
    (drop_more xs i x within ∙ ap (λ (y : A). y ∷ drop (i + 1) xs) (sym at), take_more xs i x within ∙ ap (λ (y : A). take i xs ++ y ∷ []) (sym at))

-- what calls come to with those of the steps from a place on
abbrev pub calls_to : ℕ → List CallersStep → ℕ → List CallerCall → Result (List CallerCall) (ℕ × StepFault)
calls_to threads steps i calls = prefixed calls (calls_from threads (i + 1) (take i steps) (drop i steps))

-- a step that is a call
pub calls_on : (threads i : ℕ) (steps : List CallersStep) (step : CallersStep) (calls next : List CallerCall) (call : WordCall) (all : Result (List CallerCall) (ℕ × StepFault))
    → i < length steps → step ≡ get_or steps i step → call_of threads (take i steps) step ≡ Ok call → next ≡ calls ++ made_by step call ∷ []
    → calls_to threads steps i calls ≡ all → calls_to threads steps (i + 1) next ≡ all
calls_on threads i steps step calls next call all within at is more so =
    let split = split_at steps i step within at in
    let rest = calls_from threads (i + 1 + 1) (take i steps ++ step ∷ []) (drop (i + 1) steps) in
    (λ j. prefixed (more j) (calls_from threads (i + 1 + 1) (split.1 j) (drop (i + 1) steps)))
    ∙ (sym (prefixed_more calls call (i + 1) step rest)
    ∙ (sym (ap (λ (r : Result WordCall StepFault). prefixed calls (with_call r (i + 1) step rest)) is)
    ∙ (sym (ap (λ (left : List CallersStep). prefixed calls (calls_from threads (i + 1) (take i steps) left)) split.0)
    ∙ so)))

-- no step is left
pub calls_end : (threads i : ℕ) (steps : List CallersStep) (calls : List CallerCall) (all : Result (List CallerCall) (ℕ × StepFault))
    → length steps ≤ i → calls_to threads steps i calls ≡ all → all ≡ Ok calls
calls_end threads i steps calls all past so =
    sym so
    ∙ (ap (λ (left : List CallersStep). prefixed calls (calls_from threads (i + 1) (take i steps) left)) (drop_all i steps past)
    ∙ ap (λ (xs : List CallerCall). Ok xs) (append-nil calls))

-- a step that is no call
abbrev told_at : CallsFault → Result (List CallerCall) (ℕ × StepFault)
told_at (Step n fault) = Err (n, fault)
told_at Memory = Ok []

pub calls_fail : (threads i n : ℕ) (steps : List CallersStep) (step : CallersStep) (calls : List CallerCall) (why fault : StepFault) (all : Result (List CallerCall) (ℕ × StepFault))
    → i < length steps → step ≡ get_or steps i step → call_of threads (take i steps) step ≡ Err why → calls_to threads steps i calls ≡ all
    → Step (i + 1) why ≡ Step n fault → all ≡ Err (n, fault)
calls_fail threads i n steps step calls why fault all within at is so told =
    let split = split_at steps i step within at in
    let rest = calls_from threads (i + 1 + 1) (take i steps ++ step ∷ []) (drop (i + 1) steps) in
    sym so
    ∙ (ap (λ (left : List CallersStep). prefixed calls (calls_from threads (i + 1) (take i steps) left)) split.0
    ∙ (ap (λ (r : Result WordCall StepFault). prefixed calls (with_call r (i + 1) step rest)) is
    ∙ ap told_at told))

-- ---- what is set up

-- the first of the steps from a place on that may not be set up
abbrev pub unattached_from : ℕ → List CallersStep → ℕ → Option ℕ
unattached_from threads setup i = unattached threads (i + 1) (take i setup) (drop i setup)

-- at a step that may, or may not
unattached_at : (threads i : ℕ) (setup : List CallersStep) (step : CallersStep) → i < length setup → step ≡ get_or setup i step
    → unattached_from threads setup i ≡ (if may_attach threads (take i setup) step then unattached_from threads setup (i + 1) else Some (i + 1))
unattached_at threads i setup step within at =
    let split = split_at setup i step within at in
    ap (λ (left : List CallersStep). unattached threads (i + 1) (take i setup) left) split.0
    ∙ ap (λ (before : List CallersStep). if may_attach threads (take i setup) step then unattached threads (i + 1 + 1) before (drop (i + 1) setup) else Some (i + 1)) (sym split.1)

pub attached_on : (threads i : ℕ) (setup : List CallersStep) (step : CallersStep) (all : Option ℕ) → i < length setup → step ≡ get_or setup i step
    → may_attach threads (take i setup) step ≡ true → unattached_from threads setup i ≡ all → unattached_from threads setup (i + 1) ≡ all
attached_on threads i setup step all within at may so =
    sym (unattached_at threads i setup step within at ∙ ap (λ (b : Bool). if b then unattached_from threads setup (i + 1) else Some (i + 1)) may) ∙ so

pub attached_fails : (threads i : ℕ) (setup : List CallersStep) (step : CallersStep) (all : Option ℕ) → i < length setup → step ≡ get_or setup i step
    → may_attach threads (take i setup) step ≡ false → unattached_from threads setup i ≡ all → Some (i + 1) ≡ all
attached_fails threads i setup step all within at may so =
    sym (unattached_at threads i setup step within at ∙ ap (λ (b : Bool). if b then unattached_from threads setup (i + 1) else Some (i + 1)) may) ∙ so

pub attached_end : (threads i : ℕ) (setup : List CallersStep) (all : Option ℕ) → length setup ≤ i → unattached_from threads setup i ≡ all → None ≡ all
attached_end threads i setup all past so = sym (ap (λ (left : List CallersStep). unattached threads (i + 1) (take i setup) left) (drop_all i setup past)) ∙ so
