-- All that is said of a trace, the kernel that is given back, and the callers of a machine that are set apart one after the other.
use Rattle.std.proofs.Common.{◌≡◌, ◌⊎◌, inl, inr, ℕ, List, [], ◌∷◌, ◌++◌, map, All, IfOk, IfErr, IsSomeAnd, Option, Some, Result, Ok, Err, String, Global, string_bytes, ap, subst, sym, ◌∙◌, refl, append_assoc}
use Rattle.std.proofs.lemmas.List.Elements.{All-map}
use Rattle.evl_base.specs.declared.refusal.Refusal.{Refusal}
use Rattle.evl_base.specs.declared.refusal.Refusal.TheVariants.{NoMemory}
use Rattle.evl_core.specs.worlds.Events.{Gives}
use Rattle.evl_machine.specs.calls.Calls.{TookKernel}
use Rattle.evl_machine.specs.callers.Handles.{CallerState, HeldState, MachineState, newcomer_of, newcomers_of}
use Rattle.evl_plans.specs.declared.planned.Planned.{Planned}
use Rattle.evl_words.specs.declared.gate.StaxPass.{StaxPass}
use Rattle.evl_words.specs.declared.mutex.MutexPass.{MutexPass}
use Rattle.evl_hosts.specs.Hosts.{HostState, bytes_of}
use Rattle.std.specs.List.{range_with_len}

-- a text that was written, or memory ran out
pub told : (r : Result (String Global) Refusal) (wanted said : List ℕ) → said ≡ wanted → IfOk r (λ text. string_bytes text ≡ said) → IfErr r (λ e. e ≡ NoMemory)
    → (bytes_of r ≡ Ok wanted) ⊎ (bytes_of r ≡ Err NoMemory)
told (Ok text) wanted said same ok err = inl (ap (λ (bytes : List ℕ). Ok bytes) (ok ∙ same))
told (Err e) wanted said same ok err = inr (ap (λ (why : Refusal). Err why) err)

-- one more is made of the next
pub made_more : {A B : Type 0} (f : A → B) (done new : List B) (b : B) (x : A) (had rest : List A) (all : List B) → had ≡ x ∷ rest → b ≡ f x → new ≡ done ++ b ∷ [] → done ++ map f had ≡ all → new ++ map f rest ≡ all
made_more {A} {B} f done new b x had rest all cut is made whole =
    ap (λ (ys : List B). ys ++ map f rest) made ∙ (append_assoc done (b ∷ []) (map f rest)
    ∙ (ap (λ (y : B). done ++ y ∷ map f rest) is ∙ (ap (λ (xs : List A). done ++ map f xs) (sym cut) ∙ whole)))

-- each caller of a new machine is of that machine
pub all_belong : (m : MachineState Planned) (n : ℕ) → All (λ c. c.machine ≡ m) (newcomers_of m n)
all_belong m n = All-map (λ (c : CallerState Planned). c.machine ≡ m) (newcomer_of m) (range_with_len 0 n) (λ k d below. refl)

-- the kernel is given back to the machine that it was taken from, which is that of a host's caller
pub given_back : (m : MachineState Planned) (had : Option (CallerState Planned)) (a : CallerState Planned) (h : HeldState Planned) (b : CallerState Planned) → had ≡ Some a
    → IsSomeAnd had (λ c. c.machine ≡ m) → TookKernel a h → Gives h.caller.machine.first h.caller.account h.caller.lock h.kernel b.account b.lock → Gives m.first h.caller.account h.caller.lock h.kernel b.account b.lock
given_back m had a h b is there took gives =
    let of_host : a.machine ≡ m = subst (λ (o : Option (CallerState Planned)). IsSomeAnd o (λ c. c.machine ≡ m)) is there in
    subst (λ (n : MachineState Planned). Gives n.first h.caller.account h.caller.lock h.kernel b.account b.lock) (ap (λ (c : CallerState Planned). c.machine) took.caller ∙ of_host) gives

-- a caller that has come so far, with these passes
pub kept : (m : MachineState Planned) (c : Option (CallerState Planned)) (staxes : List StaxPass) (was is : List MutexPass) → was ≡ is
    → ◌≡◌ {A = HostState} (record { machine = m; caller = c; staxes = staxes; mutexes = was }) (record { machine = m; caller = c; staxes = staxes; mutexes = is })
kept m c staxes was is same = λ i. record { machine = m; caller = c; staxes = staxes; mutexes = same i }
