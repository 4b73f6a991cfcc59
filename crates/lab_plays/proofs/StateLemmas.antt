-- The report of the state of a scenario's machine, or of its fault.
use Rattle.std.proofs.Common.{◌≡◌, ◌≢◌, ◌⊎◌, inl, inr, ℕ, List, ◌++◌, codes, decimal, Option, Result, Ok, Err, IfOk, refl, sym, subst}
use Rattle.std.specs.Prelude.{IsSomeAnd}
use Rattle.std.specs.Io.KnownBytes.{Appends}
use Rattle.evl_kernel.specs.state.States.{Handler}
use Rattle.evl_scenario.specs.Scenarios.{Script}
use Rattle.evl_scenario.specs.declared.faults.Fault.{Fault}
use Rattle.evl_scenario.specs.declared.faults.Fault.TheVariants.{Text, Board, Step, Memory, Write}
use Rattle.lab_kinds.specs.declared.kinds.TextKind.{TextKind}
use Rattle.lab_plays.specs.Plays.{Tells, Told, ends_ill, ends_well}
use Rattle.lab_plays.proofs.PlayLemmas.{only_said, told_as}
use Rattle.lab_json.specs.Runs.{moments_json}
use Rattle.lab_streams.specs.Endings.{kinded_words, line_about, words_by}
use Rattle.lab_plays.specs.States.{TellsScript}

-- of one that was read
pub whole_told : (E : Type 0) (bank : List Handler) (name : List ℕ) (kind : TextKind) (script : Script) (read : Result Script Fault)
    (old new quiet spoken : Option (List ℕ)) (r : Result ℕ E) → read ≡ Ok script
    → IfOk r (Tells (λ told. told ≡ ends_well name (moments_json name bank read)) old new quiet spoken)
    → IfOk r (Tells (TellsScript bank name kind read) old new quiet spoken)
whole_told E bank name kind script read old new quiet spoken r is t =
    told_as E (TellsScript bank name kind read) (λ told. told ≡ ends_well name (moments_json name bank read)) old new quiet spoken r
    (λ told h. subst (λ (x : Result Script Fault). told ≡ ends_well name (moments_json name bank x) → TellsScript bank name kind x told) (sym is) (λ k. k) h) t

-- and of one that is refused
pub fault_told : (bank : List Handler) (name : List ℕ) (kind : TextKind) (read : Result Script Fault) (e : Fault) (old quiet spoken : Option (List ℕ))
    → (e ≡ Memory) ⊎ (read ≡ Err e) → IsSomeAnd (kinded_words kind e) (λ words. Appends quiet spoken (line_about name words))
    → Tells (TellsScript bank name kind read) old old quiet spoken 2
fault_told bank name kind read Text old quiet spoken (inr is) says =
    rw is (only_said (TellsScript bank name kind (Err Text)) (ends_ill name (words_by kind (codes "bad text"))) old quiet spoken refl refl says)
fault_told bank name kind read Board old quiet spoken (inr is) says =
    rw is (only_said (TellsScript bank name kind (Err Board)) (ends_ill name (words_by kind (codes "bad board"))) old quiet spoken refl refl says)
fault_told bank name kind read (Step n) old quiet spoken (inr is) says =
    rw is (only_said (TellsScript bank name kind (Err (Step n))) (ends_ill name (words_by kind (codes "bad step " ++ decimal n))) old quiet spoken refl refl says)
fault_told bank name kind read Memory old quiet spoken any says = absurd says
fault_told bank name kind read Write old quiet spoken any says = absurd says
fault_told bank name kind read Text old quiet spoken (inl is) says = cc
fault_told bank name kind read Board old quiet spoken (inl is) says = cc
fault_told bank name kind read (Step n) old quiet spoken (inl is) says = cc
