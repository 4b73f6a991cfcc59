-- The program's use of its words.
use Rattle.std.proofs.Common.{◌≡◌, ◌≢◌, ◌⊎◌, ◌≤◌, inl, inr, ℕ, List, [], ◌∷◌, length, map, option_map, is_some, Bool, Option, Some, None, Result, Err, refl, sym, subst, arith}
use Rattle.std.specs.Borrow.{Bor}
use Rattle.clap.specs.Words.{IsAmong, Kinds, Text, fault_of}
use Rattle.clap.specs.declared.error.kind.ErrorKind.{ErrorKind}
use Rattle.clap.specs.declared.error.kind.ErrorKind.TheVariants.{DisplayHelp, OutOfMemory}
use Rattle.clap.proofs.OnLiterals.{clap_on_literals}
use Rattle.evl_kernel.specs.state.States.{Handler}
use Rattle.evl_scenario.specs.declared.faults.Fault.TheVariants.{Memory}
use Rattle.evl_shell.specs.declared.plays.Stop.{Stop}
use Rattle.evl_shell.specs.declared.plays.Stop.TheVariants.{Broken}
use Rattle.evl_shell.specs.Plays.{Ended, Plays, stop_line}
use Rattle.evl_shell.specs.Programs.{Answers, AnswersBy, Declines, TurnsAway, TurnsAwayFor, source}
use Rattle.evl_shell.specs.Arguments.{file_of, grammar, limit_of}
use Rattle.evl_shell.proofs.EndLemmas.{ended-unread}

-- whether a file is named
pub some-mapped : (file : Option (Bor Text)) → is_some (option_map (λ s. s.now) file) ≡ is_some file
some-mapped None = refl
some-mapped (Some path) = refl

-- what is read where the words name no file
pub asked-input : (file : Option (Bor Text)) (bank : List Handler) (given : Option ℕ) (known old new : Option (List ℕ)) (failed : Bool) (end : Result (Unit {0}) Stop)
    → file ≡ None → Ended bank given known old new failed end → Ended bank given (source (option_map (λ s. s.now) file) known) old new failed end
asked-input None bank given known old new failed end is e = e
asked-input (Some path) bank given known old new failed end is e = cc

-- and where they name one
pub asked-file : (file : Option (Bor Text)) (path : Bor Text) (bank : List Handler) (given : Option ℕ) (known old new : Option (List ℕ)) (failed : Bool)
    (end : Result (Unit {0}) Stop) → file ≡ Some path → Ended bank given None old new failed end
    → Ended bank given (source (option_map (λ s. s.now) file) known) old new failed end
asked-file None path bank given known old new failed end is e = cc
asked-file (Some named) path bank given known old new failed end is e = e

-- memory ran out before anything was written
by_memory : (kinds : Kinds) (file : Option Text) (limit : Option ℕ) (bank : List Handler) (known old new : Option (List ℕ)) (failed : Bool)
    (quiet spoken : Option (List ℕ)) (mute : Bool) (answer : ℕ) → Declines (stop_line (Broken Memory)) old new failed quiet spoken mute 4 answer
    → AnswersBy kinds file limit bank known old new failed quiet spoken mute answer
by_memory [] file limit bank known old new failed quiet spoken mute answer it =
    let P : Option (List ℕ) → Type 0 = λ told. Plays bank limit (source file known) old told failed quiet spoken mute answer in
    subst P (sym it.nothing) (record {
      end = Err (Broken Memory);
      ended = ended-unread bank limit (source file known) old failed (Broken Memory) it.working (inr refl);
      status_is = it.status_is;
      says = it.says;
    })
by_memory (kind ∷ kinds) file limit bank known old new failed quiet spoken mute answer it = record { kind = OutOfMemory; among = inl refl; turned = it }

pub answers-memory : (words : List Text) (bank : List Handler) (known old new : Option (List ℕ)) (failed : Bool) (quiet spoken : Option (List ℕ)) (mute : Bool) (answer : ℕ)
    → Declines (stop_line (Broken Memory)) old new failed quiet spoken mute 4 answer → Answers words bank known old new failed quiet spoken mute answer
answers-memory words bank known old new failed quiet spoken mute answer it =
    by_memory (fault_of grammar words) (file_of words) (limit_of words) bank known old new failed quiet spoken mute answer it

-- words that ask for no play
by_kind : (kinds : Kinds) (file : Option Text) (limit : Option ℕ) (bank : List Handler) (known old new : Option (List ℕ)) (failed : Bool)
    (quiet spoken : Option (List ℕ)) (mute : Bool) (answer : ℕ) (kind : ErrorKind) → (kind ≡ OutOfMemory) ⊎ IsAmong kind kinds
    → TurnsAwayFor kind old new failed quiet spoken mute answer → AnswersBy kinds file limit bank known old new failed quiet spoken mute answer
by_kind [] file limit bank known old new failed quiet spoken mute answer kind (inl memory) it =
    let P : ErrorKind → Type 0 = λ k. TurnsAwayFor k old new failed quiet spoken mute answer in
    by_memory [] file limit bank known old new failed quiet spoken mute answer (subst P memory it)
by_kind [] file limit bank known old new failed quiet spoken mute answer kind (inr none) it = absurd none
by_kind (first ∷ kinds) file limit bank known old new failed quiet spoken mute answer kind why it = record { kind = kind; among = why; turned = it }

pub turned : (kinds : Kinds) (file : Option Text) (limit : Option ℕ) (bank : List Handler) (known old new : Option (List ℕ)) (failed : Bool)
    (quiet spoken : Option (List ℕ)) (mute : Bool) (answer : ℕ) (kind : ErrorKind) → (kind ≡ OutOfMemory) ⊎ IsAmong kind kinds
    → TurnsAway kind old new failed quiet spoken mute answer → AnswersBy kinds file limit bank known old new failed quiet spoken mute answer
turned kinds file limit bank known old new failed quiet spoken mute answer kind why away = elim away [
  | inl memory ↦ by_memory kinds file limit bank known old new failed quiet spoken mute answer memory
  | inr it ↦ by_kind kinds file limit bank known old new failed quiet spoken mute answer kind why it
]

-- words that are refused for another reason than these two
pub refused_for : (kind : ErrorKind) (text : Text) (old new : Option (List ℕ)) (failed : Bool) (quiet spoken : Option (List ℕ)) (mute : Bool) (answer : ℕ)
    → kind ≢ DisplayHelp → kind ≢ OutOfMemory → text ≢ [] → Declines text old new failed quiet spoken mute 3 answer → TurnsAwayFor kind old new failed quiet spoken mute answer
refused_for DisplayHelp text old new failed quiet spoken mute answer no_help in_memory filled it = absurd (no_help refl)
refused_for OutOfMemory text old new failed quiet spoken mute answer no_help in_memory filled it = absurd (in_memory refl)
refused_for kind text old new failed quiet spoken mute answer no_help in_memory filled it = (text, filled, it)

-- words that ask for a play
pub played : (kinds : Kinds) (file asked : Option Text) (limit given : Option ℕ) (bank : List Handler) (known old new : Option (List ℕ)) (failed : Bool)
    (quiet spoken : Option (List ℕ)) (mute : Bool) (answer : ℕ) → kinds ≡ [] → asked ≡ file → given ≡ limit
    → Plays bank given (source asked known) old new failed quiet spoken mute answer → AnswersBy kinds file limit bank known old new failed quiet spoken mute answer
played [] file asked limit given bank known old new failed quiet spoken mute answer none named under it =
    let P : Option Text → Type 0 = λ f. Plays bank given (source f known) old new failed quiet spoken mute answer in
    let Q : Option ℕ → Type 0 = λ l. Plays bank l (source file known) old new failed quiet spoken mute answer in
    subst Q under (subst P named it)
played (kind ∷ kinds) file asked limit given bank known old new failed quiet spoken mute answer none named under it = cc

-- without words after the program's name the input is played under its own limit
pub plainly : (words : List (Bor Text)) (bank : List Handler) (known old new : Option (List ℕ)) (failed : Bool) (quiet spoken : Option (List ℕ)) (mute : Bool) (answer : ℕ)
    → length words ≤ 1 → Answers (map (λ s. s.now) words) bank known old new failed quiet spoken mute answer → Plays bank None known old new failed quiet spoken mute answer
unfolding clap_on_literals
plainly [] bank known old new failed quiet spoken mute answer few it = it
plainly (name ∷ []) bank known old new failed quiet spoken mute answer few it = it
plainly (name ∷ word ∷ rest) bank known old new failed quiet spoken mute answer few it = absurd (omega (arith, few))
