-- The program's use of its words.
use Rattle.std.specs.Prelude.{◌≡◌, ◌≢◌, ◌⊎◌, ℕ, List, [], ◌∷◌, Bool, true, false, Option, None, Some, Result, Ok, Err}
use Rattle.clap.specs.Words.{IsAmong, Kinds, Text, fault_of}
use Rattle.clap.specs.declared.error.kind.ErrorKind.{ErrorKind}
use Rattle.clap.specs.declared.error.kind.ErrorKind.TheVariants.{DisplayHelp, OutOfMemory}
use Rattle.evl_kernel.specs.state.States.{Handler}
use Rattle.evl_scenario.specs.declared.faults.Fault.TheVariants.{Memory, Write}
use Rattle.evl_shell.specs.declared.plays.Stop.{Stop}
use Rattle.evl_shell.specs.declared.plays.Stop.TheVariants.{Broken}
use Rattle.evl_shell.specs.Plays.{Plays, said, status, stop_line}
use Rattle.evl_shell.specs.Sinks.{Takes}
use Rattle.evl_shell.specs.Arguments.{file_of, grammar, limit_of}

-- what is known of the bytes that are read: those of the input, and nothing of a named file's
abbrev pub source : Option Text → Option (List ℕ) → Option (List ℕ)
source None known = known
source (Some file) known = None

-- the end of one who had only a text to write
abbrev pub ended_by : Bool → Result (Unit {0}) Stop
ended_by false = Ok tt
ended_by true = Err (Broken Write)

-- a text was written whole, or a front part where the sink has failed
pub record Helps (text : Text) (old new : Option (List ℕ)) (failed : Bool) (quiet spoken : Option (List ℕ)) (mute : Bool) (answer : ℕ) : Type 0 where
  pub tells : Takes old new text failed
  pub status_is : answer ≡ status (ended_by failed)
  pub says : Takes quiet spoken (said (ended_by failed)) mute

-- nothing was written, and something was said
pub record Declines (text : Text) (old new : Option (List ℕ)) (failed : Bool) (quiet spoken : Option (List ℕ)) (mute : Bool) (wanted answer : ℕ) : Type 0 where
  pub nothing : new ≡ old
  pub working : failed ≡ false
  pub status_is : answer ≡ wanted
  pub says : Takes quiet spoken text mute

-- rule: Want of memory while words are read or the bank is made is status 4.
--   clauses: play_program: answers
-- what becomes of words that are refused for a reason, or that ask for help; the texts are clap's, and not empty
abbrev pub TurnsAwayFor : ErrorKind → Option (List ℕ) → Option (List ℕ) → Bool → Option (List ℕ) → Option (List ℕ) → Bool → ℕ → Type 0
TurnsAwayFor DisplayHelp old new failed quiet spoken mute answer = (text : Text) × (text ≢ []) × Helps text old new failed quiet spoken mute answer
TurnsAwayFor OutOfMemory old new failed quiet spoken mute answer = Declines (stop_line (Broken Memory)) old new failed quiet spoken mute 4 answer
TurnsAwayFor other old new failed quiet spoken mute answer = (text : Text) × (text ≢ []) × Declines text old new failed quiet spoken mute 3 answer

-- the same, or memory ran out before
abbrev pub TurnsAway : ErrorKind → Option (List ℕ) → Option (List ℕ) → Bool → Option (List ℕ) → Option (List ℕ) → Bool → ℕ → Type 0
TurnsAway kind old new failed quiet spoken mute answer =
    TurnsAwayFor OutOfMemory old new failed quiet spoken mute answer ⊎ TurnsAwayFor kind old new failed quiet spoken mute answer

-- the same for one of the reasons
pub record Refused (kinds : Kinds) (old new : Option (List ℕ)) (failed : Bool) (quiet spoken : Option (List ℕ)) (mute : Bool) (answer : ℕ) : Type 0 where
  pub kind : ErrorKind
  pub among : (kind ≡ OutOfMemory) ⊎ IsAmong kind kinds
  pub turned : TurnsAwayFor kind old new failed quiet spoken mute answer

-- by the reasons why the words are no words of the program: where there are none, a scenario is played
abbrev pub AnswersBy : Kinds → Option Text → Option ℕ → List Handler → Option (List ℕ) → Option (List ℕ) → Option (List ℕ) → Bool
    → Option (List ℕ) → Option (List ℕ) → Bool → ℕ → Type 0
AnswersBy [] file limit bank known old new failed quiet spoken mute answer = Plays bank limit (source file known) old new failed quiet spoken mute answer
AnswersBy (kind ∷ kinds) file limit bank known old new failed quiet spoken mute answer = Refused (kind ∷ kinds) old new failed quiet spoken mute answer

-- rule: Faults of the words go first, then the input's, then the scenario's.
--   also: Programs.{AnswersBy, Helps}
--   rows: refuses_words; tells_help
-- refusals: play
--   order: those of the words (status 3), then a FILE that cannot be opened or a failed read, then run's
--   also: Plays.Ended
-- what the program does with its words, of which the first is its name; `mute` is whether `err` has failed
abbrev pub Answers : List Text → List Handler → Option (List ℕ) → Option (List ℕ) → Option (List ℕ) → Bool → Option (List ℕ) → Option (List ℕ) → Bool → ℕ → Type 0
Answers words bank known old new failed quiet spoken mute answer =
    AnswersBy (fault_of grammar words) (file_of words) (limit_of words) bank known old new failed quiet spoken mute answer

-- the same over an error stream of which nobody knows whether it has failed
abbrev pub AnswersAtLeast : List Text → List Handler → Option (List ℕ) → Option (List ℕ) → Option (List ℕ) → Bool → Option (List ℕ) → Option (List ℕ) → ℕ → Type 0
AnswersAtLeast words bank known old new failed quiet spoken answer = (mute : Bool) × Answers words bank known old new failed quiet spoken mute answer

-- as `AnswersAtLeast`, of a scenario that was played
abbrev pub PlaysAtLeast : List Handler → Option ℕ → Option (List ℕ) → Option (List ℕ) → Option (List ℕ) → Bool → Option (List ℕ) → Option (List ℕ) → ℕ → Type 0
PlaysAtLeast bank given known old new failed quiet spoken answer = (mute : Bool) × Plays bank given known old new failed quiet spoken mute answer
