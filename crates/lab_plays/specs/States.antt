-- The output of `lab play --states` for scenarios.
use Rattle.std.specs.Prelude.{◌≡◌, ◌≤◌, ◌⊎◌, ℕ, List, length, Option, IsSomeAnd, Result, Ok, Err}
use Rattle.evl_kernel.specs.state.States.{Handler}
use Rattle.evl_scenario.specs.Scenarios.{Script, scenario_of}
use Rattle.evl_scenario.specs.declared.faults.Fault.{Fault}
use Rattle.lab_kinds.specs.Kinds.{kind_of}
use Rattle.lab_kinds.specs.declared.kinds.TextKind.{TextKind}
use Rattle.lab_lines.specs.Kinds.{IsPlain}
use Rattle.lab_plays.specs.Plays.{Played, PlaysEach, Told, ends_ill, ends_well, says_ill}
use Rattle.lab_json.specs.Runs.{moments_json}
use Rattle.lab_streams.specs.Banks.{IsBank, Refuses}
use Rattle.lab_streams.specs.Endings.{kinded_words}
use Rattle.lab_streams.specs.Lines.{SaysUnread}
use Rattle.lab_streams.specs.Readings.{Reading, most_bytes, unread_words}
use Rattle.lab_streams.specs.Texts.{names_or_input}

-- of what a text of a kind is read as: its lines, or for which fault it is refused
abbrev pub TellsScript : List Handler → List ℕ → TextKind → Result Script Fault → Told → Type 0
TellsScript bank name kind (Ok script) told = told ≡ ends_well name (moments_json name bank (Ok script))
TellsScript bank name kind (Err e) told = IsSomeAnd (kinded_words kind e) (λ words. told ≡ ends_ill name words)

-- of a text, under a limit that may be handed in; of one of lines by its scenario, if it can be read
abbrev pub TellsGiven : List Handler → Option ℕ → List ℕ → List ℕ → Told → Type 0
TellsGiven bank limit name text told =
    ((plain : List ℕ) × IsPlain text plain × TellsScript bank name (kind_of plain) (scenario_of limit plain) told)
    ⊎ ((said : List ℕ) × SaysUnread name text said × (told ≡ says_ill said))

-- of a file, by what was read of it
abbrev pub TellsFile : List Handler → Option ℕ → List ℕ → Reading → Told → Type 0
TellsFile bank limit name (Ok text) told = (length text ≤ most_bytes) × TellsGiven bank limit name text told
TellsFile bank limit name (Err why) told = IsSomeAnd (unread_words why) (λ words. told ≡ ends_ill name words)

abbrev pub IsTold : List Handler → Option ℕ → Played → Type 0
IsTold bank limit p = TellsFile bank limit p.name p.text p.told

-- of files, or the input where none is named, over the callbacks of a bank's file or the program's
pub record TellsAll (file : Option (List ℕ)) (limit : Option ℕ) (names : List (List ℕ)) (known old new quiet spoken : Option (List ℕ)) (status : ℕ) : Type 0 where
  pub bank : List Handler
  pub is_bank : IsBank file bank
  pub tells : PlaysEach (IsTold bank limit) (names_or_input names) known old new quiet spoken status

-- rule: `lab play --states` prints these lines for each file in order, of a text of lines those of its scenario, over
--   the bank and under the limit, or nothing if the text is refused. Standard error has a line for each file: that it
--   is done, or why not.
--   also: States.{TellsAll, TellsGiven, TellsScript}
--   clauses: tell_states; tell_file; tell_whole
-- or that bank's file is refused
abbrev pub TellsUnlessRefused : Option (List ℕ) → Option ℕ → List (List ℕ) → Option (List ℕ) → Option (List ℕ) → Option (List ℕ) → Option (List ℕ) → Option (List ℕ) → ℕ → Type 0
TellsUnlessRefused file limit names known old new quiet spoken status =
    Refuses file old new quiet spoken status ⊎ TellsAll file limit names known old new quiet spoken status
