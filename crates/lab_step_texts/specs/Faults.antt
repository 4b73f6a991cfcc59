-- Why a step isn't gone through.
use Rattle.std.specs.Prelude.{ℕ, List, [], ◌++◌, codes, decimal, Option, Some, None, option_map}
use Rattle.lab_scenario_orders.specs.WatchTexts.{when_key}
use Rattle.lab_step_texts.specs.declared.faults.StepFault.{StepFault}
use Rattle.lab_step_texts.specs.declared.faults.StepFault.TheVariants.{Who, Setup, Core, Pass}
use Rattle.lab_step_texts.specs.declared.faults.Unread.{Unread}

abbrev pub step_words : StepFault → List ℕ
step_words Who = codes "who: there is no such thread"
step_words Setup = codes "what is set up is attach, once a thread, as fifo or rr"
step_words Core = codes "it keeps the core, attaches or detaches its caller, changes its stage or policy, names a mutex's owner, or answers bytes; any other call is known"
step_words Pass = codes "pass: no step of its caller before it has this name for such a lock"

-- a text that isn't facts, with what may be meant
abbrev pub unread_text : ℕ → List ℕ → Option (List ℕ) → List ℕ
unread_text number key None = codes "text " ++ (decimal number ++ (codes " of " ++ (key ++ codes " isn't facts, as \"T1 has the core and mutex 0 claimed\"")))
unread_text number key (Some word) =
    codes "text " ++ (decimal number ++ (codes " of " ++ (key
    ++ (codes " isn't facts, as \"T1 has the core and mutex 0 claimed\"; did you mean \"" ++ (word ++ codes "\"?")))))

abbrev pub unread_words : Unread → List ℕ
unread_words unread = unread_text unread.number (when_key unread.when) (option_map (λ word. word.now) unread.meant)
