-- Facts of words, of who holds them, and of who has the core, and what is asked of each moment.
use Rattle.std.specs.Prelude.{ℕ, zero, suc, ◌==◌, Bool, false, not, ◌&&◌, ◌||◌, if◌then◌else◌, is_none, length, List, slice_get}
use Rattle.std.specs.List.{list_all}
use Rattle.std.specs.Option.{option_map_or}
use Rattle.evl_base.specs.declared.stage.Stage.{Stage}
use Rattle.evl_words.specs.GateWord.{mark_in}
use Rattle.evl_words.specs.MutexBits.{number_in}
use Rattle.lab_scenario_orders.specs.Facts.{is_stage}
use Rattle.lab_scenario_orders.specs.Watches.{is_noted_by}
use Rattle.lab_step_orders.specs.Cores.{has_core}
use Rattle.lab_step_orders.specs.Programs.{stage_of}
use Rattle.lab_step_orders.specs.Seen.{Seen}
use Rattle.lab_step_orders.specs.Words.{Shared, holds}
use Rattle.lab_step_orders.specs.declared.crews.Crew.{Crew}
use Rattle.lab_step_orders.specs.declared.watches.StepClaim.{StepClaim}
use Rattle.lab_step_orders.specs.declared.watches.StepFact.{StepFact}
use Rattle.lab_step_orders.specs.declared.watches.StepFact.TheVariants.{HoldsStax, HeldOn, StaxClaimed, HoldsMutex, MutexFree, MutexClaimed, HasCore, CoreFree}
use Rattle.lab_step_orders.specs.declared.watches.StepWatch.{StepWatch}

-- some number below n passes
unfoldable pub any_below : (ℕ → Bool) → ℕ → Bool
any_below test zero = false
any_below test (suc n) = any_below test n || test n

-- a caller holds a stax and is on this stage; some caller does
abbrev pub is_one_on : Crew → Stage → Shared → ℕ → Bool
is_one_on c stage g k = holds g k && is_stage stage (stage_of c k)

abbrev pub is_on : Crew → Stage → Shared → Bool
is_on c stage g = any_below (is_one_on c stage g) (length c.callers.items)

-- there is a word at this place, and it passes
abbrev pub at_word : (Shared → Bool) → List Shared → ℕ → Bool
at_word test words i = option_map_or test (slice_get words i) false

-- rule: For each question about moments the first order to one as it looks for is reported, a shortest one; if none is,
--   no moment of any run that was gone through is so. Facts are functions of the words, of who holds them, of the
--   callers' stages and of who has the core.
--   also: Facts.is_noted; Outcomes.{asked, each}; Reports.states_text
--   clauses: step_outcomes_of; write_step_report
--   rows: a_mutex_is_claimed_while_its_claimer_has_the_core; nobody_meets_another_stage_in_a_stax
abbrev pub is_so : Crew → Seen → StepFact → Bool
is_so c s (HoldsStax who stax) = at_word (λ shared. holds shared who.0) s.gates stax.0
is_so c s (HeldOn stax stage) = at_word (is_on c stage) s.gates stax.0
is_so c s (StaxClaimed stax) = at_word (λ shared. mark_in shared.word) s.gates stax.0
is_so c s (HoldsMutex who mutex) = at_word (λ shared. holds shared who.0) s.mutexes mutex.0
is_so c s (MutexFree mutex) = at_word (λ shared. number_in shared.word == 0) s.mutexes mutex.0
is_so c s (MutexClaimed mutex) = at_word (λ shared. mark_in shared.word) s.mutexes mutex.0
is_so c s (HasCore who) = has_core s.core who.0
is_so c s CoreFree = is_none s.core

abbrev pub is_claimed : Crew → Seen → StepClaim → Bool
is_claimed c s claim = if claim.is_so then is_so c s claim.fact else not (is_so c s claim.fact)

abbrev pub are_all_so : Crew → Seen → List StepClaim → Bool
are_all_so c s claims = list_all (is_claimed c s) claims

-- a moment is as is looked for: the facts are so, or, where they are asked for at each moment, they aren't
abbrev pub is_noted : Crew → Seen → StepWatch → Bool
is_noted c s watch = is_noted_by watch.when (are_all_so c s watch.claims.items)

-- of the question with this number
abbrev pub is_noted_at : Crew → ℕ → Seen → Bool
is_noted_at c n s = option_map_or (is_noted c s) (slice_get c.watches.items n) false
