-- The answer to a line, after what was printed before.
use Rattle.std.proofs.Common.{inl, inr, ◌≡◌, ◌≢◌, ◌∙◌, ◌-◌, ◌++◌, ℕ, List, [], codes, length, Option, Some, None, is_some, option_map, Result, Ok, Err, OnOk, append-nil, refl, subst, ap}
use Rattle.std.specs.List.{slice_get}
use Rattle.std.specs.Option.{option_map_or}
use Rattle.std.proofs.lemmas.Bool.Decides.{eqb_tells}
use Rattle.evl_base.specs.declared.entry.Entry.{Entry}
use Rattle.evl_kernel.specs.histories.Histories.{History}
use Rattle.evl_scenario.specs.Scenarios.{Script}
use Rattle.evl_scenario.specs.Writings.{IsUnwritten, scenario_text, script_of_history}
use Rattle.evl_scenario.specs.declared.steps.Step.{Step}
use Rattle.evl_scenario.specs.declared.writing.Unwritten.{Unwritten}
use Rattle.lab_live.specs.Answers.{Answers, Does, GoesOn, Makes, MayGoOn, TellsScenario, TellsUnwritten, Undoes, undone_text}
use Rattle.lab_live.specs.Sessions.{Driven, MayEnter, MayTakeBack, TakesBack, TellsEntry, TellsFull, all_but_last}
use Rattle.lab_live.proofs.TellingLaws.{newest}

-- a step whose lines were printed has gone on, or found the history full
pub goes_on : {T E : Type 0} (r : Result T E) (old new : Driven) (step : Step) (before after : List ℕ)
    → OnOk r (length old.history.entries ≢ old.limit → TellsEntry old.history new.history step before after)
    → OnOk r (length old.history.entries ≡ old.limit → TellsFull old new step before after) → OnOk r (GoesOn old new before after)
goes_on (Err e) old new step before after entry full = tt
goes_on (Ok done) old new step before after entry full = elim (eqb_tells (length old.history.entries) old.limit) [
  | inl same ↦ inl (full same.1).same
  | inr other ↦ inr (inl (step, entry other.1))
]

pub may_go_on : (old new : History) (step : Step) → MayEnter old step new → MayGoOn old new
may_go_on old new step (inl same) = inl same
may_go_on old new step (inr enters) = inr (inl (step, enters))

-- ---- the last call, taken back

pub stays_back : (old new : Driven) → new ≡ old → MayTakeBack old new
stays_back old new same = inl same

pub takes_back : (old new : Driven) → TakesBack old new → MayTakeBack old new
takes_back old new back = inr back

pub goes_back : {T E : Type 0} (r : Result T E) (old new : Driven) (before after : List ℕ) → MayTakeBack old new → OnOk r (GoesOn old new before after)
goes_back (Err e) old new before after back = tt
goes_back (Ok done) old new before after (inl same) = inl same
goes_back (Ok done) old new before after (inr back) = inr (inr back)

pub may_go_back : (old new : Driven) → MayTakeBack old new → MayGoOn old.history new.history
may_go_back old new (inl same) = inl (ap (λ (d : Driven). d.history) same)
may_go_back old new (inr back) = inr (inr (back.entry, back.plays, back.extends))

pub board_back : (old new : Driven) → MayTakeBack old new → new.board ≡ old.board
board_back old new (inl same) = ap (λ (d : Driven). d.board) same
board_back old new (inr back) = back.board

pub limit_back : (old new : Driven) → MayTakeBack old new → new.limit ≡ old.limit
limit_back old new (inl same) = ap (λ (d : Driven). d.limit) same
limit_back old new (inr back) = back.limit

-- the answer says which call that was
pub undoes : (old new : Driven) (start own before after : List ℕ) → start ≡ []
    → own ≡ start ++ option_map_or undone_text (slice_get old.history.entries (length old.history.entries - 1)) [] → after ≡ before ++ own → TakesBack old new → Undoes old new before after
undoes old new start own before after none is told back =
    let last : slice_get old.history.entries (length old.history.entries - 1) ≡ Some back.entry =
    ap (λ (es : List Entry). slice_get es (length es - 1)) back.extends.entries ∙ newest new.history.entries back.entry in
    let text : own ≡ undone_text back.entry = is ∙ (λ i. none i ++ option_map_or undone_text (last i) []) in
    inl (back, told ∙ ap (λ (ls : List ℕ). before ++ ls) text)

-- or that there is none, or why it stays
pub undoes_none : (old new : Driven) (before after : List ℕ) → (new ≡ old) × (old.history.entries ≡ []) → after ≡ before ++ codes "! 1: nothing was asked so far\n" → Undoes old new before after
undoes_none old new before after none told = inr (none.0, inl (none.1, told))

pub undoes_unwritten : {T E : Type 0} (r : Result T E) (old new : Driven) (why : Unwritten) (before after : List ℕ)
    → (new ≡ old) × IsUnwritten why (script_of_history old.board old.limit (all_but_last old.history.entries))
    → OnOk r ((script : Script) → IsUnwritten why script → TellsUnwritten script before after) → OnOk r (Undoes old new before after)
undoes_unwritten (Err e) old new why before after none told = tt
undoes_unwritten (Ok done) old new why before after none told = inr (none.0, inr (told _ none.1))

-- ---- the scenario

pub scenario_unwritten : {T E : Type 0} (r : Result T E) (why : Unwritten) (script : Script) (before after : List ℕ) → IsUnwritten why script
    → OnOk r ((one : Script) → IsUnwritten why one → TellsUnwritten one before after) → OnOk r (TellsScenario script before after)
scenario_unwritten (Err e) why script before after is told = tt
scenario_unwritten (Ok done) why script before after is told = inr (told script is)

-- ---- words

-- an answer that is there just where a word's is, is there just for a word
pub is_word : {A B C D : Type 0} (f : A → B) (g : C → B) (h : D → C) (r : Option A) (o : Option D) → option_map f r ≡ option_map g (option_map h o) → is_some r ≡ is_some o
is_word f g h None None e = refl
is_word f g h None (Some d) e = cc
is_word f g h (Some a) None e = cc
is_word f g h (Some a) (Some d) e = refl

-- ---- the step that was asked for

pub makes : {T E : Type 0} (r : Result T E) (old new : Driven) (step : Step) (before after : List ℕ)
    → OnOk r (length old.history.entries ≢ old.limit → TellsEntry old.history new.history step before after)
    → OnOk r (length old.history.entries ≡ old.limit → TellsFull old new step before after) → OnOk r (Makes old new step before after)
makes (Err e) old new step before after entry full = tt
makes (Ok done) old new step before after entry full = record { entry = entry; full = full }

pub does_step : {T E : Type 0} (r : Result T E) (old new : Driven) (step : Step) (asked : Option Step) (before after : List ℕ) → Some step ≡ asked
    → OnOk r (Makes old new step before after) → OnOk r (Does old new asked before after)
does_step r old new step asked before after is made = subst (λ (o : Option Step). OnOk r (Does old new o before after)) is made

pub does_none : {T E : Type 0} (r : Result T E) (old new : Driven) (asked : Option Step) (before after : List ℕ) → None ≡ asked → new ≡ old
    → OnOk r (Does old new asked before after)
does_none (Err e) old new asked before after none same = tt
does_none (Ok done) old new asked before after none same = subst (λ (o : Option Step). Does old new o before after) none same

-- ---- lines of their own, which then were printed after a text

pub answered : (old new : Driven) (start lines before after : List ℕ) → start ≡ [] → GoesOn old new start lines → after ≡ before ++ lines → Answers old new before after
answered old new start lines before after none goes told = record {
  lines = lines;
  told = told;
  goes_on = let P : List ℕ → Type 0 = λ xs. GoesOn old new xs lines in subst P none goes;
}

pub told_none : (start lines before after : List ℕ) → start ≡ [] → lines ≡ start → after ≡ before ++ lines → after ≡ before
told_none start lines before after none same told = told ∙ ap (λ (xs : List ℕ). before ++ xs) (same ∙ none) ∙ append-nil before

pub told_behind : (start lines before after own : List ℕ) → start ≡ [] → lines ≡ start ++ own → after ≡ before ++ lines → after ≡ before ++ own
told_behind start lines before after own none same told =
    told ∙ ap (λ (xs : List ℕ). before ++ xs) (same ∙ ap (λ (xs : List ℕ). xs ++ own) none)

tells_unwritten : (script : Script) (start lines before after : List ℕ) → start ≡ [] → TellsUnwritten script start lines → after ≡ before ++ lines
    → TellsUnwritten script before after
tells_unwritten script start lines before after none (inl (long, why)) told = inl (long, told_behind start lines before after _ none why told)
tells_unwritten script start lines before after none (inr (other, why)) told = inr (other, told_behind start lines before after _ none why told)

pub tells_scenario : (script : Script) (start lines before after : List ℕ) → start ≡ [] → TellsScenario script start lines → after ≡ before ++ lines
    → TellsScenario script before after
tells_scenario script start lines before after none (inl text) told = inl (told_behind start lines before after (scenario_text script) none text told)
tells_scenario script start lines before after none (inr why) told = inr (tells_unwritten script start lines before after none why told)

pub undoes_behind : (old new : Driven) (start lines before after : List ℕ) → start ≡ [] → Undoes old new start lines → after ≡ before ++ lines → Undoes old new before after
undoes_behind old new start lines before after none (inl (back, is)) told = inl (back, told_behind start lines before after _ none is told)
undoes_behind old new start lines before after none (inr (same, inl (empty, is))) told = inr (same, inl (empty, told_behind start lines before after _ none is told))
undoes_behind old new start lines before after none (inr (same, inr why)) told =
    inr (same, inr (tells_unwritten (script_of_history old.board old.limit (all_but_last old.history.entries)) start lines before after none why told))

pub does_behind : (old new : Driven) (asked : Option Step) (start lines before after : List ℕ) → start ≡ [] → Does old new asked start lines → after ≡ before ++ lines
    → Does old new asked before after
does_behind old new None start lines before after none does told = does
does_behind old new (Some step) start lines before after none does told = record {
  entry = λ room. let its = does.entry room in record {
    entry = its.entry;
    plays = its.plays;
    asked = its.asked;
    entries_are = its.entries_are;
    plays_are = its.plays_are;
    counted = its.counted;
    told = told_behind start lines before after _ none its.told told;
  };
  full = λ full. let its = does.full full in record { same = its.same; told = told_behind start lines before after _ none its.told told };
}
