-- The effects of the steps of a scenario, one after the other.
use Rattle.std.proofs.Common.{inl, inr, ◌≡◌, ◌≢◌, ◌⊎◌, ◌↔◌, ◌∙◌, ◌++◌, ◌+◌, ℕ, true, false, Bool, List, [], ◌∷◌, length, length-append, drop, flat_map, map, append-nil, append_assoc, Result, Ok, Err, IsTrue, IsFalse, OnOk, if◌then◌else◌, refl, sym, ap, arith}
use Rattle.std.proofs.Math.Seq.{drop-append_seam}
use Rattle.std.proofs.lemmas.List.{length-map}
use Rattle.evl_base.specs.declared.board.Board.{Board}
use Rattle.evl_base.specs.declared.entry.Entry.{Entry}
use Rattle.evl_base.specs.declared.refusal.Refusal.{Refusal}
use Rattle.evl_base.specs.declared.refusal.Refusal.TheVariants.{NoMemory, HistoryFull, Range}
use Rattle.evl_base.specs.declared.reply.Reply.{Reply}
use Rattle.evl_kernel.specs.histories.Histories.{History}
use Rattle.evl_kernel.specs.state.KernelViews.{AddsEntry, IsOpened, KernelView, entry_of, makes_entry}
use Rattle.evl_kernel.specs.state.Openings.{can_open, opening}
use Rattle.evl_kernel.specs.histories.Replays.{Outcome, step_outcome}
use Rattle.evl_kernel.specs.state.States.{Handler, State}
use Rattle.evl_kernel.proofs.settling.Walking.{step_is_stepped}
use Rattle.evl_plans.specs.Told.{handler_of as told}
use Rattle.evl_plans.specs.declared.planned.Planned.{Planned}
use Rattle.evl_scenario.specs.Scenarios.{Script}
use Rattle.evl_scenario.specs.declared.faults.Fault.{Fault}
use Rattle.evl_scenario.specs.declared.faults.Fault.TheVariants.{Memory}
use Rattle.evl_scenario.specs.declared.steps.Step.{Step}
use Rattle.evl_shell.specs.Moments.{moment, wants_memory}
use Rattle.evl_shell.specs.Runs.{Moment, Turn, beginning, turn}
use Rattle.evl_shell.proofs.TurnLemmas.{turn-away, turn-entered}
use Rattle.lab_warnings.specs.Reasons.{spurious_so_far}
use Rattle.lab_warnings.specs.Runs.{Makes, entries_from, entry_in, state_from}
use Rattle.lab_warnings.specs.Warnings.{callback_of, counts_of, end_lines, entry_lines, installed_lines, odd_lines, run_lines, script_lines, step_lines, steps_lines, warnings_of}
use Rattle.lab_warnings.proofs.LineLaws.{behind, behind_two}
use Rattle.lab_warnings.specs.declared.counts.Counts.{Counts}

-- ---- one step

-- a step that finds the history at its limit
away : {C : Type 0} (old new : KernelView C) (step : Step) → length old.history.entries ≡ old.limit → new.history ≡ old.history → new.limit ≡ old.limit → Makes old new step
away old new step full same bound =
    let is = turn-away old.limit (moment old) step full in
    record {
      limit = bound;
      after = ap (λ (h : History). record { entries = length h.entries; state = h.state }) same ∙ sym (ap (λ (t : Turn). t.after) is);
      entries = ap (λ (h : History). h.entries) same ∙ sym (append-nil old.history.entries) ∙ sym (ap (λ (t : Turn). old.history.entries ++ entry_in step t) is);
    }

-- a step that makes an entry
enters : {C : Type 0} (old new : KernelView C) (step : Step) (reply : Result Reply Refusal) → (length old.history.entries ≡ old.limit → ⊥)
    → AddsEntry old.history step.who.0 step.call reply new.history → new.limit ≡ old.limit → Makes old new step
enters old new step reply below added bound =
    let plays = added.0 in
    let by = added.1 in
    let o : Outcome = record { reply = reply; plays = plays; touches = (step_outcome old.history.state step.who.0 step.call).touches; after = new.history.state } in
    let out : step_outcome old.history.state step.who.0 step.call ≡ o =
    step_is_stepped old.history.state step.who.0 step.call reply plays new.history.state by.extends.step.1 by.few in
    let is = turn-entered old.limit (moment old) step o below out in
    let count : length new.history.entries ≡ length old.history.entries + 1 =
    ap (λ (es : List Entry). length es) by.extends.entries ∙ length-append old.history.entries (entry_of step.who.0 step.call reply plays ∷ []) in
    record {
      limit = bound;
      after = ap (λ (n : ℕ). record { entries = n; state = new.history.state }) count ∙ sym (ap (λ (t : Turn). t.after) is);
      entries = by.extends.entries ∙ sym (ap (λ (t : Turn). old.history.entries ++ entry_in step t) is);
    }

-- a call that isn't refused for want of memory makes its step
pub makes : {C : Type 0} (old new : KernelView C) (step : Step) (reply : Result Reply Refusal)
    → (IsTrue (makes_entry reply) → AddsEntry old.history step.who.0 step.call reply new.history)
    → (IsFalse (makes_entry reply) → new.history ≡ old.history)
    → ((reply ≡ Err HistoryFull) ↔ (length old.history.entries ≡ old.limit))
    → new.limit ≡ old.limit → wants_memory reply ≡ false → Makes old new step
makes old new step (Ok reply) adds keeps full bound memory = enters old new step (Ok reply) (λ e. absurd (let h = full.1 e in cc)) (adds refl) bound
makes old new step (Err NoMemory) adds keeps full bound memory = cc
makes old new step (Err HistoryFull) adds keeps full bound memory = away old new step (full.0 refl) (keeps refl) bound
makes old new step (Err refusal) adds keeps full bound memory = enters old new step (Err refusal) (λ e. absurd (let h = full.1 e in cc)) (adds refl) bound

-- The words for a step, in three parts: of the step, of its callback, and of the entries since it was made.
pub stepped : {C : Type 0} (old new : KernelView C) (step : Step) → Makes old new step → (name : List ℕ) (counts : Counts) (bank : List Handler) (number before start : ℕ)
    (text first second all : List ℕ) → before ≡ spurious_so_far old.history.state step.call → start ≡ length old.history.entries
    → first ≡ text ++ odd_lines name number old.history.state step
    → second ≡ first ++ installed_lines name counts bank number (callback_of step.call)
    → all ≡ second ++ flat_map (entry_lines name counts number before new.history.state) (drop start new.history.entries)
    → all ≡ text ++ step_lines name counts bank number old.history.state step (turn old.limit (moment old) step)
unfolding step_lines
stepped old new step made name counts bank number before start text first second all count at one two three =
    let t = turn old.limit (moment old) step in
    let after : new.history.state ≡ t.after.state = ap (λ (m : Moment). m.state) made.after in
    let since : drop start new.history.entries ≡ entry_in step t =
    ap (λ (n : ℕ). drop n new.history.entries) at ∙ ap (λ (es : List Entry). drop (length old.history.entries) es) made.entries ∙ drop-append_seam old.history.entries (entry_in step t) in
    behind_two text first second all (odd_lines name number old.history.state step) (installed_lines name counts bank number (callback_of step.call)) _ one two three
    ∙ (λ i. text ++ (odd_lines name number old.history.state step ++ (installed_lines name counts bank number (callback_of step.call)
    ++ flat_map (entry_lines name counts number (count i) (after i)) (since i))))

-- ---- one of some steps

-- what a kernel leaves with the steps that are left is what it left with one more before it made that
module _ {C : Type 0} (old new : KernelView C) (step : Step) (rest others : List Step) (split : rest ≡ step ∷ others) (made : Makes old new step) where
  pub told_on : (name : List ℕ) (counts : Counts) (bank : List Handler) (number : ℕ) (text now all : List ℕ)
      → text ++ steps_lines name counts bank number old.limit (moment old) rest ≡ all
      → now ≡ text ++ step_lines name counts bank (number + 1) old.history.state step (turn old.limit (moment old) step)
      → now ++ steps_lines name counts bank (number + 1) new.limit (moment new) others ≡ all
  told_on name counts bank number text now all before is =
      (λ i. is i ++ steps_lines name counts bank (number + 1) (made.limit i) (made.after i) others)
      ∙ append_assoc text (step_lines name counts bank (number + 1) old.history.state step (turn old.limit (moment old) step)) (steps_lines name counts bank (number + 1) old.limit (turn old.limit (moment old) step).after others)
      ∙ ap (λ (ss : List Step). text ++ steps_lines name counts bank number old.limit (moment old) ss) (sym split)
      ∙ before

  pub entries_on : (all : List Entry) → old.history.entries ++ entries_from old.limit (moment old) rest ≡ all
      → new.history.entries ++ entries_from new.limit (moment new) others ≡ all
  entries_on all before =
      (λ i. made.entries i ++ entries_from (made.limit i) (made.after i) others)
      ∙ append_assoc old.history.entries (entry_in step (turn old.limit (moment old) step)) (entries_from old.limit (turn old.limit (moment old) step).after others)
      ∙ ap (λ (ss : List Step). old.history.entries ++ entries_from old.limit (moment old) ss) (sym split)
      ∙ before

  pub state_on : (all : State) → state_from old.limit (moment old) rest ≡ all → state_from new.limit (moment new) others ≡ all
  state_on all before =
      (λ i. state_from (made.limit i) (made.after i) others)
      ∙ ap (λ (ss : List Step). state_from old.limit (moment old) ss) (sym split)
      ∙ before

-- no steps are left
module _ (limit : ℕ) (m : Moment) where
  pub told_all : (name : List ℕ) (counts : Counts) (bank : List Handler) (number : ℕ) (rest : List Step) (text all : List ℕ) → length rest ≡ 0
      → text ++ steps_lines name counts bank number limit m rest ≡ all → text ≡ all
  told_all name counts bank number [] text all none is = sym (append-nil text) ∙ is
  told_all name counts bank number (step ∷ rest) text all none is = absurd (omega (arith, none))

  pub entries_all : (rest : List Step) (entries all : List Entry) → length rest ≡ 0 → entries ++ entries_from limit m rest ≡ all → entries ≡ all
  entries_all [] entries all none is = sym (append-nil entries) ∙ is
  entries_all (step ∷ rest) entries all none is = absurd (omega (arith, none))

  pub state_all : (rest : List Step) (all : State) → length rest ≡ 0 → state_from limit m rest ≡ all → m.state ≡ all
  state_all [] all none is = is
  state_all (step ∷ rest) all none is = absurd (omega (arith, none))

-- what is seen on the way, and then in the end
pub looked : (name : List ℕ) (counts : Counts) (bank : List Handler) (asked limit : ℕ) (m : Moment) (steps : List Step) (first entries : List Entry) (s : State) (before mid after : List ℕ)
    → first ≡ [] → asked ≡ length steps → mid ≡ before ++ steps_lines name counts bank 0 limit m steps → entries ≡ first ++ entries_from limit m steps → s ≡ state_from limit m steps
    → after ≡ mid ++ end_lines name counts.threads asked entries s → after ≡ before ++ run_lines name counts bank limit m steps
unfolding run_lines
looked name counts bank asked limit m steps first entries s before mid after none count one all ends two =
    let own : entries ≡ entries_from limit m steps = all ∙ ap (λ (es : List Entry). es ++ entries_from limit m steps) none in
    behind before mid after (steps_lines name counts bank 0 limit m steps) (end_lines name counts.threads asked entries s) one two
    ∙ (λ i. before ++ (steps_lines name counts bank 0 limit m steps ++ end_lines name counts.threads (count i) (own i) (ends i)))

-- ---- from a kernel that was just made

-- what follows where all went well
pub on_ok : {T E : Type 0} (r : Result T E) (P Q : Type 0) → (P → Q) → OnOk r P → OnOk r Q
on_ok (Ok x) P Q f p = f p
on_ok (Err e) P Q f p = tt

chosen : {A : Type 0} (b : Bool) (x y : A) → b ≢ false → (if b then x else y) ≡ x
chosen true x y h = refl
chosen false x y h = absurd (h refl)

left_out : {A : Type 0} (b : Bool) (x y : A) → b ≡ false → (if b then x else y) ≡ y
left_out true x y h = cc
left_out false x y h = refl

unrefused : {K : Type 0} (r : Result K Refusal) (k : K) (can : Bool) → r ≡ Ok k → ((r ≡ Err Range) ↔ (can ≡ false)) → can ≢ false
unrefused r k can made range none = let why = range.1 none in cc

refused : {K : Type 0} (r : Result K Refusal) (e : Refusal) (can : Bool) → r ≡ Err e → e ≡ Range → ((r ≡ Err Range) ↔ (can ≡ false)) → can ≡ false
refused r e can is why range = range.0 (is ∙ ap (λ (x : Refusal). Err x) why)

-- as many are copied as there are
same_count : (own bank : List Planned) → map told own ≡ map told bank → length (map told bank) ≡ length own
same_count own bank same = sym (ap (λ (hs : List Handler). length hs) same) ∙ length-map own told

-- a script over a copy of these callbacks, by what was opened of it
pub opened_lines : {K : Type 0} (r : Result K Refusal) (made : K) (name : List ℕ) (own bank : List Planned) → map told own ≡ map told bank
    → (script : Script) (board : Board) (limit : ℕ) (steps : List Step) (kernel : KernelView Planned) (before after : List ℕ)
    → r ≡ Ok made → ((r ≡ Err Range) ↔ (can_open board (length own) limit ≡ false)) → board ≡ script.board → limit ≡ script.limit → steps ≡ script.steps
    → IsOpened (λ p. p.kinds.0) (λ p. p.plan) board own limit kernel
    → after ≡ before ++ run_lines name (counts_of board) (map told bank) kernel.limit (moment kernel) steps
    → after ≡ before ++ script_lines name (map told bank) script
unfolding script_lines
opened_lines r made name own bank same script board limit steps kernel before after is range b l s k lines =
    let can = unrefused r made (can_open board (length own) limit) is range in
    let start : moment kernel ≡ beginning (opening board (map told bank)) =
    (λ i. record { entries = length (k.entries i); state = (k.state ∙ (λ j. opening (k.board_is j) ((k.bank_is ∙ same) j))) i }) in
    let count = same_count own bank same in
    let open_too : can_open script.board (length (map told bank)) script.limit ≢ false = λ e. can ((λ i. can_open (b i) (sym count i) (l i)) ∙ e) in
    lines ∙ ap (λ (ls : List ℕ). before ++ ls)
    ((λ i. run_lines name (counts_of board) (map told bank) ((k.limit_is ∙ l) i) (start i) (s i))
    ∙ ap (λ (o : Board). run_lines name (counts_of o) (map told bank) script.limit (beginning (opening o (map told bank))) script.steps) b
    ∙ sym (chosen (can_open script.board (length (map told bank)) script.limit) (run_lines name (counts_of script.board) (map told bank) script.limit (beginning (opening script.board (map told bank))) script.steps) [] open_too))

-- and where none could be opened
pub none_opened : {K : Type 0} (r : Result K Refusal) (e : Refusal) (name : List ℕ) (own bank : List Planned) → map told own ≡ map told bank
    → (script : Script) (board : Board) (limit : ℕ) (before : List ℕ)
    → r ≡ Err e → e ≡ Range → ((r ≡ Err Range) ↔ (can_open board (length own) limit ≡ false)) → board ≡ script.board → limit ≡ script.limit
    → before ≡ before ++ script_lines name (map told bank) script
unfolding script_lines
none_opened r e name own bank same script board limit before is why range b l =
    let can = refused r e (can_open board (length own) limit) is why range in
    let count = same_count own bank same in
    sym (append-nil before) ∙ ap (λ (ls : List ℕ). before ++ ls)
    (sym (left_out (can_open script.board (length (map told bank)) script.limit) (run_lines name (counts_of script.board) (map told bank) script.limit (beginning (opening script.board (map told bank))) script.steps) []
    ((λ i. can_open (sym b i) (count i) (sym l i)) ∙ can)))

-- a text that is refused for a fault of its own
pub no_script : (name : List ℕ) (bank : List Handler) (r : Result Script Fault) (e : Fault) (before : List ℕ) → e ≢ Memory → (e ≡ Memory) ⊎ (r ≡ Err e)
    → before ≡ before ++ warnings_of name bank r
unfolding warnings_of
no_script name bank r e before other (inl memory) = absurd (other memory)
no_script name bank r e before other (inr is) = sym (append-nil before) ∙ ap (λ (x : Result Script Fault). before ++ warnings_of name bank x) (sym is)

-- and one that asks for a script
pub of_script : (name : List ℕ) (bank : List Handler) (r : Result Script Fault) (script : Script) (before after : List ℕ) → r ≡ Ok script
    → after ≡ before ++ script_lines name bank script → after ≡ before ++ warnings_of name bank r
unfolding warnings_of
of_script name bank r script before after is told = told ∙ ap (λ (x : Result Script Fault). before ++ warnings_of name bank x) (sym is)
