-- The report and the first outcome that is against what is asked, as the definitions of orders have them.
use Rattle.std.proofs.Common.{◌≡◌, ◌⊎◌, ◌++◌, inr, List, ℕ, Bool, true, false, Option, Result, Ok, Err, IfOk, OnOk, ap, append_assoc, codes, decimal, refl, subst, sym, ◌∙◌}
use Rattle.std.specs.Prelude.{IsSomeAnd, MatchBool, is_ok, position, string_bytes}
use Rattle.std.specs.Io.KnownBytes.{Appends}
use Rattle.evl_kernel.specs.state.States.{Handler}
use Rattle.lab_orders.specs.Machines.{orders}
use Rattle.lab_orders.specs.Tallies.{told_weight}
use Rattle.lab_orders.specs.declared.tallies.Tally.{Tally}
use Rattle.lab_orders.proofs.Totals.{total_of_ones}
use Rattle.lab_scenario_orders.specs.Answers.{first_impossible}
use Rattle.lab_scenario_orders.specs.Asks.{is_against}
use Rattle.lab_scenario_orders.specs.Callers.{first_seen, machine}
use Rattle.lab_scenario_orders.specs.Json.{json_text}
use Rattle.lab_scenario_orders.specs.Outcomes.{AreOutcomes}
use Rattle.lab_scenario_orders.specs.Reports.{report_text}
use Rattle.lab_scenario_orders.specs.declared.asks.Ask.{Ask}
use Rattle.lab_scenario_orders.specs.declared.callers.Callers.{Callers}
use Rattle.lab_scenario_orders.specs.declared.outcomes.Outcomes.{Outcomes}
use Rattle.lab_scenario_orders.specs.declared.watches.Watch.{Watch}
use Rattle.lab_streams.specs.Banks.{IsBank, Refuses}
use Rattle.lab_scenario_orders.specs.Scenarios.{order_scenario}
use Rattle.lab_scenario_orders.specs.declared.texts.TextFault.{TextFault}
use Rattle.lab_kinds.specs.declared.kinds.TextKind.{TextKind}
use Rattle.lab_streams.specs.Endings.{line_about}
use Rattle.lab_asks.specs.OneOrder.{order_of}
use Rattle.lab_asks.specs.Orders.{impossible_in, text_fault_words}
use Rattle.lab_asks.specs.Outcomes.{first_against, json_of, report_of, scenario_of}
use Rattle.lab_streams.specs.Readings.{Reading}
use Rattle.lab_streams.specs.Outputs.{Output, Writes, WritesOfText, WritesOverBank, refuses}
use Rattle.lab_streams.proofs.OutputLemmas.{told_of}

pub report_is : (c : Callers) (asks : Ask) (found : Outcomes) → report_text c asks.watches.items found ≡ report_of c asks found
unfolding report_of
report_is c asks found = refl

pub json_is : (c : Callers) (asks : Ask) (found : Outcomes) → json_text c asks found ≡ json_of c asks found
unfolding json_of
json_is c asks found = refl

pub order_is : (c : Callers) (order : List ℕ) → order_scenario c order ≡ order_of c order
unfolding order_of
order_is c order = refl

pub scenario_is : (c : Callers) (outcome : Tally) → order_of c outcome.order.items ≡ scenario_of c outcome
unfolding scenario_of
scenario_is c outcome = refl

pub against_is : (asks : Ask) (outcomes : List Tally) → position (λ outcome. is_against asks (string_bytes outcome.told)) outcomes ≡ first_against asks outcomes
unfolding first_against
against_is asks outcomes = refl

pub impossible_is : (c : Callers) (asks : Ask) → first_impossible c.steps.items asks.never.items ≡ impossible_in c asks
unfolding impossible_in
impossible_is c asks = refl

-- the outcomes have as many orders together as were counted
pub all_are_counted : (c : Callers) (bank : List Handler) (watches : List Watch) (most : ℕ) (found : Outcomes) → AreOutcomes c bank watches most found → told_weight (λ told. 1) found.all.items ≡ found.count
all_are_counted c bank watches most found are = are.counted (λ told. 1) ∙ (total_of_ones (orders (machine c) (first_seen c bank) found.steps) ∙ sym are.count)

-- over a bank that is read with nothing said
pub over_bank : (E : Type 0) (Is : List Handler → Reading → Output → Type 0) (plans file known old new quiet between spoken : Option (List ℕ)) (bank : List Handler) (r : Result ℕ E)
    → IsBank plans bank → between ≡ quiet → IfOk r (WritesOfText (Is bank) file known old new between spoken)
    → IfOk r (λ s. Refuses plans old new quiet spoken s ⊎ WritesOverBank Is plans file known old new quiet spoken s)
over_bank E Is plans file known old new quiet between spoken bank (Ok s) is same w =
    inr (record { bank = bank; is_bank = is; writes = subst (λ (q : Option (List ℕ)). WritesOfText (Is bank) file known old new q spoken s) same w })
over_bank E Is plans file known old new quiet between spoken bank (Err e) is same w = tt

-- a text of a kind that is refused
pub refused_kinded : (E : Type 0) (Is : Output → Type 0) (old quiet spoken : Option (List ℕ)) (name : List ℕ) (kind other : TextKind) (fault : TextFault) (was : Result Bool E) (r : Result ℕ E)
    → kind ≡ other → ((output : Output) → IsSomeAnd (text_fault_words other fault) (λ w. output ≡ refuses 2 (line_about name w)) → Is output)
    → OnOk was (IsSomeAnd (text_fault_words kind fault) (λ w. Appends quiet spoken (line_about name w))) → IfOk r (λ s. (s ≡ 2) × (is_ok was ≡ true))
    → IfOk r (Writes Is old old quiet spoken)
refused_kinded E Is old quiet spoken name kind other fault was r same is says ends =
    told_of E Is old quiet spoken (line_about name) (text_fault_words other fault) was r is
    (subst (λ (k : TextKind). OnOk was (IsSomeAnd (text_fault_words k fault) (λ w. Appends quiet spoken (line_about name w)))) same says) ends

-- the one of two, by a test
pub is_first : (b : Bool) (A B : Type 0) → b ≡ true → A → MatchBool b A B
is_first true A B e a = a
is_first false A B e a = cc

pub is_second : (b : Bool) (A B : Type 0) → b ≡ false → B → MatchBool b A B
is_second true A B e a = cc
is_second false A B e a = a

-- a number and words after it, in a line
pub word_line : (name : List ℕ) (number : ℕ)
    → name ++ (codes ": --order: word " ++ (decimal number ++ codes " is no caller\n")) ≡ line_about name (codes "--order: word " ++ (decimal number ++ codes " is no caller"))
word_line name number = ap (λ (rest : List ℕ). name ++ (codes ": --order: word " ++ rest)) (sym (append_assoc (decimal number) (codes " is no caller") (codes "\n")))

pub made_line : (name : List ℕ) (number : ℕ)
    → name ++ (codes ": --order: step " ++ (decimal number ++ codes " can't be made\n")) ≡ line_about name (codes "--order: step " ++ (decimal number ++ codes " can't be made"))
made_line name number = ap (λ (rest : List ℕ). name ++ (codes ": --order: step " ++ rest)) (sym (append_assoc (decimal number) (codes " can't be made") (codes "\n")))
