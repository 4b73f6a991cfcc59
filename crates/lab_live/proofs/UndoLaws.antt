-- A machine whose last call was taken back.
use Rattle.std.proofs.Common.{arith, ◌≡◌, ◌≤◌, ◌∙◌, ◌-◌, ◌==◌, false, ℕ, List, [], ◌∷◌, ◌++◌, length, length-append, map, take, append-nil, append_assoc, Result, Ok, refl, sym, ap, subst}
use Rattle.std.proofs.lemmas.List.{length-map, take_all}
use Rattle.evl_base.specs.declared.call.Call.{Call}
use Rattle.evl_base.specs.declared.entry.Entry.{Entry}
use Rattle.evl_base.specs.declared.play.Play.{Play}
use Rattle.evl_kernel.specs.histories.Histories.{EntryStep, IsLegal, Run, opened_kernel}
use Rattle.evl_kernel.specs.histories.Laws.{call_of}
use Rattle.evl_kernel.specs.state.Openings.{opening}
use Rattle.evl_kernel.specs.state.States.{Handler, State}
use Rattle.evl_kernel.proofs.histories.Determined.{run_one_way}
use Rattle.evl_scenario.specs.Scenarios.{Script}
use Rattle.evl_scenario.specs.Writings.{script_of_history, step_of_entry}
use Rattle.evl_scenario.specs.declared.faults.Fault.{Fault}
use Rattle.evl_scenario.specs.declared.steps.Step.{Step}
use Rattle.lab_live.specs.Sessions.{Driven, IsDriven, Opens, TakesBack, all_but_last}

-- ---- the last of some entries

-- a list that has something is all but its last, and that one
last_at : {A : Type 0} (x : A) (xs : List A) (n : ℕ) → n ≡ length xs → (last : A) × (x ∷ xs ≡ take n (x ∷ xs) ++ last ∷ [])
last_at {A} x [] n is = (x, subst (λ (m : ℕ). x ∷ [] ≡ take m (x ∷ []) ++ x ∷ []) (sym is) refl)
last_at {A} x (y ∷ rest) n is =
    let (last, tail) = last_at y rest (length rest) refl in
    (last, subst (λ (m : ℕ). x ∷ y ∷ rest ≡ take m (x ∷ y ∷ rest) ++ last ∷ []) (sym is) (ap (λ (zs : List A). x ∷ zs) tail))

split_last : {A : Type 0} (x : A) (xs : List A) → (last : A) × (x ∷ xs ≡ take (length (x ∷ xs) - 1) (x ∷ xs) ++ last ∷ [])
split_last x xs = last_at x xs (length (x ∷ xs) - 1) (omega arith)

-- one that is not empty has something
pub some_entries : {A : Type 0} (xs : List A) → false ≡ (length xs == 0) → xs ≡ [] → ⊥
some_entries [] is none = cc
some_entries (x ∷ xs) is none = cc

-- a run of entries with one more after them is a run of those, and the step of that one
run_split : (old new : State) (entries : List Entry) (last : Entry) (plays : List Play) → Run old (entries ++ last ∷ []) plays new
    → (before : List Play) × (own : List Play) × (mid : State) × (plays ≡ before ++ own) × Run old entries before mid × EntryStep mid last own new
run_split old new [] last plays (own, rest, mid, split, step, (none, same)) =
    ([], own, old, split ∙ ap (λ (ps : List Play). own ++ ps) none ∙ append-nil own, (refl, refl), subst (λ (s : State). EntryStep old last own s) (sym same) step)
run_split old new (entry ∷ entries) last plays (own, rest, mid, split, step, run) =
    let (before, its, at, divided, first, final) = run_split mid new entries last rest run in
    (own ++ before, its, at, split ∙ ap (λ (ps : List Play). own ++ ps) divided ∙ sym (append_assoc own before its), (own, before, mid, refl, step, first), final)

-- entries that were the same steps are the same calls
calls_of : (entries : List Entry) → map call_of entries ≡ map (λ (s : Step). (s.who.0, s.call)) (map step_of_entry entries)
calls_of [] = refl
calls_of (entry ∷ entries) = ap (λ (cs : List (ℕ × Call)). call_of entry ∷ cs) (calls_of entries)

-- a machine that was asked for the calls before the last one of another machine is as that was before it
takes_back : (old new : Driven) (earlier : List Entry) (last : Entry) (bank : List Handler) → IsDriven old → IsDriven new → IsLegal old.history → IsLegal new.history
    → old.history.entries ≡ earlier ++ last ∷ [] → bank ≡ old.history.bank → Opens (script_of_history old.board old.limit earlier) bank new → TakesBack old new
takes_back old new earlier last bank was is legal now split banked opens =
    let run : Run (opened_kernel old.history) (earlier ++ last ∷ []) old.history.plays old.history.state =
    subst (λ (es : List Entry). Run (opened_kernel old.history) es old.history.plays old.history.state) split legal in
    let (before, own, mid, plays, first, step) = run_split (opened_kernel old.history) old.history.state earlier last old.history.plays run in
    let count : length earlier ≤ old.limit = omega (arith, was.within, ap (λ (es : List Entry). length es) split, length-append earlier (last ∷ [])) in
    let asked : map step_of_entry new.history.entries ≡ map step_of_entry earlier =
    opens.asked ∙ take_all old.limit (map step_of_entry earlier) (omega (arith, count, length-map earlier step_of_entry)) in
    let calls : map call_of new.history.entries ≡ map call_of earlier =
    calls_of new.history.entries ∙ ap (λ (ss : List Step). map (λ (s : Step). (s.who.0, s.call)) ss) asked ∙ sym (calls_of earlier) in
    let board : new.history.board ≡ old.history.board = is.board ∙ opens.board ∙ sym was.board in
    let banks : new.history.bank ≡ old.history.bank = opens.bank_is ∙ banked in
    let start : opened_kernel new.history ≡ opened_kernel old.history = (λ i. opening (board i) (banks i)) in
    let again : Run (opened_kernel old.history) new.history.entries new.history.plays new.history.state =
    subst (λ (s : State). Run s new.history.entries new.history.plays new.history.state) start now in
    let same = run_one_way (opened_kernel old.history) new.history.entries earlier new.history.plays before new.history.state mid calls again first in
    record {
      board = opens.board;
      limit = opens.limit;
      legal = now;
      entry = last;
      plays = own;
      extends = record {
        board = sym board;
        bank = sym banks;
        entries = split ∙ ap (λ (es : List Entry). es ++ last ∷ []) (sym same.0);
        plays_too = plays ∙ ap (λ (ps : List Play). ps ++ own) (sym same.1);
        step = subst (λ (s : State). EntryStep s last own old.history.state) (sym same.2) step;
      };
    }

-- whether or not there is one
pub taken_back : (old new : Driven) (entries : List Entry) (bank : List Handler) → IsDriven old → IsDriven new → IsLegal old.history → IsLegal new.history
    → old.history.entries ≡ entries → (entries ≡ [] → ⊥) → bank ≡ old.history.bank → Opens (script_of_history old.board old.limit (all_but_last old.history.entries)) bank new → TakesBack old new
taken_back old new [] bank was is legal now all some banked opens = absurd (some refl)
taken_back old new (entry ∷ rest) bank was is legal now all some banked opens =
    let (last, split) = split_last entry rest in
    takes_back old new (all_but_last old.history.entries) last bank was is legal now
    (all ∙ split ∙ ap (λ (es : List Entry). all_but_last es ++ last ∷ []) (sym all)) banked opens

-- ---- a machine of the calls before it

-- a text that is read as a script opens a machine of that script
pub reopens : (read : Result Script Fault) (own : Script) (bank copied : List Handler) (new : Driven) → read ≡ Ok own → copied ≡ bank
    → ((script : Script) × (read ≡ Ok script) × Opens script copied new) → Opens own bank new
reopens read own bank copied new is same (script, found, opens) =
    let one : script ≡ own = cc in
    subst (λ (s : Script). Opens s bank new) one (subst (λ (hs : List Handler). Opens script hs new) same opens)
