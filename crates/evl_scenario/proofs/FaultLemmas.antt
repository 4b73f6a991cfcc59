-- Which faults a scenario may have.
use Rattle.std.proofs.Common.{◌≡◌, ℕ, ◌+◌, nat_lt, Bool, true, false, if◌then◌else◌, List, length, codes, Option, Some, None, Result, Ok, Err, subst, refl}
use Rattle.std.specs.Str.{is_utf8}
use Rattle.toml.specs.Data.{Items, no_items, item, Members, get_member}
use Rattle.toml.specs.Parse.{parse_document}
use Rattle.evl_base.specs.declared.board.Board.{Board}
use Rattle.evl_scenario.specs.declared.faults.Fault.{Fault}
use Rattle.evl_scenario.specs.declared.faults.Fault.TheVariants as fault
use Rattle.evl_scenario.specs.declared.steps.Step.{Step}
use Rattle.evl_scenario.specs.Faults.{IsRefusal}
use Rattle.evl_scenario.specs.Scenarios.{Script, step_fault, with_first, steps_of, script_with, script_opened, step_tables, opening_of, document_script, scenario_of}
use Rattle.evl_scenario.specs.Steps.{step_of}

along : (f e : Fault) → f ≡ e → IsRefusal f → IsRefusal e
along f e same h = let P : Fault → Type 0 = λ x. IsRefusal x in subst P same h

with_first-fault : (n : ℕ) (o : Option Step) (r : Result (List Step) Fault) (e : Fault) → ((f : Fault) → r ≡ Err f → IsRefusal f)
    → with_first n o r ≡ Err e → IsRefusal e
with_first-fault n None r e k h = let same : step_fault n ≡ e = cc in along (step_fault n) e same tt
with_first-fault n (Some step) (Ok steps) e k h = cc
with_first-fault n (Some step) (Err f) e k h = k e h

steps_of-fault : (n : ℕ) (values : Items) (e : Fault) → steps_of n values ≡ Err e → IsRefusal e
steps_of-fault n no_items e h = cc
steps_of-fault n (item value rest) e h = with_first-fault n (step_of value) (steps_of (n + 1) rest) e (steps_of-fault (n + 1) rest) h

script_with-fault : (o : Board × ℕ) (r : Result (List Step) Fault) (e : Fault) → ((f : Fault) → r ≡ Err f → IsRefusal f)
    → script_with o r ≡ Err e → IsRefusal e
script_with-fault o (Ok steps) e k h = cc
script_with-fault o (Err f) e k h = k e (let same : f ≡ e = cc in cc)

same_fault : (r : Result Script Fault) (f e : Fault) → r ≡ Err f → r ≡ Err e → f ≡ e
same_fault r f e h k = cc

board_fault : (r : Result Script Fault) (e : Fault) → r ≡ Err fault.Board → r ≡ Err e → IsRefusal e
board_fault r e is h = along fault.Board e (same_fault r fault.Board e is h) tt

text_fault : (r : Result Script Fault) (e : Fault) → r ≡ Err fault.Text → r ≡ Err e → IsRefusal e
text_fault r e is h = along fault.Text e (same_fault r fault.Text e is h) tt

opened-fault : (o : Option (Board × ℕ)) (values : Option Items) (e : Fault) → script_opened o values ≡ Err e → IsRefusal e
opened-fault None values e h = board_fault _ e refl h
opened-fault (Some o) None e h = board_fault _ e refl h
opened-fault (Some o) (Some values) e h = script_with-fault o (steps_of 1 values) e (steps_of-fault 1 values) h

document_script-fault : (given : Option ℕ) (ms : Option Members) (e : Fault) → document_script given ms ≡ Err e → IsRefusal e
document_script-fault given None e h = text_fault _ e refl h
document_script-fault given (Some ms) e h = opened-fault (opening_of given ms) (step_tables (get_member (codes "step") ms)) e h

chosen-fault : (long text : Bool) (r : Result Script Fault) (e : Fault) → ((f : Fault) → r ≡ Err f → IsRefusal f)
    → (if long then Err fault.Text else if text then r else Err fault.Text) ≡ Err e → IsRefusal e
chosen-fault true text r e k h = text_fault _ e refl h
chosen-fault false true r e k h = k e h
chosen-fault false false r e k h = text_fault _ e refl h

-- a scenario is refused for its text, its board or a step
pub scenario_of-fault : (given : Option ℕ) (text : List ℕ) (e : Fault) → scenario_of given text ≡ Err e → IsRefusal e
scenario_of-fault given text e h =
    chosen-fault (nat_lt 1048576 (length text)) (is_utf8 text) (document_script given (parse_document text)) e (document_script-fault given (parse_document text)) h
