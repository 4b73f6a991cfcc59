-- A call on an element as one step of that element's machine.
use Rattle.std.specs.Prelude.{Option, Some, None, Result, Ok, Err}
use Rattle.evl_base.specs.declared.refusal.Refusal.{Refusal}

-- what a call answered, in the words of the machine, with the element after it; or its refusal
abbrev pub step_by : {A B S : Type 0} → (A → B) → Result A Refusal → S → Result (B × S) Refusal
step_by f (Ok answer) after = Ok (f answer, after)
step_by f (Err refusal) after = Err refusal

-- the refusal that applies, else the answer
abbrev pub unless : {A : Type 0} → Option Refusal → Result A Refusal → Result A Refusal
unless None answer = answer
unless (Some refusal) answer = Err refusal
