-- Which calls C's forms are: the kind of a form is the place of a word among evl_scenario's words, and each kind of value after
-- a key of the word has its place in the form.
use Rattle.std.specs.Prelude.{ℕ, Bool, true, false, nat_le, nat_lt, nat_eq, not, ◌&&◌, ◌||◌, List, [], ◌∷◌, length, slice_get, Option, Some, None, if◌then◌else◌}
use Rattle.std.specs.Option.{unwrap_or}
use Rattle.evl_base.specs.declared.call.Call.{Call}
use Rattle.evl_base.specs.declared.policy.Policy.{Policy}
use Rattle.evl_base.specs.declared.policy.Policy.TheVariants.{Fifo, Rr, Quota, Weak}
use Rattle.evl_base.specs.declared.stage.Stage.{Stage}
use Rattle.evl_base.specs.declared.stage.Stage.TheVariants.{Inband, Oob}
use Rattle.evl_base.specs.declared.take.Take.{Take}
use Rattle.evl_base.specs.declared.take.Take.TheVariants.{Any, Of, Exact}
use Rattle.evl_base.specs.declared.way.Way.{Way}
use Rattle.evl_base.specs.declared.way.Way.TheVariants.{In, Out}
use Rattle.evl_base.specs.Calls.{words, fields_of, call_with}
use Rattle.evl_base.specs.declared.fields.Kind.{Kind}
use Rattle.evl_base.specs.declared.fields.Kind.TheVariants as kind
use Rattle.evl_base.specs.Fields.{Value, Key, Values}
use Rattle.evl_base.specs.declared.call.StepWord.{StepWord}
use Rattle.evl_base.specs.declared.call.StepWord.TheVariants.{Finish}
use Rattle.evl_c.specs.declared.calls.CallForm.{CallForm}

-- whether each number is in its range, and one transfer carries the bytes
abbrev pub is_call : CallForm → List ℕ → Bool
is_call form bytes = nat_lt form.kind (length words) && (nat_le form.stage 1 && (nat_le form.way 1 && (nat_le form.choice 3
    && (nat_le form.timed 1 && nat_le (length bytes) 256))))

abbrev pub stage_of : CallForm → Stage
stage_of form = if nat_eq form.stage 0 then Inband else Oob

abbrev pub way_of : CallForm → Way
way_of form = if nat_eq form.way 0 then In else Out

-- the deadline of a wait
abbrev pub until_of : CallForm → Option ℕ
until_of form = if nat_eq form.timed 0 then None else Some form.date

abbrev pub take_of : CallForm → Take
take_of form = if nat_eq form.choice 0 then Any else if nat_eq form.choice 1 then Of form.bits else Exact form.bits

abbrev pub policy_of : CallForm → Policy
policy_of form =
    if nat_eq form.choice 0 then Fifo form.prio else
    if nat_eq form.choice 1 then Rr form.prio form.span else
    if nat_eq form.choice 2 then Quota form.other form.prio else
    Weak form.prio

-- whether a kind is that of bytes
abbrev pub is_bytes : Kind → Bool
is_bytes kind.Bytes = true
is_bytes other = false

-- the value of a kind in a form that these bytes go with
abbrev pub value_in : (which : Kind) → CallForm → List ℕ → Value which
value_in kind.Byte form bytes = form.callback
value_in kind.Half form bytes = form.element
value_in kind.Word form bytes = form.bits
value_in kind.Number form bytes = form.date
value_in kind.Stage form bytes = stage_of form
value_in kind.Policy form bytes = policy_of form
value_in kind.Take form bytes = take_of form
value_in kind.Way form bytes = way_of form
value_in kind.Bytes form bytes = record { items = bytes }
value_in kind.Until form bytes = until_of form
value_in kind.Truth form bytes = not (nat_eq form.choice 0)

-- the form for the keys after one of this kind: the second number of 16 bits is `other`, and of 64 bits `span`
abbrev pub after_value : Kind → CallForm → CallForm
after_value kind.Half form = record form { element = form.other }
after_value kind.Number form = record form { date = form.span }
after_value kind.Until form = record form { date = form.span }
after_value other form = form

-- the values of a form at these keys
abbrev pub values_in : (keys : List Key) → CallForm → List ℕ → Values keys
values_in [] form bytes = tt
values_in (key ∷ keys) form bytes = (value_in key.kind form bytes, values_in keys (after_value key.kind form) bytes)

-- the call of a word that a form describes; one word by itself, so that this is opened only where the word is known
abbrev pub call_filled : StepWord → CallForm → List ℕ → Call
call_filled Finish form bytes = call_with Finish (values_in (fields_of Finish) form bytes)
call_filled word form bytes = call_with word (values_in (fields_of word) form bytes)

-- the word of a form, whose place among all is the form's kind; `finish` where there is none
abbrev pub word_of : CallForm → StepWord
word_of form = unwrap_or (slice_get words form.kind) Finish

-- the call that a form describes
abbrev pub call_of : CallForm → List ℕ → Call
call_of form bytes = call_filled (word_of form) form bytes

-- kinds of calls on semaphores, flag groups and mutexes that have an element and nothing else: a `begin_get` where it has no
-- deadline
abbrev pub is_bare_sync : ℕ → Bool
is_bare_sync kind = nat_eq kind 19 || (nat_eq kind 20 || (nat_eq kind 21 || (nat_eq kind 22 || (nat_eq kind 25
    || (nat_eq kind 33 || nat_eq kind 34)))))

-- kinds of any calls that have an element and nothing else
abbrev pub is_bare : ℕ → Bool
is_bare kind = nat_eq kind 2 || (nat_eq kind 10 || (nat_eq kind 11 || (nat_eq kind 12 || (nat_eq kind 18 || is_bare_sync kind))))

-- the form of such a call
abbrev pub bare_form : ℕ → ℕ → CallForm
bare_form kind element = record {
  kind = kind;
  stage = 0;
  way = 0;
  choice = 0;
  prio = 0;
  callback = 0;
  timed = 0;
  element = element;
  other = 0;
  bits = 0;
  date = 0;
  span = 0;
}
