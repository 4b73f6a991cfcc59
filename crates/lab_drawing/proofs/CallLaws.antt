-- The mark of a call, by what is called and what is answered.
use Rattle.std.proofs.Common.{Bool, ◌≡◌, ◌<◌, ℕ, ◌^◌, ◌==◌, true, false, not, nat_eq, List, [], ◌∷◌, codes, decimal, drop, suc, zero, if◌then◌else◌, Option, Some, None, Result, Ok, Err, option_map, option_and_then, refl, ap, subst, ◌∙◌, ◌%◌, ◌/◌, length, slice_index, pos, negsuc, ◌&&◌}
use Rattle.std.proofs.lemmas.Bool.{and_parts, false≢true}
use Rattle.std.specs.List.{list_all, starts_with}
use Rattle.std.specs.Option.{option_map_or, option_or}
use Rattle.std.specs.Str.{bytes_eq}
use Rattle.hex.specs.Hex.{encode_lower, encode_with, lower_digits}
use Rattle.std.proofs.lemmas.List.Folds.{list_all-append}
use Rattle.evl_base.specs.Call.{call_text}
use Rattle.evl_base.specs.Reply.{outcome_text}
use Rattle.evl_base.specs.Stage.{stage_text}
use Rattle.evl_base.specs.declared.call.Call.{Call}
use Rattle.evl_base.specs.declared.call.Call.TheVariants as call
use Rattle.evl_base.specs.declared.refusal.Refusal.{Refusal}
use Rattle.evl_base.specs.declared.refusal.Refusal.TheVariants.{Raced}
use Rattle.evl_base.specs.declared.reply.Reply.{Reply}
use Rattle.evl_base.specs.declared.reply.Reply.TheVariants.{Done, Begun, Count, Bits, Number, Bytes, Chosen, Handed, TimedOut}
use Rattle.evl_base.specs.declared.stage.Stage as stages
use Rattle.evl_base.specs.declared.stage.Stage.TheVariants.{Inband, Oob}
use Rattle.evl_base.specs.Calls.{told_in}
use Rattle.evl_base.specs.Fields as fields
use Rattle.evl_base.specs.Fields.{Keyed}
use Rattle.evl_base.specs.Fields.{value_text}
use Rattle.evl_scenario.specs.Widths.{AllFit, CallFits, Fits, StepFits}
use Rattle.evl_scenario.specs.declared.steps.Step.{Step}
use Rattle.lab_traces.specs.Entries.{EntryParts, names_refusal, step_parts}
use Rattle.lab_traces.specs.Lines.{entry}
use Rattle.lab_traces.specs.Parts.{Lacks}
use Rattle.lab_traces.specs.Says.{parts_of, says_of}
use Rattle.lab_traces.specs.declared.traces.Says.{Says}
use Rattle.lab_traces.specs.declared.traces.Says.TheVariants.{Board, Entry, Play}
use Rattle.lab_traces.specs.declared.traces.TraceLine.{TraceLine}
use Rattle.lab_drawing.specs.Calls.{call_lane, call_shape, ends_wait, keyed_lane, number_told, stage_told, step_told, value_told}
use Rattle.lab_drawing.specs.Marks.{mark_of, marked_by}
use Rattle.lab_drawing.specs.Named.{answered_shape, entry_names, entry_shape, lane_named, stage_lane}
use Rattle.lab_drawing.specs.Texts.{around_part, number_in, up_to}
use Rattle.lab_drawing.specs.Words.{bar, outcome}
use Rattle.lab_drawing.specs.declared.lanes.Lane.{Lane}
use Rattle.lab_drawing.specs.declared.lanes.Lane.TheVariants.{Thread, Mutex, Stax, Sem, Flags, Xbuf, Timer, Stage}
use Rattle.lab_drawing.specs.declared.marks.Shape.TheVariants as shape
use Rattle.lab_drawing.proofs.KeyLaws.{call_value, text_told, up_whole}
use Rattle.lab_drawing.proofs.TextLaws.{around_none, decimal_lacks, number_back}

-- ---- numbers and stages

number_known : (n : ℕ) → n < 2 ^ 16 → number_in 16 (up_to (codes " ") (decimal n)) ≡ Some n
number_known n small = ap (number_in 16) (up_whole (decimal n) (decimal_lacks 32 n refl)) ∙ number_back n small

stage_known : (stage : stages.Stage) → stage_lane (up_to (codes " ") (stage_text stage)) ≡ Some (Stage stage)
stage_known Inband = ap stage_lane (up_whole (codes "inband") refl)
stage_known Oob = ap stage_lane (up_whole (codes "oob") refl)

-- ---- kinds of values

abbrev is_half : fields.Told → Bool
is_half (fields.a_half n) = true
is_half _ = false

abbrev is_stage : fields.Told → Bool
is_stage (fields.a_stage stage) = true
is_stage _ = false

-- the value of a key that is there is of this kind
abbrev AreOf : (fields.Told → Bool) → List ℕ → List Keyed → Type 0
AreOf kind name keys = list_all (λ one. if bytes_eq one.0 name then kind one.1 else true) keys ≡ true

record IsOf (kind : fields.Told → Bool) (value : fields.Told) : Type 0 where
  kind_is : kind value ≡ true
  fits : Fits value

abbrev IfThere : (fields.Told → Bool) → Option fields.Told → Type 0
IfThere kind None = Unit {0}
IfThere kind (Some value) = IsOf kind value

found_of : (kind : fields.Told → Bool) (name : List ℕ) (keys : List Keyed) → AreOf kind name keys → AllFit keys → IfThere kind (value_told name keys)
found_of kind name [] h fits = tt
found_of kind name (one ∷ rest) h fits = by (bytes_eq one.0 name) h (λ more. found_of kind name rest more fits.1)
  where
    by : (b : Bool) → ((if b then kind one.1 else true) && list_all (λ k. if bytes_eq k.0 name then kind k.1 else true) rest) ≡ true
        → (AreOf kind name rest → IfThere kind (value_told name rest)) → IfThere kind (if b then Some one.1 else value_told name rest)
    by true h more = record { kind_is = (and_parts (kind one.1) (list_all (λ k. if bytes_eq k.0 name then kind k.1 else true) rest) h).0; fits = fits.0 }
    by false h more = more h

half_read : (value : fields.Told) → IsOf is_half value → number_in 16 (up_to (codes " ") (value_text value)) ≡ number_told (Some value)
half_read (fields.a_half n) h = number_known n h.fits
half_read _ h = absurd (false≢true h.kind_is)

stage_read : (value : fields.Told) → IsOf is_stage value → stage_lane (up_to (codes " ") (value_text value)) ≡ stage_told (Some value)
stage_read (fields.a_stage stage) h = stage_known stage
stage_read _ h = absurd (false≢true h.kind_is)

number_at_key : (value : Option fields.Told) → IfThere is_half value → option_and_then (number_in 16) (text_told value) ≡ number_told value
number_at_key None h = refl
number_at_key (Some value) h = half_read value h

stage_at_key : (value : Option fields.Told) → IfThere is_stage value → option_and_then stage_lane (text_told value) ≡ stage_told value
stage_at_key None h = refl
stage_at_key (Some value) h = stage_read value h

-- ---- what a call names

abbrev lane_by : Option (List ℕ) → Option (List ℕ) → Option (List ℕ) → Option (List ℕ) → Option (List ℕ) → Option (List ℕ) → Option (List ℕ) → Option Lane
lane_by mutex stax sem flags xbuf timer stage =
    option_or (option_or (option_map (λ n. Mutex n) (option_and_then (number_in 16) mutex)) (option_or (option_map (λ n. Stax n) (option_and_then (number_in 16) stax))
    (option_or (option_map (λ n. Sem n) (option_and_then (number_in 16) sem)) (option_or (option_map (λ n. Flags n) (option_and_then (number_in 16) flags))
    (option_or (option_map (λ n. Xbuf n) (option_and_then (number_in 16) xbuf)) (option_or (option_map (λ n. Timer n) (option_and_then (number_in 16) timer)) None))))))
    (option_and_then stage_lane stage)

abbrev text_at : List ℕ → List Keyed → Option (List ℕ)
text_at key told = text_told (value_told key told)

abbrev lane_in : List Keyed → Option Lane
lane_in told =
    lane_by (text_at (codes "mutex") told) (text_at (codes "stax") told) (text_at (codes "sem") told) (text_at (codes "flags") told) (text_at (codes "xbuf") told)
    (text_at (codes "timer") told) (text_at (codes "stage") told)

named_in : (made : Call) → CallFits made → lane_named (call_text made) ≡ lane_in (told_in made)
named_in made fits = λ i. lane_by (call_value made fits (codes "mutex") refl i) (call_value made fits (codes "stax") refl i) (call_value made fits (codes "sem") refl i)
    (call_value made fits (codes "flags") refl i) (call_value made fits (codes "xbuf") refl i) (call_value made fits (codes "timer") refl i) (call_value made fits (codes "stage") refl i)

-- elements and timers have numbers of 16 bits, stages are stages, and no call of the kernel has a stax
record HasKinds (keys : List Keyed) : Type 0 where
  mutex : AreOf is_half (codes "mutex") keys
  sem : AreOf is_half (codes "sem") keys
  flags : AreOf is_half (codes "flags") keys
  xbuf : AreOf is_half (codes "xbuf") keys
  timer : AreOf is_half (codes "timer") keys
  stage : AreOf is_stage (codes "stage") keys
  stax : value_told (codes "stax") keys ≡ None

kinds : (made : Call) → HasKinds (told_in made)
kinds call.Now = record { mutex = refl; sem = refl; flags = refl; xbuf = refl; timer = refl; stage = refl; stax = refl }
kinds _ = record { mutex = refl; sem = refl; flags = refl; xbuf = refl; timer = refl; stage = refl; stax = refl }

on_lane : (keys : List Keyed) → HasKinds keys → AllFit keys → lane_in keys ≡ keyed_lane keys
on_lane keys h fits =
    let mutex = number_at_key (value_told (codes "mutex") keys) (found_of is_half (codes "mutex") keys h.mutex fits) in
    let stax : option_and_then (number_in 16) (text_at (codes "stax") keys) ≡ None = ap (λ (value : Option fields.Told). option_and_then (number_in 16) (text_told value)) h.stax in
    let sem = number_at_key (value_told (codes "sem") keys) (found_of is_half (codes "sem") keys h.sem fits) in
    let flags = number_at_key (value_told (codes "flags") keys) (found_of is_half (codes "flags") keys h.flags fits) in
    let xbuf = number_at_key (value_told (codes "xbuf") keys) (found_of is_half (codes "xbuf") keys h.xbuf fits) in
    let timer = number_at_key (value_told (codes "timer") keys) (found_of is_half (codes "timer") keys h.timer fits) in
    let stage = stage_at_key (value_told (codes "stage") keys) (found_of is_stage (codes "stage") keys h.stage fits) in
    λ i. option_or (option_or (option_map (λ n. Mutex n) (mutex i)) (option_or (option_map (λ n. Stax n) (stax i)) (option_or (option_map (λ n. Sem n) (sem i))
    (option_or (option_map (λ n. Flags n) (flags i)) (option_or (option_map (λ n. Xbuf n) (xbuf i)) (option_or (option_map (λ n. Timer n) (timer i)) None)))))) (stage i)

-- ---- answers with no bar

-- only hexadecimal digits are there
hex_apart : (c n : ℕ) → list_all (λ d. not (d == c)) lower_digits ≡ true → not (0 == c) ≡ true → not (slice_index lower_digits n == c) ≡ true
hex_apart c n h none = by lower_digits n h
  where
    by : (ds : List ℕ) (n : ℕ) → list_all (λ d. not (d == c)) ds ≡ true → not (slice_index ds n == c) ≡ true
    by [] n h = none
    by (d ∷ ds) zero h = (and_parts (not (d == c)) (list_all (λ x. not (x == c)) ds) h).0
    by (d ∷ ds) (suc n) h = by ds n (and_parts (not (d == c)) (list_all (λ x. not (x == c)) ds) h).1

hex_lacks : (bytes : List ℕ) → Lacks 124 (encode_lower bytes)
unfolding encode_with
hex_lacks [] = refl
hex_lacks (b ∷ rest) = rw (hex_apart 124 (b / 16) refl refl, hex_apart 124 (b % 16) refl refl, hex_lacks rest) refl

either_lacks : (v : Bool) (a b : List ℕ) → Lacks 124 a → Lacks 124 b → Lacks 124 (if v then a else b)
either_lacks true a b p q = p
either_lacks false a b p q = q

answer_lacks : (answer : Result Reply Refusal) → Lacks 124 (outcome_text answer)
answer_lacks (Ok Done) = refl
answer_lacks (Ok Begun) = refl
answer_lacks (Ok (Count (pos n))) = decimal_lacks 124 n refl
answer_lacks (Ok (Count (negsuc n))) = decimal_lacks 124 (suc n) refl
answer_lacks (Ok (Bits bits)) = decimal_lacks 124 bits refl
answer_lacks (Ok (Number number)) = decimal_lacks 124 number refl
answer_lacks (Ok (Bytes bytes)) = either_lacks (length bytes.items == 0) (codes "-") (encode_lower bytes.items) refl (hex_lacks bytes.items)
answer_lacks (Ok (Chosen None)) = refl
answer_lacks (Ok (Chosen (Some thread))) = decimal_lacks 124 thread.0 refl
answer_lacks (Ok (Handed None more)) = refl
answer_lacks (Ok (Handed (Some thread) true)) = list_all-append (λ b. not (b == 124)) (decimal thread.0) (codes " more") ∙ rw (decimal_lacks 124 thread.0 refl) refl
answer_lacks (Ok (Handed (Some thread) false)) = decimal_lacks 124 thread.0 refl
answer_lacks (Ok TimedOut) = refl
answer_lacks (Err (Raced first second)) = refl
answer_lacks (Err _) = refl

lacks_drop : (c : ℕ) (text : List ℕ) (i : ℕ) → Lacks c text → Lacks c (drop i text)
lacks_drop c text zero h = h
lacks_drop c [] (suc i) h = refl
lacks_drop c (x ∷ text) (suc i) h = lacks_drop c text i (and_parts (not (x == c)) (list_all (λ b. not (b == c)) text) h).1

no_bar : (text : List ℕ) → Lacks 124 text → around_part bar text ≡ None
no_bar text h = around_none bar text (λ i inside rest e. false≢true (subst (Lacks 124) e (lacks_drop 124 text i h)))

call_named : (made : Call) (answer : List ℕ) → CallFits made → Lacks 124 answer → entry_names (call_text made) answer ≡ call_lane made
call_named made answer fits h = rw (no_bar answer h) (named_in made fits ∙ on_lane (told_in made) (kinds made) fits)

-- ---- how a call looks

no_pass : (made : Call) → value_told (codes "as") (told_in made) ≡ None
no_pass call.Now = refl
no_pass _ = refl

begins : (made : Call) → starts_with nat_eq (call_text made) (codes "finish") ≡ ends_wait made
begins call.Now = refl
begins _ = refl

shape_by : (made : Call) (answer : Result Reply Refusal)
    → (if names_refusal (outcome_text answer) then shape.Refused else if bytes_eq (outcome_text answer) (codes "begun") then shape.Begun else if ends_wait made then shape.Ended else shape.Answered)
    ≡ call_shape made answer
shape_by made (Ok Done) = refl
shape_by made (Ok Begun) = refl
shape_by made (Ok (Count count)) = refl
shape_by made (Ok (Bits bits)) = refl
shape_by made (Ok (Number number)) = refl
shape_by made (Ok (Bytes bytes)) = refl
shape_by made (Ok (Chosen None)) = refl
shape_by made (Ok (Chosen (Some thread))) = refl
shape_by made (Ok (Handed None more)) = refl
shape_by made (Ok (Handed (Some thread) true)) = refl
shape_by made (Ok (Handed (Some thread) false)) = refl
shape_by made (Ok TimedOut) = refl
shape_by made (Err (Raced first second)) = refl
shape_by made (Err _) = refl

answered_by : (made : Call) (answer : Result Reply Refusal) → CallFits made → answered_shape (call_text made) (outcome_text answer) ≡ call_shape made answer
answered_by made answer fits =
    let none = call_value made fits (codes "as") refl ∙ ap text_told (no_pass made) in
    rw (none, begins made) (shape_by made answer)

call_shaped : (made : Call) (answer : Result Reply Refusal) → CallFits made → entry_shape (call_text made) (outcome_text answer) ≡ call_shape made answer
call_shaped made answer fits =
    let whole : outcome (outcome_text answer) ≡ outcome_text answer = ap (λ (o : Option (List ℕ × List ℕ)). option_map_or (λ cut. cut.0) o (outcome_text answer)) (no_bar (outcome_text answer) (answer_lacks answer)) in
    ap (answered_shape (call_text made)) whole ∙ answered_by made answer fits

-- ---- the line of a step

pub step_marked : (line : TraceLine) (number : Option ℕ) (step : Step) (answer : Result Reply Refusal) → StepFits step → says_of line.says ≡ entry (step_parts number step answer)
    → mark_of line ≡ Some (step_told line.text.now step answer)
step_marked line number step answer fits said = by line.says said
  where
    text : List ℕ
    text = line.text.now

    by : (says : Says) → says_of says ≡ entry (step_parts number step answer) → marked_by says text ≡ Some (step_told text step answer)
    by (Board b) e = absurd (cc)
    by (Play p) e = absurd (cc)
    by (Entry e) is =
        let same : parts_of e ≡ step_parts number step answer = cc in
        let thread : e.thread ≡ step.who.0 = ap (λ (p : EntryParts). p.thread) same in
        let called : e.call.now ≡ call_text step.call = ap (λ (p : EntryParts). p.call) same in
        let answered : e.answer.now ≡ outcome_text answer = ap (λ (p : EntryParts). p.answer) same in
        let names : entry_names e.call.now e.answer.now ≡ call_lane step.call = (λ i. entry_names (called i) (answered i)) ∙ call_named step.call (outcome_text answer) fits.1 (answer_lacks answer) in
        let looks : entry_shape e.call.now e.answer.now ≡ call_shape step.call answer = (λ i. entry_shape (called i) (answered i)) ∙ call_shaped step.call answer fits.1 in
        λ i. Some (record { line = text; lane = Thread (thread i); names = names i; shape = looks i })
