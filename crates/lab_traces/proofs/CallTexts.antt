-- The text of a call has no arrow and no line feed.
use Rattle.std.proofs.Common.{arith, ◌≡◌, ℕ, zero, suc, ◌<◌, ◌^◌, ◌/◌, ◌%◌, ◌==◌, nat_le, Bool, true, false, not, ◌&&◌, List, [], ◌∷◌, ◌++◌, length, codes, decimal, slice_index, if◌then◌else◌, Option, Some, None, inl, inr, refl, ◌∙◌}
use Rattle.std.proofs.lemmas.Bool.{and_parts, cases_lt}
use Rattle.std.proofs.lemmas.Bool.Decides.{nat_tests}
use Rattle.std.proofs.lemmas.Fmt.{decimal_is_IsNumeral}
use Rattle.std.proofs.lemmas.List.Folds.{list_all-append}
use Rattle.std.specs.Char.{digit_value}
use Rattle.std.specs.List.{list_all}
use Rattle.std.specs.Str.Parse.{AllDigits}
use Rattle.hex.specs.Hex.{IsBytes, encode_lower, encode_with, lower_digits}
use Rattle.evl_base.specs.Call.{call_text}
use Rattle.evl_base.specs.Calls.{Parts, parts, fields_of, name_of, parts_of, told_by, word_in}
use Rattle.evl_base.specs.Fields.{Told, a_byte, a_half, a_word, a_number, a_stage, a_policy, a_take, a_way, a_bytes, a_until, a_truth, Key, Values, keys_text, told_as, keyed_values, truth_text, until_text, value_text}
use Rattle.evl_base.specs.Policy.{policy_text}
use Rattle.evl_base.specs.Stage.{stage_text}
use Rattle.evl_base.specs.Take.{take_text}
use Rattle.evl_base.specs.Way.{bytes_text, way_text}
use Rattle.evl_base.specs.declared.call.Call.{Call}
use Rattle.evl_base.specs.declared.call.StepWord.{StepWord}
use Rattle.evl_base.specs.declared.call.StepWord.TheVariants.{Pick}
use Rattle.evl_base.specs.declared.policy.Policy.{Policy}
use Rattle.evl_base.specs.declared.policy.Policy.TheVariants.{Fifo, Rr, Quota, Weak}
use Rattle.evl_base.specs.declared.stage.Stage.{Stage}
use Rattle.evl_base.specs.declared.stage.Stage.TheVariants.{Inband, Oob}
use Rattle.evl_base.specs.declared.take.Take.{Take}
use Rattle.evl_base.specs.declared.take.Take.TheVariants.{Any, Of, Exact}
use Rattle.evl_base.specs.declared.way.Way.{Way}
use Rattle.evl_base.specs.declared.way.Way.TheVariants.{In, Out}
use Rattle.evl_scenario.specs.Widths.{AllFit, BytesFit, CallFits, Fits, PolicyFits, TakeFits, UntilFits}
use Rattle.lab_traces.specs.Parts.{Lacks}

-- a byte from the space on, but for the point of an arrow and an equals sign
abbrev is_inner : ℕ → Bool
is_inner c = nat_le 32 c && (not (c == 62) && not (c == 61))

record IsInner (text : List ℕ) : Type 0 where
  all : list_all is_inner text ≡ true

literal : (text : List ℕ) → list_all is_inner text ≡ true → IsInner text
literal text h = record { all = h }

join : {a b : List ℕ} → IsInner a → IsInner b → IsInner (a ++ b)
join {a} {b} p q = record { all = list_all-append is_inner a b ∙ rw (p.all, q.all) refl }

inner_digit : (c : ℕ) → digit_value c < 10 → is_inner c ≡ true
inner_digit c h = grind (arith, nat_tests)

inner_digits : (ds : List ℕ) → AllDigits 10 ds → list_all is_inner ds ≡ true
inner_digits [] h = refl
inner_digits (c ∷ ds) h = rw (inner_digit c h.0, inner_digits ds h.1) refl

number : (n : ℕ) → n < 2 ^ 64 → IsInner (decimal n)
number n small = record { all = inner_digits (decimal n) ((decimal_is_IsNumeral n small).0.1) }

stage_inner : (stage : Stage) → IsInner (stage_text stage)
stage_inner Inband = literal (codes "inband") refl
stage_inner Oob = literal (codes "oob") refl

way_inner : (way : Way) → IsInner (way_text way)
way_inner In = literal (codes "in") refl
way_inner Out = literal (codes "out") refl

truth_inner : (truth : Bool) → IsInner (truth_text truth)
truth_inner true = literal (codes "true") refl
truth_inner false = literal (codes "false") refl

policy_inner : (policy : Policy) → PolicyFits policy → IsInner (policy_text policy)
policy_inner (Fifo prio) fits = join (literal (codes "fifo ") refl) (number prio (omega (arith, fits)))
policy_inner (Rr prio slice) fits = join (join (join (literal (codes "rr ") refl) (number prio (omega (arith, fits.0)))) (literal (codes " ") refl)) (number slice fits.1)
policy_inner (Quota group prio) fits = join (join (join (literal (codes "quota ") refl) (number group (omega (arith, fits.0)))) (literal (codes " ") refl)) (number prio (omega (arith, fits.1)))
policy_inner (Weak prio) fits = join (literal (codes "weak ") refl) (number prio (omega (arith, fits)))

take_inner : (take : Take) → TakeFits take → IsInner (take_text take)
take_inner Any fits = literal (codes "any") refl
take_inner (Of mask) fits = join (literal (codes "of ") refl) (number mask (omega (arith, fits)))
take_inner (Exact mask) fits = join (literal (codes "exact ") refl) (number mask (omega (arith, fits)))

until_inner : (until : Option ℕ) → UntilFits until → IsInner (until_text until)
until_inner None fits = literal (codes "none") refl
until_inner (Some date) fits = number date fits

-- ---- bytes

inner_below : ℕ → Bool
inner_below zero = true
inner_below (suc n) = is_inner (slice_index lower_digits n) && inner_below n

inner_below-at : (n k : ℕ) → inner_below n ≡ true → k < n → is_inner (slice_index lower_digits k) ≡ true
unfolding inner_below
inner_below-at zero k h lt = absurd (omega arith)
inner_below-at (suc n) k h lt =
    let parts = and_parts (is_inner (slice_index lower_digits n)) (inner_below n) h in
    elim (cases_lt k n) [
      | inl below ↦ inner_below-at n k parts.1 below
      | inr top ↦
          let e : k ≡ n = omega arith in
          rw e parts.0
    ]

inner_hex_digit : (d : ℕ) → d < 16 → is_inner (slice_index lower_digits d) ≡ true
unfolding inner_below
inner_hex_digit d h = inner_below-at 16 d refl h

inner_hex : (bytes : List ℕ) → IsBytes bytes → list_all is_inner (encode_lower bytes) ≡ true
unfolding encode_with
inner_hex [] h = refl
inner_hex (b ∷ rest) h =
    let byte : b < 256 = h 0 in
    rw (inner_hex_digit (b / 16) (omega arith), inner_hex_digit (b % 16) (omega arith), inner_hex rest (λ i. h (suc i))) refl

either_inner : (v : Bool) (a b : List ℕ) → IsInner a → IsInner b → IsInner (if v then a else b)
either_inner true a b p q = p
either_inner false a b p q = q

bytes_inner : (bytes : List ℕ) → BytesFit bytes → IsInner (bytes_text bytes)
bytes_inner bytes fits = either_inner (length bytes == 0) (codes "-") (encode_lower bytes) (literal (codes "-") refl) (literal (encode_lower bytes) (inner_hex bytes fits.0))

-- ---- calls

value_inner : (value : Told) → Fits value → IsInner (value_text value)
value_inner (a_byte n) h = number n (omega (arith, h))
value_inner (a_half n) h = number n (omega (arith, h))
value_inner (a_word n) h = number n (omega (arith, h))
value_inner (a_number n) h = number n h
value_inner (a_stage s) h = stage_inner s
value_inner (a_policy p) h = policy_inner p h
value_inner (a_take t) h = take_inner t h
value_inner (a_way w) h = way_inner w
value_inner (a_bytes b) h = bytes_inner b.items h
value_inner (a_until u) h = until_inner u h
value_inner (a_truth b) h = truth_inner b

-- a value has no equals sign
lacks_equals : (text : List ℕ) → list_all is_inner text ≡ true → Lacks 61 text
lacks_equals [] h = refl
lacks_equals (c ∷ rest) h =
    let (here, more) = and_parts (is_inner c) (list_all is_inner rest) h in
    let apart : not (c == 61) ≡ true = (and_parts (not (c == 62)) (not (c == 61)) (and_parts (nat_le 32 c) (not (c == 62) && not (c == 61)) here).1).1 in
    rw (apart, lacks_equals rest more) refl

pub value-no_equals : (value : Told) → Fits value → Lacks 61 (value_text value)
value-no_equals value fits = lacks_equals (value_text value) (value_inner value fits).all

-- ---- whole calls

-- a byte from the space on, but for the point of an arrow
abbrev is_said : ℕ → Bool
is_said c = nat_le 32 c && not (c == 62)

record IsSaid (text : List ℕ) : Type 0 where
  all : list_all is_said text ≡ true

literal_said : (text : List ℕ) → list_all is_said text ≡ true → IsSaid text
literal_said text h = record { all = h }

join_said : {a b : List ℕ} → IsSaid a → IsSaid b → IsSaid (a ++ b)
join_said {a} {b} p q = record { all = list_all-append is_said a b ∙ rw (p.all, q.all) refl }

said_byte : (c : ℕ) → is_inner c ≡ true → is_said c ≡ true
said_byte c h =
    let (high, others) = and_parts (nat_le 32 c) (not (c == 62) && not (c == 61)) h in
    rw (high, (and_parts (not (c == 62)) (not (c == 61)) others).0) refl

said_bytes : (text : List ℕ) → list_all is_inner text ≡ true → list_all is_said text ≡ true
said_bytes [] h = refl
said_bytes (c ∷ rest) h = let (here, more) = and_parts (is_inner c) (list_all is_inner rest) h in rw (said_byte c here, said_bytes rest more) refl

inner_said : {text : List ℕ} → IsInner text → IsSaid text
inner_said {text} h = record { all = said_bytes text h.all }

all_said : (keys : List Key) (values : Values keys) → list_all (λ key. list_all is_inner key.name) keys ≡ true → AllFit (keyed_values keys values) → IsSaid (keys_text (keyed_values keys values))
all_said [] values names fits = literal_said [] refl
all_said (key ∷ keys) values names fits =
    let (here, more) = and_parts (list_all is_inner key.name) (list_all (λ k. list_all is_inner k.name) keys) names in
    let rest = join_said (inner_said (value_inner (told_as key.kind values.0) fits.0)) (all_said keys values.1 more fits.1) in
    join_said (literal_said (codes " ") refl) (join_said (inner_said (literal key.name here)) (join_said (literal_said (codes "=") refl) rest))

names_inner : (step : StepWord) → (list_all is_inner (name_of step) && list_all (λ key. list_all is_inner key.name) (fields_of step)) ≡ true
names_inner Pick = refl
names_inner _ = refl

whole_said : (p : Parts) → AllFit (told_by p) → IsSaid (name_of (word_in p) ++ keys_text (told_by p))
whole_said (parts step values) fits =
    let (name, keys) = and_parts (list_all is_inner (name_of step)) (list_all (λ key. list_all is_inner key.name) (fields_of step)) (names_inner step) in
    join_said (inner_said (literal (name_of step) name)) (all_said (fields_of step) values keys fits)

call_bytes : (call : Call) → CallFits call → IsSaid (call_text call)
call_bytes call fits = whole_said (parts_of call) fits

said_point : (c : ℕ) → is_said c ≡ true → not (c == 62) ≡ true
said_point c h = (and_parts (nat_le 32 c) (not (c == 62)) h).1

lacks_point : (text : List ℕ) → list_all is_said text ≡ true → Lacks 62 text
lacks_point [] h = refl
lacks_point (c ∷ rest) h = let (here, more) = and_parts (is_said c) (list_all is_said rest) h in rw (said_point c here, lacks_point rest more) refl

pub call-no_arrow : (call : Call) → CallFits call → Lacks 62 (call_text call)
call-no_arrow call fits = lacks_point (call_text call) (call_bytes call fits).all
