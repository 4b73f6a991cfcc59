-- The values of the keys of a call: the kinds of values, the keys of a form with their values, and their texts in a trace.
use Rattle.std.specs.Prelude.{ℕ, List, [], ◌∷◌, ◌++◌, codes, Bool, true, false, Option, Some, None, ◌||◌, if◌then◌else◌}
use Rattle.std.specs.Fmt.{decimal}
use Rattle.std.specs.Str.{bytes_eq}
use Rattle.arrayvec.specs.ArrayVec.{ArrayVec}
use Rattle.evl_base.specs.Policy.{policy_text}
use Rattle.evl_base.specs.Stage.{stage_text}
use Rattle.evl_base.specs.Take.{take_text}
use Rattle.evl_base.specs.Way.{bytes_text, way_text}
use Rattle.evl_base.specs.declared.fields.Field.{Field}
use Rattle.evl_base.specs.declared.fields.Field.TheVariants as field
use Rattle.evl_base.specs.declared.fields.Fields.{Fields}
use Rattle.evl_base.specs.declared.fields.Fields.TheVariants as fields
use Rattle.evl_base.specs.declared.fields.Kind.{Kind}
use Rattle.evl_base.specs.declared.fields.Kind.TheVariants as kind
use Rattle.evl_base.specs.declared.fields.Named.{Named}
use Rattle.evl_base.specs.declared.policy.Policy.{Policy}
use Rattle.evl_base.specs.declared.stage.Stage.{Stage}
use Rattle.evl_base.specs.declared.take.Take.{Take}
use Rattle.evl_base.specs.declared.way.Way.{Way}

-- ---- values

-- the value of a key of this kind
abbrev pub Value : Kind → Type 0
Value kind.Byte = ℕ
Value kind.Half = ℕ
Value kind.Word = ℕ
Value kind.Number = ℕ
Value kind.Stage = Stage
Value kind.Policy = Policy
Value kind.Take = Take
Value kind.Way = Way
Value kind.Bytes = ArrayVec ℕ
Value kind.Until = Option ℕ
Value kind.Truth = Bool

-- ---- keys

-- a key, the kind of its value, and the value that is taken where the key may be left out
pub record Key : Type 0 where
  pub name : List ℕ
  pub kind : Kind
  pub default : Option (Value kind)

abbrev pub required_key : Kind → List ℕ → Key
required_key kind name = record { name = name; kind = kind; default = None }

abbrev pub optional_key : (kind : Kind) → Value kind → List ℕ → Key
optional_key kind default name = record { name = name; kind = kind; default = Some default }

-- the kind of the value of a key of this name, in each call that has it
unfoldable pub kind_named : List ℕ → Kind
kind_named key =
    if bytes_eq key (codes "callback") then kind.Byte
    else if bytes_eq key (codes "tag") || bytes_eq key (codes "bits") then kind.Word
    else if bytes_eq key (codes "delta") || (bytes_eq key (codes "date") || bytes_eq key (codes "interval")) then kind.Number
    else if bytes_eq key (codes "stage") then kind.Stage
    else if bytes_eq key (codes "policy") then kind.Policy
    else if bytes_eq key (codes "kind") then kind.Take
    else if bytes_eq key (codes "way") then kind.Way
    else if bytes_eq key (codes "bytes") then kind.Bytes
    else if bytes_eq key (codes "until") then kind.Until
    else if bytes_eq key (codes "keep") then kind.Truth
    else kind.Half

-- a value for each of these keys
abbrev pub Values : List Key → Type 0
Values [] = Unit {0}
Values (key ∷ keys) = Value key.kind × Values keys

-- ---- keys with their values

-- a value of any kind
pub data Told : Type 0 where
  a_byte : ℕ → Told
  a_half : ℕ → Told
  a_word : ℕ → Told
  a_number : ℕ → Told
  a_stage : Stage → Told
  a_policy : Policy → Told
  a_take : Take → Told
  a_way : Way → Told
  a_bytes : ArrayVec ℕ → Told
  a_until : Option ℕ → Told
  a_truth : Bool → Told

abbrev pub told_as : (kind : Kind) → Value kind → Told
told_as kind.Byte x = a_byte x
told_as kind.Half x = a_half x
told_as kind.Word x = a_word x
told_as kind.Number x = a_number x
told_as kind.Stage x = a_stage x
told_as kind.Policy x = a_policy x
told_as kind.Take x = a_take x
told_as kind.Way x = a_way x
told_as kind.Bytes x = a_bytes x
told_as kind.Until x = a_until x
told_as kind.Truth x = a_truth x

-- a key with its value
abbrev pub Keyed : Type 0
Keyed = List ℕ × Told

abbrev pub keyed_values : (keys : List Key) → Values keys → List Keyed
keyed_values [] values = []
keyed_values (key ∷ keys) values = (key.name, told_as key.kind values.0) ∷ keyed_values keys values.1

-- ---- texts in a trace

-- the date of a deadline, or `none`
abbrev pub until_text : Option ℕ → List ℕ
until_text None = codes "none"
until_text (Some date) = decimal date

abbrev pub truth_text : Bool → List ℕ
truth_text true = codes "true"
truth_text false = codes "false"

-- the value of a key
abbrev pub value_text : Told → List ℕ
value_text (a_byte x) = decimal x
value_text (a_half x) = decimal x
value_text (a_word x) = decimal x
value_text (a_number x) = decimal x
value_text (a_stage x) = stage_text x
value_text (a_policy x) = policy_text x
value_text (a_take x) = take_text x
value_text (a_way x) = way_text x
value_text (a_bytes x) = bytes_text x.items
value_text (a_until x) = until_text x
value_text (a_truth x) = truth_text x

-- a space, the key and its value, for each of these
abbrev pub keys_text : List Keyed → List ℕ
keys_text [] = []
keys_text (keyed ∷ rest) = codes " " ++ (keyed.0 ++ (codes "=" ++ (value_text keyed.1 ++ keys_text rest)))

-- ---- what the code has

abbrev pub seen : Field → Told
seen (field.Byte x) = a_byte x
seen (field.Half x) = a_half x
seen (field.Word x) = a_word x
seen (field.Number x) = a_number x
seen (field.Stage x) = a_stage x
seen (field.Policy x) = a_policy x
seen (field.Take x) = a_take x
seen (field.Way x) = a_way x
seen (field.Bytes x) = a_bytes x.now
seen (field.Until x) = a_until x
seen (field.Truth x) = a_truth x

abbrev pub told_of : Named → Keyed
told_of named = (named.key.now, seen named.field)

abbrev pub all_told : Fields → List Keyed
all_told fields.Zero = []
all_told (fields.One first) = told_of first ∷ []
all_told (fields.Two first second) = told_of first ∷ told_of second ∷ []
all_told (fields.Three first second third) = told_of first ∷ told_of second ∷ told_of third ∷ []
all_told (fields.Four first second third fourth) = told_of first ∷ told_of second ∷ told_of third ∷ told_of fourth ∷ []
