-- The output about a word, whether it is a call's or not.
use Rattle.std.proofs.Common.{◌≡◌, ℕ, List, Bool, true, false, refl}
use Rattle.lab_live.specs.Helps.{call_help}
use Rattle.lab_json.specs.Calls.{call_named}
use Rattle.lab.specs.Helps.{HelpsJsonWith, HelpsWith, no_call_text}
use Rattle.lab_streams.specs.Outputs.{prints, refuses}

pub is_helped : (is_call : Bool) (word : List ℕ) → is_call ≡ true → HelpsWith is_call word (prints (call_help word))
is_helped true word is = refl
is_helped false word is = cc

pub is_no_call : (is_call : Bool) (word : List ℕ) → is_call ≡ false → HelpsWith is_call word (refuses 3 (no_call_text word))
is_no_call false word isnt = refl
is_no_call true word isnt = cc

-- ---- as JSON

pub is_helped_json : (is_call : Bool) (word : List ℕ) → is_call ≡ true → HelpsJsonWith is_call word (prints (call_named word))
is_helped_json true word is = refl
is_helped_json false word is = cc

pub is_no_call_json : (is_call : Bool) (word : List ℕ) → is_call ≡ false → HelpsJsonWith is_call word (refuses 3 (no_call_text word))
is_no_call_json false word isnt = refl
is_no_call_json true word isnt = cc
