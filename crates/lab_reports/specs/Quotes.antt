-- Texts of JSON.
use Rattle.std.specs.Prelude.{ℕ, List}
use Rattle.serde_json.specs.Data.{string}
use Rattle.serde_json.specs.Written.{compact_text}

-- a text in quotes, with escapes
abbrev pub json_text : List ℕ → List ℕ
json_text text = compact_text (string text)
