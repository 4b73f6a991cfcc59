-- All that the words after `draw`, `play`, `live` and `orders` ask for, by what was found of them.
use Rattle.std.specs.Prelude.{◌≡◌, ℕ, List, codes, Bool, true, false, if◌then◌else◌, Option, Some, None, option_and_then}
use Rattle.std.specs.Option.{option_map_or}
use Rattle.std.specs.Str.{bytes_eq}
use Rattle.clap.specs.Words.{first_value, one_text}
use Rattle.clap.specs.declared.parser.matches.Found.{Found}
use Rattle.evl_shell.specs.Arguments.{number_of}
use Rattle.lab_streams.specs.declared.words.Form.{Form}
use Rattle.lab_streams.specs.declared.words.Form.TheVariants.{Svg, Events}
use Rattle.lab_streams.specs.declared.words.Way.{Way}
use Rattle.lab_streams.specs.declared.words.Way.TheVariants.{Down, Across, Fitting}
use Rattle.lab_streams.specs.declared.words.Telling.{Telling}
use Rattle.lab_streams.specs.declared.words.Telling.TheVariants.{Trace, Json, Against}

-- a word that takes no value is there
abbrev pub is_set : Found → List ℕ → Bool
is_set found id = option_map_or (λ text. bytes_eq text (codes "true")) (one_text found id) false

-- the number after a word
abbrev pub number_at : Found → List ℕ → Option ℕ
number_at found id = option_and_then number_of (one_text found id)

-- the form of a picture
abbrev pub form_of : Found → Form
form_of found = if is_set found (codes "perfetto") then Events else Svg

-- the way that a picture goes, by the word that is there
abbrev pub way_of : Found → Way
way_of found =
    if is_set found (codes "down") then Down
    else if is_set found (codes "across") then Across
    else Fitting

-- this is asked for of scenarios that are played
abbrev pub AsksFor : Found → Telling → Type 0
AsksFor found Json = is_set found (codes "json") ≡ true
AsksFor found (Against folder) = (is_set found (codes "json") ≡ false) × (first_value found (codes "against") ≡ Some folder.now)
AsksFor found Trace = (is_set found (codes "json") ≡ false) × (first_value found (codes "against") ≡ None)
