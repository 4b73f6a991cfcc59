-- All that the words after `orders` ask for, by what was found of them.
use Rattle.std.specs.Prelude.{◌≡◌, codes, true, false, Some, None}
use Rattle.clap.specs.Words.{first_value}
use Rattle.clap.specs.declared.parser.matches.Found.{Found}
use Rattle.lab_streams.specs.Words.{is_set, number_at}
use Rattle.lab_streams.specs.declared.words.Shown.{Shown}
use Rattle.lab_streams.specs.declared.words.Shown.TheVariants.{Report, Json, Outcome, State, Alone, Order, Answers}

-- none of these words is there
pub record IsPlain (found : Found) : Type 0 where
  pub json : is_set found (codes "json") ≡ false
  pub ask : is_set found (codes "ask") ≡ false
  pub order : first_value found (codes "order") ≡ None

-- this is printed of all orders, or this order alone is asked for, by the first of these words that is there
abbrev pub Shows : Found → Shown → Type 0
Shows found Json = is_set found (codes "json") ≡ true
Shows found Alone = (is_set found (codes "json") ≡ false) × (is_set found (codes "ask") ≡ true)
Shows found (Order text) = (is_set found (codes "json") ≡ false) × (is_set found (codes "ask") ≡ false) × (first_value found (codes "order") ≡ Some text.now)
Shows found (Outcome number) = IsPlain found × (number_at found (codes "outcome") ≡ Some number)
Shows found (State number) = IsPlain found × (number_at found (codes "outcome") ≡ None) × (number_at found (codes "state") ≡ Some number)
Shows found Answers = IsPlain found × (number_at found (codes "outcome") ≡ None) × (number_at found (codes "state") ≡ None) × (is_set found (codes "answers") ≡ true)
Shows found Report = IsPlain found × (number_at found (codes "outcome") ≡ None) × (number_at found (codes "state") ≡ None) × (is_set found (codes "answers") ≡ false)
