-- Plain texts: in TOML they stand between quotes as they are.
use Rattle.std.proofs.Common.{arith, ◌≡◌, ℕ, nat_le, ◌==◌, Bool, true, false, not, ◌&&◌, List, [], ◌∷◌, ◌++◌, codes, refl, ap, ◌∙◌}
use Rattle.std.proofs.lemmas.Bool.{and_parts}
use Rattle.std.proofs.lemmas.Bool.Decides.{nat_tests}
use Rattle.std.proofs.lemmas.List.Folds.{list_all-append}
use Rattle.std.specs.List.{list_all, list_any}
use Rattle.toml_parser.specs.Lexical.{is_non_eol, line_feed, quote, backslash}
use Rattle.toml_writer.specs.Text.{is_control, needs_escape, quotes_after, escaped, has, encoding_of, basic, string_text}

-- a byte from the space to the tilde, but for a quote and a backslash
abbrev pub is_plain : ℕ → Bool
is_plain c = (nat_le 32 c && nat_le c 126) && (not (c == 34) && not (c == 92))

abbrev pub IsPlain : List ℕ → Type 0
IsPlain text = list_all is_plain text ≡ true

-- what is known of a plain byte
abbrev PlainByte : ℕ → Type 0
PlainByte c = (is_control c ≡ false) × ((c == quote) ≡ false) × ((c == backslash) ≡ false) × ((c == line_feed) ≡ false) × ((c == 9) ≡ false) × (is_non_eol c ≡ true)

plain_byte : (c : ℕ) → is_plain c ≡ true → PlainByte c
plain_byte c h = grind (arith, nat_tests)

plain_escape : (c : ℕ) → is_plain c ≡ true → (needs_escape false 0 c ≡ false) × (quotes_after false 0 c ≡ 0)
unfolding needs_escape quotes_after
plain_escape c h =
    let p = plain_byte c h in
    rw (p.5, p.1, p.2, p.3, p.4) (refl, refl)

none_control : (s : List ℕ) → IsPlain s → list_any is_control s ≡ false
none_control [] h = refl
none_control (c ∷ s) h = let (here, more) = and_parts (is_plain c) (list_all is_plain s) h in rw ((plain_byte c here).0) (none_control s more)

none_quote : (s : List ℕ) → IsPlain s → has quote s ≡ false
none_quote [] h = refl
none_quote (c ∷ s) h = let (here, more) = and_parts (is_plain c) (list_all is_plain s) h in rw ((plain_byte c here).1) (none_quote s more)

none_backslash : (s : List ℕ) → IsPlain s → has backslash s ≡ false
none_backslash [] h = refl
none_backslash (c ∷ s) h = let (here, more) = and_parts (is_plain c) (list_all is_plain s) h in rw ((plain_byte c here).2) (none_backslash s more)

none_line_feed : (s : List ℕ) → IsPlain s → has line_feed s ≡ false
none_line_feed [] h = refl
none_line_feed (c ∷ s) h = let (here, more) = and_parts (is_plain c) (list_all is_plain s) h in rw ((plain_byte c here).3) (none_line_feed s more)

escaped-plain : (s : List ℕ) → IsPlain s → escaped false 0 s ≡ s
unfolding escaped
escaped-plain [] h = refl
escaped-plain (c ∷ s) h =
    let (here, more) = and_parts (is_plain c) (list_all is_plain s) h in
    let (bare, quotes) = plain_escape c here in
    rw (bare, quotes) (ap (λ (t : List ℕ). c ∷ t) (escaped-plain s more))

basic-plain : (s : List ℕ) → IsPlain s → encoding_of s ≡ basic
unfolding encoding_of
basic-plain s h = rw (none_control s h, none_quote s h, none_backslash s h, none_line_feed s h) refl

-- a plain text between quotes
pub string_text-plain : (s : List ℕ) → IsPlain s → string_text s ≡ codes "\"" ++ (s ++ codes "\"")
unfolding string_text
string_text-plain s h = rw (basic-plain s h, escaped-plain s h) refl

pub plain-append : (a b : List ℕ) → IsPlain a → IsPlain b → IsPlain (a ++ b)
plain-append a b p q = list_all-append is_plain a b ∙ rw (p, q) refl
