-- Worked rows, computed from the definitions.
use Rattle.std.proofs.Common.{◌≡◌, [], ◌∷◌, codes, refl, None, Some}
use Rattle.lab_faults.specs.Keys.{behind, entry, text_headings, text_keys}
use Rattle.lab_faults.specs.Pieces.{pieces, pieces_from, word}
use Rattle.lab_faults.specs.Quotes.{unquoted_at}
use Rattle.lab_faults.specs.declared.items.Section.TheVariants.{Opening, Board, Step}
use Rattle.lab_faults.specs.declared.tokens.Kind.TheVariants.{Equals, EndLine}

-- a quote that is escaped closes no text, and of a comment nothing is a piece
quoted_and_comment :
    pieces (codes "a = \"x\\\"y\" # z\n") ≡
    word 0 1 ∷ record { kind = Equals; from = 2; to = 3 } ∷ word 4 10 ∷ record { kind = EndLine; from = 14; to = 15 } ∷ []
unfolding pieces_from
quoted_and_comment = refl

-- between single quotes nothing is escaped
single_quotes : pieces (codes "'\\'b") ≡ word 0 3 ∷ word 3 4 ∷ []
unfolding pieces_from
single_quotes = refl

-- a text that isn't closed is no piece
not_closed : pieces (codes "a \"b # c") ≡ word 0 1 ∷ []
unfolding pieces_from
not_closed = refl

-- headings, and the keys below them
two_headings :
    text_headings (codes "[board]\nthreads = 1\n[[step]]\ndo = \"now\"\n") ≡
    record { section = Board; name = (1, 6) } ∷ record { section = Step 1; name = (22, 26) } ∷ []
unfolding text_headings pieces_from behind entry
two_headings = refl

keys_below :
    text_keys (codes "[board]\nthreads = 1\n[[step]]\ndo = \"now\"\n") ≡
    record { section = Board; key = (8, 15); value = (18, 19) } ∷ record { section = Step 1; key = (29, 31); value = (34, 39) } ∷ []
unfolding text_keys pieces_from behind entry
keys_below = refl

-- steps in a list
listed_steps :
    text_keys (codes "step = [{ do = 1 }, { do = [2, 3] }]\n") ≡
    record { section = Opening; key = (0, 4); value = (7, 9) } ∷ record { section = Step 1; key = (10, 12); value = (15, 16) }
    ∷ record { section = Step 2; key = (22, 24); value = (27, 33) } ∷ []
unfolding text_keys pieces_from behind entry
listed_steps = refl

-- words without quotes go up to the end of the value; a number is none
words_at :
    unquoted_at (codes "policy = fifo 10 # so\nwho = 1\n") (text_keys (codes "policy = fifo 10 # so\nwho = 1\n")) 9 ≡
    Some (record { section = Opening; key = (0, 6); value = (9, 16) })
unfolding text_keys pieces_from behind entry
words_at = refl

number_at : unquoted_at (codes "who = 1\n") (text_keys (codes "who = 1\n")) 6 ≡ None
unfolding text_keys pieces_from behind entry
number_at = refl
