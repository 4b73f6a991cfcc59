-- Texts in XML, and the titles of a picture's marks.
use Rattle.std.specs.Prelude.{ℕ, ◌==◌, List, [], ◌∷◌, ◌++◌, codes, if◌then◌else◌}

-- a byte as XML has it in a text
abbrev pub escaped_byte : ℕ → List ℕ
escaped_byte c =
    if c == 38 then codes "&amp;"
    else if c == 60 then codes "&lt;"
    else if c == 62 then codes "&gt;"
    else c ∷ []

abbrev pub escaped : List ℕ → List ℕ
escaped [] = []
escaped (c ∷ rest) = escaped_byte c ++ escaped rest

-- the title of the mark of a line
abbrev pub title_text : List ℕ → List ℕ
title_text line = codes "<title>" ++ (escaped line ++ codes "</title>")
