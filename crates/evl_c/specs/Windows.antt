-- The part of a text that is in a caller's buffer.
use Rattle.std.specs.Prelude.{ℕ, List, ◌++◌, length, take, drop}

-- the bytes of a text from a place on, as many as there is room for, and after them what was there before
abbrev pub window : List ℕ → ℕ → List ℕ → List ℕ
window text start room = take (length room) (drop start text) ++ drop (length (drop start text)) room
