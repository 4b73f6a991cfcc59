-- A folder's places for the traces of texts.
use Rattle.std.specs.Prelude.{ℕ, ◌==◌, Bool, not, ◌||◌, List, [], ◌++◌, codes, length, drop, map, nat_eq, nat_lt, if◌then◌else◌, unwrap_or}
use Rattle.std.specs.Bool.{beq}
use Rattle.std.specs.List.{concat, filter, slice_split, starts_with}
use Rattle.std.specs.Str.{bytes_eq}
use Rattle.lab_traces.specs.Parts.{before_end}

-- a part of a path leads on: it is a name, or the way up
abbrev pub is_step : List ℕ → Bool
is_step part = not (bytes_eq part [] || bytes_eq part (codes "."))

-- one that leads down names a folder or a file
abbrev pub is_name : List ℕ → Bool
is_name part = not (bytes_eq part [] || (bytes_eq part (codes ".") || bytes_eq part (codes "..")))

-- the steps that a path takes, between its slashes, and whether it takes them from the root
abbrev pub steps_in : List ℕ → List (List ℕ)
steps_in path = filter is_step (slice_split (λ b. b == 47) path)

abbrev pub is_rooted : List ℕ → Bool
is_rooted path = starts_with nat_eq path (codes "/")

-- how many steps are those of a folder: all that it has, if they begin with them
abbrev pub begun : List (List ℕ) → List (List ℕ) → ℕ
begun folder steps = if starts_with bytes_eq steps folder then length folder else 0

-- and if they go on below it
abbrev pub shared : List (List ℕ) → List (List ℕ) → ℕ
shared folder steps = if nat_lt (length folder) (length steps) then begun folder steps else 0

-- the steps after those of a folder
abbrev pub below : List (List ℕ) → List (List ℕ) → List (List ℕ)
below folder steps = drop (shared folder steps) steps

-- the names that a file's path has below a folder, or all that it has, if the file isn't there
abbrev pub names_below : List ℕ → List ℕ → List (List ℕ)
names_below folder file = filter is_name (if beq (is_rooted folder) (is_rooted file) then below (steps_in folder) (steps_in file) else steps_in file)

abbrev pub behind_slash : List ℕ → List ℕ
behind_slash name = codes "/" ++ name

-- a path without `.toml` at its end
abbrev pub stem_of : List ℕ → List ℕ
stem_of path = unwrap_or (before_end (codes ".toml") path) path

-- a folder's path, of which an empty one is that of the program's own
abbrev pub base_of : List ℕ → List ℕ
base_of folder = if length folder == 0 then codes "." else folder

-- The trace of a file is in the folders that the file is in, below the folder of traces; a file in that folder has it beside itself.
abbrev pub trace_path : List ℕ → List ℕ → List ℕ
trace_path folder file = stem_of (base_of folder ++ concat (map behind_slash (names_below folder file))) ++ codes ".trace"
