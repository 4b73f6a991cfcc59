-- The board and the limit of a scenario.
use Rattle.std.specs.Prelude.{ℕ, ◌&&◌, Bool, List, [], ◌∷◌, if◌then◌else◌, Option, Some, None, option_map, option_and_then, unwrap_or, codes}
use Rattle.toml.specs.Data.{Data, Members, get_member}
use Rattle.evl_base.specs.Limits.{flags_limit, sem_limit}
use Rattle.evl_base.specs.Board.{board_fits}
use Rattle.evl_base.specs.Limits.{is_within}
use Rattle.evl_base.specs.declared.board.Board.{Board}
use Rattle.evl_scenario.specs.Tables.{has_only, value_at, list_of}
use Rattle.evl_scenario.specs.Values.{word_from, half_word_from, byte_from, ring_sizes_from, mutex_kind_from}

-- the board's lists, with so many threads
abbrev pub board_with : ℕ → Members → Option Board
board_with threads ms =
    option_and_then (λ sems.
    option_and_then (λ flags.
    option_and_then (λ xbufs.
    option_and_then (λ mutexes.
    option_map (λ groups. record {
      threads = threads;
      sems = record { items = sems };
      flags = record { items = flags };
      xbufs = record { items = xbufs };
      mutexes = record { items = mutexes };
      groups = record { items = groups };
      staxes = record { items = [] };
    })
    (list_of byte_from 16 (get_member (codes "groups") ms)))
    (list_of mutex_kind_from 32 (get_member (codes "mutexes") ms)))
    (list_of ring_sizes_from 16 (get_member (codes "xbufs") ms)))
    (list_of word_from flags_limit (get_member (codes "flags") ms)))
    (list_of word_from sem_limit (get_member (codes "sems") ms))

abbrev pub board_keys : List (List ℕ)
board_keys = codes "threads" ∷ codes "sems" ∷ codes "flags" ∷ codes "xbufs" ∷ codes "mutexes" ∷ codes "groups" ∷ []

abbrev pub in_range : Board → Option Board
in_range board = if board_fits board then Some board else None

-- the board that a table's lists mean, with so many threads
abbrev pub elements_of : ℕ → Members → Option Board
elements_of threads ms = option_and_then in_range (board_with threads ms)

-- the board that a table means
abbrev pub board_of : Members → Option Board
board_of ms = if has_only board_keys ms then option_and_then (λ threads. elements_of threads ms) (value_at half_word_from (codes "threads") ms) else None

-- how many entries a history may be limited to
abbrev pub is_limit : ℕ → Bool
is_limit n = is_within 1 1000000 n

-- the limit of a document
abbrev pub own_limit : Option Data → Option ℕ
own_limit None = Some 1000
own_limit (Some value) = word_from value

-- the limit that is handed in, or that of the document
abbrev pub limit_with : Option ℕ → ℕ → Option ℕ
limit_with given own = if is_limit own && is_limit (unwrap_or given own) then Some (unwrap_or given own) else None

abbrev pub limit_of : Option ℕ → Members → Option ℕ
limit_of given ms = option_and_then (limit_with given) (own_limit (get_member (codes "limit") ms))
