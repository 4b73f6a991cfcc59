-- A history's fields as contracts see them.
use Rattle.std.specs.Prelude.{ℕ, ◌*◌, ◌-◌, ◌/◌, ◌≤◌, map, min, vec_len, vec_capacity}
use Rattle.evl_history.specs.Histories.{HistoryView}
use Rattle.evl_history.specs.Limits.{transfer_limit}
use Rattle.evl_history.specs.Rows.{AreWithin, decode}
use Rattle.evl_history.specs.declared.history.History.TheInside.{Inside}

-- rule: There is room for an entry more exactly as far as it was made, whatever the entry is.
--   clauses: History::{has_room, reserve, push, push_put, push_get, push_transfer, clear}
-- for how many entries there is room where so many more rows, wide entries and bytes fit
abbrev pub room_in : ℕ → ℕ → ℕ → ℕ
room_in rows wide bytes = min (min rows wide) (bytes / transfer_limit)

abbrev pub history_view : {A : Type 0} → Inside A → HistoryView
history_view h = record {
  entries = map (decode h.wide.items h.bytes.items) h.rows.items;
  room = room_in (vec_capacity h.rows - vec_len h.rows) (vec_capacity h.wide - vec_len h.wide) (vec_capacity h.bytes - vec_len h.bytes);
}

pub record HistoryIsSound {A : Type 0} (h : Inside A) : Type 0 where
  pub within : AreWithin h.wide.items h.bytes.items h.rows.items
  pub few_wide : vec_len h.wide ≤ vec_len h.rows
  pub few_bytes : vec_len h.bytes ≤ transfer_limit * vec_len h.rows
