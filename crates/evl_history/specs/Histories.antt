-- A history as contracts see it.
use Rattle.std.specs.Prelude.{ℕ, List}
use Rattle.evl_base.specs.declared.call.Call.{Call}
use Rattle.evl_base.specs.declared.entry.Entry.{Entry}
use Rattle.evl_base.specs.declared.refusal.Refusal.{Refusal}
use Rattle.evl_base.specs.declared.reply.Reply.{Reply}
use Rattle.std.specs.Prelude.{Result}

pub record HistoryView : Type 0 where
  pub entries : List Entry
  -- for how many entries more there is room, whatever they are
  pub room : ℕ

-- rule: The entry that is made comes after all entries, with its caller, call, answer and number of plays, whatever row it
--   has; all others stay.
--   clauses: History::{new, push, push_put, push_get, push_transfer, clear}
-- the entry of a call with its answer and the number of its plays
abbrev pub made_entry : ℕ → Call → Result Reply Refusal → ℕ → Entry
made_entry caller asked answer plays = record { caller = record { 0 = caller }; call = asked; reply = answer; plays = plays }
