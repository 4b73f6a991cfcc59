-- The kernel's fields as contracts see them.
use Rattle.std.specs.Prelude.{ℕ, ◌-◌, ◌/◌, ◌≤◌, ◌<◌, length, min, vec_len, vec_capacity}
use Rattle.evl_kernel.specs.state.Limits.{history_limit, play_limit}
use Rattle.evl_kernel.specs.histories.Histories.{IsLegal}
use Rattle.evl_kernel.specs.state.Callbacks.{handlers_in}
use Rattle.evl_kernel.specs.state.Records.{state_of, whereabouts}
use Rattle.evl_kernel.specs.state.KernelViews.{KernelView}
use Rattle.evl_kernel.specs.declared.kernel.KernelOf.TheInside.{Inside}

-- how many calls find their room where so many more entries and plays fit, and so many boxes are kept, one for each
abbrev pub calls_in : ℕ → ℕ → ℕ → ℕ
calls_in entries plays boxes = min (min entries (plays / play_limit)) boxes

abbrev pub kernel_view : {C A : Type 0} → Inside C A → KernelView C
kernel_view k = record {
  history = record { board = k.board; bank = handlers_in k.records.bank; entries = k.history.entries; plays = k.plays.items; state = state_of k.records };
  callbacks = whereabouts k.records;
  limit = k.limit;
  room = calls_in k.history.room (vec_capacity k.plays - vec_len k.plays) k.spares;
}

-- rule: A history below its fence is below its limit, the plays have room for a call's, and a box is kept; with room
--   for an entry a call looks for nothing else. No public clause speaks of the fence.
--   clauses: Kernel::apply: full, memory, room
-- where a history is shorter than the fence, it is below its limit, there is room for the plays of a call, and a box
abbrev pub IsFence : ℕ → ℕ → ℕ → ℕ → ℕ → Type 0
IsFence limit plays boxes length fence = length < fence → (fence ≤ limit) × (play_limit ≤ plays) × (1 ≤ boxes)

pub record KernelIsSound {C A : Type 0} (k : Inside C A) : Type 0 where
  pub legal : IsLegal (kernel_view k).history
  pub within : length k.history.entries ≤ k.limit
  pub limit : k.limit ≤ history_limit
  pub fence : IsFence k.limit (vec_capacity k.plays - vec_len k.plays) k.spares (length k.history.entries) k.fence
