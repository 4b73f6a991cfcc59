use Rattle.std.proofs.Common.{◌≡◌, ◌++◌, ℕ, map, take, drop, length}
use Rattle.evl_mutex.specs.Mutexes.{Mutex, opened_mutex}
use Rattle.evl_mutex.specs.Views.{mutexes_of, HaveRoom}
use Rattle.evl_mutex.proofs.mutex_record.clear_all.Given as goal

abbrev pub invariant-loop-i : goal.invariant-loop-i
invariant-loop-i g l = record {
  length : length l.mutexes.items ≡ length l.fn.mutexes.items;
  opened : mutexes_of l.mutexes.items ≡ map (λ (m : Mutex). opened_mutex m.kind) (take l.i (mutexes_of l.fn.mutexes.items)) ++ drop l.i (mutexes_of l.fn.mutexes.items);
  room : (room : ℕ) → HaveRoom room l.fn.mutexes.items → HaveRoom room l.mutexes.items;
}
