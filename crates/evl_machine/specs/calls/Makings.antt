-- The elements that a machine is made with.
use Rattle.std.specs.Prelude.{◌≡◌, length, map}
use Rattle.std.specs.List.{range_with_len}
use Rattle.evl_base.specs.declared.board.Board.{Board}
use Rattle.evl_words.specs.GateCalls.{new_seat}
use Rattle.evl_machine.specs.declared.elements.making.Elements.{Elements}
use Rattle.evl_machine.specs.stax_locks.StaxSeats.{AreGatesOf}
use Rattle.evl_core.specs.words.MutexPlaces.{new_places}

-- a gate for each stax of the board, and each thread's seats at them and places at the mutexes
pub record AreMade {A : Type 0} (board : Board) (made : Elements A) : Type 0 where
  pub gates : AreGatesOf board.staxes.items board.threads made.gates
  pub kinds : made.kinds.items ≡ board.mutexes.items
  pub staxes : made.staxes.items ≡ map (λ k. map (λ g. new_seat g k) made.gates) (range_with_len 0 board.threads)
  pub places : made.places.items ≡ map (new_places (length board.mutexes.items)) (range_with_len 0 board.threads)
