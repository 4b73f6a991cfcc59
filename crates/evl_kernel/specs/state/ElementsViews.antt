-- The elements as contracts see them: their records, and the base ranks that the recorded owners were given.
use Rattle.std.specs.Prelude.{ℕ, List}
use Rattle.evl_mutex.specs.Owners.{Owners}
use Rattle.evl_kernel.specs.state.States.{Elements}

pub record ElementsView : Type 0 where
  pub elements : Elements
  -- of each thread
  pub base : List ℕ

abbrev pub owners_of : ElementsView → Owners
owners_of v = record { base = v.base; mutexes = v.elements.mutexes }
