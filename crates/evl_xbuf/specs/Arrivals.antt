-- The queues go by arrival alone.
use Rattle.std.specs.Prelude.{ℕ, ◌≡◌, List, [], ◌∷◌, ◌++◌, map}
use Rattle.evl_xbuf.specs.Streams.{Stream, Service, Wrote, Got, services_made}

-- the readers that were served, in order
abbrev pub readers_in : List Service → List ℕ
readers_in [] = []
readers_in (Got thread bytes ∷ others) = thread ∷ readers_in others
readers_in (Wrote thread ∷ others) = readers_in others

-- the writers that were served, in order
abbrev pub writers_in : List Service → List ℕ
writers_in [] = []
writers_in (Got thread bytes ∷ others) = writers_in others
writers_in (Wrote thread ∷ others) = thread ∷ writers_in others

-- those who were served stood first in their queues, and the others stand as they stood
pub record GoesByArrival (s : Stream) (services : List Service) (after : Stream) : Type 0 where
  pub readers : map (λ r. r.thread) s.readers ≡ readers_in services ++ map (λ r. r.thread) after.readers
  pub writers : map (λ w. w.thread) s.writers ≡ writers_in services ++ map (λ w. w.thread) after.writers

abbrev pub ServicesGoByArrival : Type 0
ServicesGoByArrival = (s : Stream) → GoesByArrival s (services_made s).0 (services_made s).1
