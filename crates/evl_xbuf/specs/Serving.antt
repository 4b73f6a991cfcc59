-- Serving waiters one by one, as it goes on.
use Rattle.std.specs.Prelude.{suc, ◌≡◌, ◌≤◌, ◌⊎◌, ◌+◌, List, [], ◌∷◌, ◌++◌, length, Some}
use Rattle.evl_base.specs.Limits.{thread_limit}
use Rattle.evl_xbuf.specs.Streams.{HasOneQueue, Stream, Service, next_service, services_made, waiting}
use Rattle.evl_xbuf.specs.Services.{read_by}

-- readers are served with what is there alone
abbrev pub Fit : List Service → Stream → Type 0
Fit done s = (s.readers ≡ []) ⊎ (length (read_by done) + length s.there ≤ 256)

-- one waiter was served, and is the last of those that were
pub record ServesOne (s : Stream) (done : List Service) (mid : Stream) (more : List Service) : Type 0 where
  pub one : Service
  pub is : next_service s ≡ Some (one, mid)
  pub told : more ≡ done ++ one ∷ []
  pub fewer : waiting s ≡ suc (waiting mid)
  pub one_queue : HasOneQueue mid
  pub fit : Fit more mid

abbrev pub after_these : List Service → List Service × Stream → List Service × Stream
after_these done (others, end) = (done ++ others, end)

-- some were served, and the rest is yet to be served
pub record Serves (start : Stream) (done : List Service) (now : Stream) : Type 0 where
  pub whole : after_these done (services_made now) ≡ services_made start
  pub one_queue : HasOneQueue now
  pub few : length done + waiting now ≤ thread_limit
  pub fit : Fit done now
