-- Worked rows, computed from the definitions.
use Rattle.std.proofs.Common.{◌≡◌, ℕ, pos, neg_ℤ, [], ◌∷◌, true, Some, None, Ok, Err, refl}
use Rattle.evl_base.specs.declared.refusal.Refusal.TheVariants.{Again, Invalid, Range}
use Rattle.evl_base.specs.declared.take.Take.{Take}
use Rattle.evl_base.specs.declared.take.Take.TheVariants.{Any, Of, Exact}
use Rattle.evl_sync.specs.declared.flag_waiter.FlagWaiter.{FlagWaiter}
use Rattle.evl_sync.specs.declared.waiter.Waiter.{Waiter}
use Rattle.evl_sync.specs.FlagGroups as flags
use Rattle.evl_sync.specs.FlagGroups.{FlagGroup, after_walk, post_refusal, take_refusal}
use Rattle.evl_sync.specs.Queues.{enqueued_by}
use Rattle.evl_sync.specs.Semaphores as sems
use Rattle.evl_sync.specs.Semaphores.{Semaphore}

abbrev waiter : ℕ → ℕ → Waiter
waiter thread rank = record { thread = thread; rank = rank }

abbrev wants : ℕ → ℕ → Take → FlagWaiter
wants thread rank kind = record { thread = thread; rank = rank; kind = kind }

abbrev begun : ℕ → ℕ → Semaphore → Semaphore
begun thread rank q = (sems.begin_get (waiter thread rank) q).1

-- thread 1 of rank 522 and thread 2 of rank 532 wait, in that order
abbrev two_wait : Semaphore
two_wait = begun 2 532 (begun 1 522 (sems.opened_semaphore 0))

waits_1-queue : two_wait.waiters ≡ waiter 2 532 ∷ waiter 1 522 ∷ []
waits_1-queue = refl

waits_1-count : sems.peek two_wait ≡ neg_ℤ (pos 2)
waits_1-count = refl

waits_1-put : sems.put_count two_wait ≡ Ok (Some 2, record { count = 0; waiters = waiter 1 522 ∷ [] })
waits_1-put = refl

waits_1-again : sems.try_get two_wait ≡ Err Again
waits_1-again = refl

-- of equal ranks the first to come; a greater rank goes past them
queue_order : enqueued_by (λ w. w.rank) (waiter 4 522) (waiter 2 532 ∷ waiter 1 522 ∷ waiter 3 5 ∷ []) ≡ waiter 2 532 ∷ waiter 1 522 ∷ waiter 4 522 ∷ waiter 3 5 ∷ []
queue_order = refl

queue_order-greatest : enqueued_by (λ w. w.rank) (waiter 4 600) (waiter 2 532 ∷ waiter 1 522 ∷ []) ≡ waiter 4 600 ∷ waiter 2 532 ∷ waiter 1 522 ∷ []
queue_order-greatest = refl

-- the first one waits no more: the next put serves the other
dropped_waiter : sems.put_count (sems.drop_waiter 2 two_wait) ≡ Ok (Some 1, record { count = 0; waiters = [] })
dropped_waiter = refl

dropped_waiter-stranger : sems.drop_waiter 3 two_wait ≡ two_wait
dropped_waiter-stranger = refl

-- a wait that is served at once
served_at_once : sems.begin_get (waiter 1 522) (sems.opened_semaphore 1) ≡ (true, sems.opened_semaphore 0)
served_at_once = refl

first_semaphore-put : sems.put_count (sems.opened_semaphore 0) ≡ Ok (None, sems.opened_semaphore 1)
first_semaphore-put = refl

first_semaphore-get : sems.try_get (sems.opened_semaphore 1) ≡ Ok (tt, sems.opened_semaphore 0)
first_semaphore-get = refl

first_semaphore-peek : sems.peek (sems.opened_semaphore 0) ≡ pos 0
first_semaphore-peek = refl

-- the greatest count
greatest_count : sems.put_count (sems.opened_semaphore 2147483647) ≡ Err Range
greatest_count = refl

greatest_count-below : sems.put_count (sems.opened_semaphore 2147483646) ≡ Ok (None, sems.opened_semaphore 2147483647)
greatest_count-below = refl

-- threads 1 and 2 wait, of ranks 532 and 522
abbrev two_want : FlagGroup
two_want = (flags.begin_take (wants 2 522 (Of 1)) (flags.begin_take (wants 1 532 (Exact 6)) (flags.opened_group 0)).1).1

flag_waiters-begun : two_want.waiters ≡ wants 1 532 (Exact 6) ∷ wants 2 522 (Of 1) ∷ []
flag_waiters-begun = refl

flag_waiters-first_post : flags.post 2 two_want ≡ record { served = []; waiting = two_want.waiters; left = 2 }
flag_waiters-first_post = refl

flag_waiters-second_post : flags.post 5 (after_walk (flags.post 2 two_want)) ≡ record { served = (1, 6) ∷ (2, 1) ∷ []; waiting = []; left = 0 }
flag_waiters-second_post = refl

flag_waiters-nothing : post_refusal 0 ≡ Some Invalid
flag_waiters-nothing = refl

flags_and_buffers_3-empty_mask : flags.try_take (Of 0) (flags.opened_group 3) ≡ Err Invalid
flags_and_buffers_3-empty_mask = refl

flags_and_buffers_3-exact : flags.try_take (Exact 4) (flags.opened_group 3) ≡ Err Again
flags_and_buffers_3-exact = refl

flags_and_buffers_3-of : flags.try_take (Of 2) (flags.opened_group 3) ≡ Ok (2, flags.opened_group 1)
flags_and_buffers_3-of = refl

flags_and_buffers_3-any : flags.try_take Any (flags.opened_group 1) ≡ Ok (1, flags.opened_group 0)
flags_and_buffers_3-any = refl

empty_mask-exact : take_refusal (Exact 0) ≡ Some Invalid
empty_mask-exact = refl

any-nothing : flags.try_take Any (flags.opened_group 0) ≡ Err Again
any-nothing = refl

-- a mask of which half is there
half-of : flags.try_take (Of 6) (flags.opened_group 3) ≡ Ok (2, flags.opened_group 1)
half-of = refl

half-exact : flags.try_take (Exact 6) (flags.opened_group 3) ≡ Err Again
half-exact = refl

-- the first of three waiters takes the bits that the second wants; the third is served
abbrev three_want : FlagGroup
three_want = record { bits = 0; waiters = wants 3 600 (Of 1) ∷ wants 1 532 (Exact 3) ∷ wants 2 522 Any ∷ [] }

one_walk : flags.post 7 three_want ≡ record { served = (3, 1) ∷ (2, 6) ∷ []; waiting = wants 1 532 (Exact 3) ∷ []; left = 0 }
one_walk = refl

-- who comes later and is satisfied at once goes past the waiters, whatever their ranks
past_waiters : flags.begin_take (wants 3 5 (Of 2)) (after_walk (flags.post 2 two_want)) ≡ (Some 2, record two_want { bits = 0 })
past_waiters = refl

past_waiters-try : flags.try_take Any (after_walk (flags.post 2 two_want)) ≡ Ok (2, record two_want { bits = 0 })
past_waiters-try = refl

-- bits that nobody takes stay
kept_bits : flags.post 8 two_want ≡ record { served = []; waiting = two_want.waiters; left = 8 }
kept_bits = refl
