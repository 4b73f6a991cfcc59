-- Other names for the callbacks in timers: each change of the clock comes to the same before and after the renaming.
use Rattle.std.proofs.Common.{◌≡◌, ℕ, zero, suc, ◌+◌, min, nat_lt, Bool, cond, List, [], ◌∷◌, ◌++◌, length, map, replicate, Option, Some, None, is_some, is_none, if◌then◌else◌, refl, sym, ap, ◌∙◌}
use Rattle.std.specs.List.{position_or_len}
use Rattle.std.specs.Option.{option_map}
use Rattle.std.proofs.lemmas.List.{length-map, map-set}
use Rattle.evl_base.specs.declared.refusal.Refusal.TheVariants.{Unknown}
use Rattle.evl_clock.specs.declared.due.Item.{Item}
use Rattle.evl_clock.specs.declared.timer.Timer.{Timer}
use Rattle.evl_clock.specs.Timers.{made, after_fire, started, stopped}
use Rattle.evl_clock.specs.Clocks.{Clock, opening, timer_at, with_timer, free_place, timer_refusal, with_new_timer, changed, start, stop, dropped}
use Rattle.evl_clock.specs.ClockSteps.{fired}
use Rattle.evl_clock.specs.Limits.{thread_count, timer_count}
use Rattle.evl_clock.specs.Dues.{all_due, due_from, earliest_date, least_date, timer, deadline, timer_date, earliest, next_due, is_due, due_count}
use Rattle.evl_kernel.specs.state.Renamed.{named_timer, renamed_clock}
use Rattle.evl_kernel.proofs.state.RenamedLaws.{lookup-map}

is_some-map : {A B : Type 0} (f : A → B) (o : Option A) → is_some (option_map f o) ≡ is_some o
is_some-map f None = refl
is_some-map f (Some x) = refl

module _ {X Y : Type 0} (name : X → Y) where
  pub timer-renamed : (c : Clock X) (n : ℕ) → timer_at (renamed_clock name c) n ≡ option_map (named_timer name) (timer_at c n)
  timer-renamed c n = lookup-map (named_timer name) c.timers n

  same_date : (t : Option (Timer X)) → timer_date (option_map (named_timer name) t) ≡ timer_date t
  same_date None = refl
  same_date (Some t) = refl

  same_dates : (ts : List (Option (Timer X))) → map timer_date (map (option_map (named_timer name)) ts) ≡ map timer_date ts
  same_dates [] = refl
  same_dates (t ∷ ts) = (λ i. same_date t i ∷ same_dates ts i)

  -- the least date is the same
  pub earliest-renamed : (c : Clock X) → earliest_date (renamed_clock name c) ≡ earliest_date c
  earliest-renamed c = ap (λ (dates : List (Option ℕ)). least_date (dates ++ c.deadlines)) (same_dates c.timers)

  -- the same items are due
  pub due-renamed : (c : Clock X) → all_due (renamed_clock name c) ≡ all_due c
  due-renamed c = ap (λ (dates : List (Option ℕ)). due_from timer c.now 0 dates ++ due_from deadline c.now 0 c.deadlines) (same_dates c.timers)

  pub next-renamed : (c : Clock X) → next_due (renamed_clock name c) ≡ next_due c
  unfolding next_due
  next-renamed c = ap (λ (items : List (ℕ × Item)). option_map (λ d. d.1) (earliest items)) (due-renamed c)

  pub is_due-renamed : (c : Clock X) → is_due (renamed_clock name c) ≡ is_due c
  is_due-renamed c = ap is_some (next-renamed c)

  pub count-renamed : (c : Clock X) → due_count (renamed_clock name c) ≡ due_count c
  unfolding due_count
  count-renamed c = ap (λ (items : List (ℕ × Item)). length items) (due-renamed c)

  first-mapped : (ts : List (Option (Timer X))) → position_or_len is_none (map (option_map (named_timer name)) ts) ≡ position_or_len is_none ts
  first-mapped [] = refl
  first-mapped (None ∷ ts) = refl
  first-mapped (Some t ∷ ts) = ap (λ (k : ℕ). 1 + k) (first-mapped ts)

  pub free-renamed : (c : Clock X) → free_place (renamed_clock name c) ≡ free_place c
  free-renamed c = (λ i. cond (nat_lt (first-mapped c.timers i) (length-map c.timers (option_map (named_timer name)) i)) (Some (first-mapped c.timers i)) None)

  pub refusal-renamed : (c : Clock X) (n : ℕ) → timer_refusal (renamed_clock name c) n ≡ timer_refusal c n
  refusal-renamed c n = ap (λ (b : Bool). if b then None else Some Unknown) (ap is_some (timer-renamed c n) ∙ is_some-map (named_timer name) (timer_at c n))

  pub with-renamed : (c : Clock X) (n : ℕ) (t : Option (Timer X)) → renamed_clock name (with_timer c n t) ≡ with_timer (renamed_clock name c) n (option_map (named_timer name) t)
  with-renamed c n t = ap (λ (ts : List (Option (Timer Y))). record { now = c.now; timers = ts; deadlines = c.deadlines }) (map-set (option_map (named_timer name)) c.timers n t)

  pub new-renamed : (c : Clock X) (n : ℕ) (callback : X) (tag : ℕ) → renamed_clock name (with_new_timer c n callback tag) ≡ with_new_timer (renamed_clock name c) n (name callback) tag
  new-renamed c n callback tag = with-renamed c n (Some (made callback tag))

  pub dropped-renamed : (c : Clock X) (n : ℕ) → renamed_clock name (dropped c n) ≡ dropped (renamed_clock name c) n
  dropped-renamed c n = with-renamed c n None

  pub fired-renamed : (c : Clock X) (n : ℕ) (at : Timer X) → renamed_clock name (fired c n at) ≡ fired (renamed_clock name c) n (named_timer name at)
  fired-renamed c n at = with-renamed c n (Some (after_fire c.now at))

  map-changed : (f : Timer X → Timer X) (g : Timer Y → Timer Y) → ((t : Timer X) → named_timer name (f t) ≡ g (named_timer name t)) → (o : Option (Timer X))
      → option_map (named_timer name) (option_map f o) ≡ option_map g (option_map (named_timer name) o)
  map-changed f g same None = refl
  map-changed f g same (Some t) = ap Some (same t)

  changed-renamed : (f : Timer X → Timer X) (g : Timer Y → Timer Y) → ((t : Timer X) → named_timer name (f t) ≡ g (named_timer name t)) → (c : Clock X) (n : ℕ)
      → renamed_clock name (changed f c n) ≡ changed g (renamed_clock name c) n
  changed-renamed f g same c n = with-renamed c n (option_map f (timer_at c n))
      ∙ ap (with_timer (renamed_clock name c) n) (map-changed f g same (timer_at c n) ∙ ap (option_map g) (sym (timer-renamed c n)))

  pub start-renamed : (c : Clock X) (n date interval : ℕ) → renamed_clock name (start c n date interval) ≡ start (renamed_clock name c) n date interval
  start-renamed c n date interval = changed-renamed (λ t. started t date interval) (λ t. started t date interval) (λ t. refl) c n

  pub stop-renamed : (c : Clock X) (n : ℕ) → renamed_clock name (stop c n) ≡ stop (renamed_clock name c) n
  stop-renamed c n = changed-renamed stopped stopped (λ t. refl) c n

  nothing-mapped : (n : ℕ) → map (option_map (named_timer name)) (replicate n None) ≡ replicate n None
  nothing-mapped zero = refl
  nothing-mapped (suc n) = ap (λ (ts : List (Option (Timer Y))). None ∷ ts) (nothing-mapped n)

  pub clock-opening : (threads : ℕ) → renamed_clock name (opening threads) ≡ opening threads
  unfolding opening
  clock-opening threads = ap (λ (ts : List (Option (Timer Y))). record { now = 0; timers = ts; deadlines = replicate (min threads thread_count) None }) (nothing-mapped timer_count)
