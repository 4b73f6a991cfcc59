-- The date of each item that is due, at its place; and how many items are due after each of them fell due.
use Rattle.std.proofs.Common.{◌≡◌, ℕ, suc, zero, ◌+◌, ◌*◌, ◌/◌, ◌-◌, ◌^◌, ◌==◌, ◌≤◌, ◌<◌, ⊎_elim, Bool, true, false, nat_le, nat_lt, List, [], ◌∷◌, length, map, Option, Some, None, if◌then◌else◌, option_map, slice_index_or, slice_set, refl, sym, ap, ◌∙◌, arith, length-append}
use Rattle.std.proofs.lemmas.Bool.Decides.{nat_tests}
use Rattle.std.proofs.lemmas.List.{length-map}
use Rattle.std.proofs.Math.Nat.{lt-mul-div-succ}
use Rattle.evl_pipeline.proofs.PortLaws.{at-map, map-set}
use Rattle.evl_clock.specs.declared.due.Item.{Item}
use Rattle.evl_clock.specs.declared.due.Item.TheVariants as item
use Rattle.evl_clock.specs.declared.timer.Timer.{Timer}
use Rattle.evl_clock.specs.declared.timer_state.TimerState.{TimerState}
use Rattle.evl_clock.specs.declared.timer_state.TimerState.TheVariants.{Idle, Running, Ended}
use Rattle.evl_clock.specs.Clocks.{Clock, IsSoundClock, timer_at, deadline_at, with_timer, with_deadline, dropped, stop}
use Rattle.evl_clock.specs.ClockSteps.{fired}
use Rattle.evl_clock.specs.Dues.{all_due, deadline, due_count, due_from, due_of, next_due, timer, timer_date}
use Rattle.evl_clock.specs.Limits.{thread_count, timer_count}
use Rattle.evl_clock.specs.Searching.{deadlines_due, least_in, sooner_item, timers_due}
use Rattle.evl_clock.specs.Timers.{after_fire, date_of, missed_of, next_date, state_after, stopped}
use Rattle.evl_clock.proofs.LeastLaws.{earliest-least, either, least-append}

-- what is found lies at a place, and is due
pub record Stands (kind : ℕ → Item) (now n : ℕ) (dates : List (Option ℕ)) (d : ℕ × Item) : Type 0 where
  pub place : ℕ
  pub item_is : d.1 ≡ kind (n + place)
  pub dated : slice_index_or dates place None ≡ Some d.0
  pub due : nat_le d.0 now ≡ true

one_due : (now t : ℕ) (x : Item) (d : ℕ × Item) (b : Bool) → nat_le t now ≡ b → least_in (if b then (t, x) ∷ [] else []) ≡ Some d → (d.1 ≡ x) × (Some t ≡ Some d.0) × (nat_le d.0 now ≡ true)
one_due now t x d true e f = let is : (t, x) ≡ d = cc in (sym (ap (λ p. p.1) is), ap (λ p. Some p.0) is, ap (λ p. nat_le p.0 now) (sym is) ∙ e)
one_due now t x d false e f = absurd (cc)

at_first : (kind : ℕ → Item) (now n : ℕ) (date : Option ℕ) (dates : List (Option ℕ)) (d : ℕ × Item) → least_in (due_of now date (kind n)) ≡ Some d → Stands kind now n (date ∷ dates) d
at_first kind now n None dates d e = absurd (cc)
at_first kind now n (Some t) dates d e =
    let is = one_due now t (kind n) d (nat_le t now) refl e in
    let same : n ≡ n + 0 = omega arith in
    record { place = 0; item_is = is.0 ∙ ap kind same; dated = is.1; due = is.2 }

later : (kind : ℕ → Item) (now n : ℕ) (date : Option ℕ) (dates : List (Option ℕ)) (d : ℕ × Item) → Stands kind now (n + 1) dates d → Stands kind now n (date ∷ dates) d
later kind now n date dates d s =
    let same : n + 1 + s.place ≡ n + suc s.place = omega arith in
    record { place = suc s.place; item_is = s.item_is ∙ ap kind same; dated = s.dated; due = s.due }

pub stands : (kind : ℕ → Item) (now n : ℕ) (dates : List (Option ℕ)) (d : ℕ × Item) → least_in (due_from kind now n dates) ≡ Some d → Stands kind now n dates d
stands kind now n [] d e = absurd (cc)
stands kind now n (date ∷ dates) d e =
    let found = either (least_in (due_of now date (kind n))) (least_in (due_from kind now (n + 1) dates)) d
    (sym (least-append (due_of now date (kind n)) (due_from kind now (n + 1) dates)) ∙ e) in
    ⊎_elim (λ f. at_first kind now n date dates d f) (λ f. later kind now n date dates d (stands kind now (n + 1) dates d f)) found

length_one : (b : Bool) (x : ℕ × Item) → length (if b then x ∷ [] else []) ≤ 1
length_one true x = omega arith
length_one false x = omega arith

length_due_of : (now : ℕ) (date : Option ℕ) (x : Item) → length (due_of now date x) ≤ 1
length_due_of now None x = omega arith
length_due_of now (Some t) x = length_one (nat_le t now) (t, x)

-- at most as many are due as there are places
pub few_due : (kind : ℕ → Item) (now n : ℕ) (dates : List (Option ℕ)) → length (due_from kind now n dates) ≤ length dates
few_due kind now n [] = omega arith
few_due kind now n (date ∷ dates) =
    omega (arith, length-append (due_of now date (kind n)) (due_from kind now (n + 1) dates), length_due_of now date (kind n), few_due kind now (n + 1) dates)

abbrev one_if : ℕ → Item → Bool → List (ℕ × Item)
one_if t x b = if b then (t, x) ∷ [] else []

-- a date that is due makes place for one that is not
pub one_less : (kind : ℕ → Item) (now n : ℕ) (dates : List (Option ℕ)) (place t : ℕ) (new : Option ℕ) → slice_index_or dates place None ≡ Some t → nat_le t now ≡ true
    → ((x : Item) → due_of now new x ≡ []) → length (due_from kind now n (slice_set dates place new)) + 1 ≡ length (due_from kind now n dates)
one_less kind now n [] place t new e due gone = absurd (cc)
one_less kind now n (date ∷ dates) zero t new e due gone =
    let was : length (due_of now date (kind n)) ≡ 1 = ap (λ d. length (due_of now d (kind n))) e ∙ ap (λ b. length (one_if t (kind n) b)) due in
    let is : length (due_of now new (kind n)) ≡ 0 = ap length (gone (kind n)) in
    omega (
      arith,
      was,
      is,
      length-append (due_of now date (kind n)) (due_from kind now (n + 1) dates),
      length-append (due_of now new (kind n)) (due_from kind now (n + 1) dates),
    )
one_less kind now n (date ∷ dates) (suc place) t new e due gone =
    omega (
      arith,
      one_less kind now (n + 1) dates place t new e due gone,
      length-append (due_of now date (kind n)) (due_from kind now (n + 1) dates),
      length-append (due_of now date (kind n)) (due_from kind now (n + 1) (slice_set dates place new)),
    )

-- what isn't due in place of a date leaves no more due than before
pub no_more_due : (kind : ℕ → Item) (now n : ℕ) (dates : List (Option ℕ)) (place : ℕ) (new : Option ℕ) → ((x : Item) → due_of now new x ≡ [])
    → length (due_from kind now n (slice_set dates place new)) ≤ length (due_from kind now n dates)
no_more_due kind now n [] place new gone = omega arith
no_more_due kind now n (date ∷ dates) zero new gone =
    let is : length (due_of now new (kind n)) ≡ 0 = ap length (gone (kind n)) in
    omega (
      arith,
      is,
      length-append (due_of now date (kind n)) (due_from kind now (n + 1) dates),
      length-append (due_of now new (kind n)) (due_from kind now (n + 1) dates),
    )
no_more_due kind now n (date ∷ dates) (suc place) new gone =
    omega (
      arith,
      no_more_due kind now (n + 1) dates place new gone,
      length-append (due_of now date (kind n)) (due_from kind now (n + 1) dates),
      length-append (due_of now date (kind n)) (due_from kind now (n + 1) (slice_set dates place new)),
    )

-- after a fire a timer isn't due
if_due : (now t : ℕ) (x : Item) → nat_le t now ≡ false → due_of now (Some t) x ≡ []
if_due now t x e = ap (λ b. if b then (t, x) ∷ [] else []) e

not_before : (now t : ℕ) → now < t → nat_le t now ≡ false
not_before now t h = grind (arith, nat_tests)

next_later : (now date interval : ℕ) → (interval == 0) ≡ false → nat_le (next_date now date interval) now ≡ false
next_later now date interval e =
    let some : 0 < interval = grind (arith, nat_tests) in
    let by : missed_of now date interval ≡ (now - date) / interval = ap (λ b. if b then 0 else (now - date) / interval) e in
    let later : now - date < interval * ((now - date) / interval + 1) = lt-mul-div-succ (now - date) some in
    let more : interval * (missed_of now date interval + 1) ≡ interval * ((now - date) / interval + 1) = ap (λ m. interval * (m + 1)) by in
    let past : now < next_date now date interval = omega (arith, later, more) in
    not_before now (next_date now date interval) past

gone_by : (now date interval : ℕ) (x : Item) (zero_interval goes : Bool) → (interval == 0) ≡ zero_interval
    → due_of now (date_of (if zero_interval then Idle else (if goes then Running (next_date now date interval) interval else Ended))) x ≡ []
gone_by now date interval x true goes e = refl
gone_by now date interval x false true e = if_due now (next_date now date interval) x (next_later now date interval e)
gone_by now date interval x false false e = refl

pub gone : (now : ℕ) (s : TimerState) (x : Item) → due_of now (date_of (state_after now s)) x ≡ []
gone now (Running date interval) x = gone_by now date interval x (interval == 0) (nat_lt (next_date now date interval) (2 ^ 64)) refl
gone now Idle x = refl
gone now Ended x = refl

not_timer : (n m : ℕ) → timer n ≡ deadline m → ⊥
not_timer n m e = cc

some_date : (o : Option ℕ) (t : ℕ) → o ≡ None → o ≡ Some t → ⊥
some_date o t e f = cc

abbrev pub number_of : Item → ℕ
number_of (item.Timer id) = id.0
number_of (item.Deadline thread) = thread.0

same_timer : (p n : ℕ) → timer (0 + p) ≡ timer n → p ≡ n
same_timer p n e = omega (arith, ap number_of e)

same_deadline : (p n : ℕ) → deadline (0 + p) ≡ deadline n → p ≡ n
same_deadline p n e = omega (arith, ap number_of e)

module _ {C : Type 0} where
  pub next-least : (c : Clock C) → option_map (λ d. d.1) (sooner_item (least_in (timers_due c)) (least_in (deadlines_due c))) ≡ next_due c
  unfolding next_due
  next-least c = ap (option_map (λ d. d.1)) (sym (least-append (timers_due c) (deadlines_due c)) ∙ sym (earliest-least (all_due c)))

  -- at most as many items are due as there are places
  pub few : (c : Clock C) → IsSoundClock c → due_count c ≤ timer_count + thread_count
  unfolding due_count
  few c sound = omega (
    arith,
    length-append (timers_due c) (deadlines_due c),
    few_due timer c.now 0 (map timer_date c.timers),
    few_due deadline c.now 0 c.deadlines,
    length-map c.timers timer_date,
    sound.timers,
    sound.deadlines,
  )

  -- what is due next is dated, and its date isn't after now
  pub record Dated (c : Clock C) (date : Option ℕ) : Type 0 where
    pub at : ℕ
    pub is : date ≡ Some at
    pub due : nat_le at c.now ≡ true

  from_timer : (c : Clock C) (n : ℕ) (d : ℕ × Item) → d.1 ≡ timer n → Stands timer c.now 0 (map timer_date c.timers) d → Dated c (timer_date (timer_at c n))
  from_timer c n d e s =
      let place : s.place ≡ n = same_timer s.place n (sym s.item_is ∙ e) in
      record { at = d.0; is = ap (λ k. timer_date (timer_at c k)) (sym place) ∙ sym (at-map timer_date c.timers s.place None) ∙ s.dated; due = s.due }

  from_deadline : (c : Clock C) (n : ℕ) (d : ℕ × Item) → d.1 ≡ deadline n → Stands deadline c.now 0 c.deadlines d → Dated c (deadline_at c n)
  from_deadline c n d e s =
      let place : s.place ≡ n = same_deadline s.place n (sym s.item_is ∙ e) in
      record { at = d.0; is = ap (λ k. deadline_at c k) (sym place) ∙ s.dated; due = s.due }

  found_timer : (c : Clock C) (n : ℕ) (l : Option (ℕ × Item)) → sooner_item (least_in (timers_due c)) (least_in (deadlines_due c)) ≡ l → option_map (λ d. d.1) l ≡ Some (timer n) → Dated c (timer_date (timer_at c n))
  found_timer c n None e f = absurd (cc)
  found_timer c n (Some d) e f =
      let is : d.1 ≡ timer n = cc in
      ⊎_elim (λ g. from_timer c n d is (stands timer c.now 0 (map timer_date c.timers) d g))
      (λ g. let s = stands deadline c.now 0 c.deadlines d g in absurd (not_timer n (0 + s.place) (sym is ∙ s.item_is)))
      (either (least_in (timers_due c)) (least_in (deadlines_due c)) d e)

  found_deadline : (c : Clock C) (n : ℕ) (l : Option (ℕ × Item)) → sooner_item (least_in (timers_due c)) (least_in (deadlines_due c)) ≡ l → option_map (λ d. d.1) l ≡ Some (deadline n) → Dated c (deadline_at c n)
  found_deadline c n None e f = absurd (cc)
  found_deadline c n (Some d) e f =
      let is : d.1 ≡ deadline n = cc in
      ⊎_elim (λ g. let s = stands timer c.now 0 (map timer_date c.timers) d g in absurd (not_timer (0 + s.place) n (sym s.item_is ∙ is)))
      (λ g. from_deadline c n d is (stands deadline c.now 0 c.deadlines d g))
      (either (least_in (timers_due c)) (least_in (deadlines_due c)) d e)

  pub next-timer : (c : Clock C) (n : ℕ) → next_due c ≡ Some (timer n) → Dated c (timer_date (timer_at c n))
  next-timer c n e = found_timer c n _ refl (next-least c ∙ e)

  pub next-deadline : (c : Clock C) (n : ℕ) → next_due c ≡ Some (deadline n) → Dated c (deadline_at c n)
  next-deadline c n e = found_deadline c n _ refl (next-least c ∙ e)

  -- a timer without a date isn't due next
  pub not-empty : (c : Clock C) (n : ℕ) → next_due c ≡ Some (timer n) → timer_at c n ≡ None → ⊥
  not-empty c n e none = let d = next-timer c n e in some_date (timer_date (timer_at c n)) d.at (ap timer_date none) d.is

  -- each item that falls due leaves one fewer
  pub fewer-timer : (c : Clock C) (n : ℕ) (at : Timer C) → next_due c ≡ Some (timer n) → timer_at c n ≡ Some at → due_count (fired c n at) + 1 ≡ due_count c
  unfolding due_count
  fewer-timer c n at e there =
      let d = next-timer c n e in
      let new : Option (Timer C) = Some (after_fire c.now at) in
      omega (
        arith,
        length-append (timers_due c) (deadlines_due c),
        length-append (timers_due (fired c n at)) (deadlines_due c),
        ap (λ dates. length (due_from timer c.now 0 dates)) (map-set timer_date c.timers n new),
        one_less timer c.now 0 (map timer_date c.timers) n d.at (timer_date new) (at-map timer_date c.timers n None ∙ d.is) d.due (λ x. gone c.now at.state x),
      )

  pub fewer-deadline : (c : Clock C) (n : ℕ) → next_due c ≡ Some (deadline n) → due_count (with_deadline c n None) + 1 ≡ due_count c
  unfolding due_count
  fewer-deadline c n e =
      let d = next-deadline c n e in
      omega (
        arith,
        length-append (timers_due c) (deadlines_due c),
        length-append (timers_due c) (deadlines_due (with_deadline c n None)),
        one_less deadline c.now 0 c.deadlines n d.at None d.is d.due (λ x. refl),
      )

  no_more : (c : Clock C) (n : ℕ) (t : Option (Timer C)) → ((x : Item) → due_of c.now (timer_date t) x ≡ []) → due_count (with_timer c n t) ≤ due_count c
  unfolding due_count
  no_more c n t gone =
      omega (
        arith,
        length-append (timers_due c) (deadlines_due c),
        length-append (timers_due (with_timer c n t)) (deadlines_due c),
        ap (λ dates. length (due_from timer c.now 0 dates)) (map-set timer_date c.timers n t),
        no_more_due timer c.now 0 (map timer_date c.timers) n (timer_date t) gone,
      )

  stopped-none : (now : ℕ) (t : Option (Timer C)) (x : Item) → due_of now (timer_date (option_map stopped t)) x ≡ []
  stopped-none now None x = refl
  stopped-none now (Some t) x = refl

  -- a stop, a drop and a deadline that is taken away leave no more due
  pub fewer-stop : (c : Clock C) (n : ℕ) → due_count (stop c n) ≤ due_count c
  fewer-stop c n = no_more c n (option_map stopped (timer_at c n)) (λ x. stopped-none c.now (timer_at c n) x)

  pub fewer-dropped : (c : Clock C) (n : ℕ) → due_count (dropped c n) ≤ due_count c
  fewer-dropped c n = no_more c n None (λ x. refl)

  pub fewer-cleared : (c : Clock C) (n : ℕ) → due_count (with_deadline c n None) ≤ due_count c
  unfolding due_count
  fewer-cleared c n =
      omega (
        arith,
        length-append (timers_due c) (deadlines_due c),
        length-append (timers_due c) (deadlines_due (with_deadline c n None)),
        no_more_due deadline c.now 0 c.deadlines n None (λ x. refl),
      )
