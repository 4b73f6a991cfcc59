-- A clock's agenda: what is due next lies last, and each change keeps it.
use Rattle.std.proofs.Common.{◌≡◌, ℕ, suc, zero, ◌+◌, ◌-◌, ◌≤◌, ◌<◌, ◌⊎◌, ⊎_elim, Bool, true, false, nat_lt, List, [], ◌∷◌, ◌++◌, length, length-append, map, min, take, Option, Some, None, IfSome, is_none, replicate, slice_index_or, slice_set, if◌then◌else◌, refl, sym, ap, ◌∙◌, subst, arith}
use Rattle.std.specs.List.{AllByRecursion}
use Rattle.std.proofs.lemmas.Bool.Decides.{nat_tests}
use Rattle.std.proofs.lemmas.List.{get_or_append_left, get_or_default, get_or-append_right, length-map, length-replicate, length-set, set-append_left, set-append_right, set-set}
use Rattle.std.proofs.lemmas.List.Quantifiers.{position-Some}
use Rattle.std.proofs.lemmas.Option.{same_Some}
use Rattle.evl_pipeline.proofs.PortLaws.{at-map, at-none, map-set, within}
use Rattle.evl_clock.specs.declared.agenda.Entry.{Entry}
use Rattle.evl_clock.specs.declared.due.Item.{Item}
use Rattle.evl_clock.specs.declared.due.Item.TheVariants as item
use Rattle.evl_clock.specs.declared.timer.Timer.{Timer}
use Rattle.evl_clock.specs.Agenda.{IsKept, IsOrdered, agenda_from, dates_of, with_date, entry, first_entry as first, is_before, item_at, without_date, place_of}
use Rattle.evl_clock.specs.Clocks.{Clock, IsSoundClock, deadline_at, free_place, timer_at, with_deadline, with_timer}
use Rattle.evl_clock.specs.Dues.{IsBefore, IsDated, IsNextDue, NothingIsDue, deadline, next_due, timer, timer_date}
use Rattle.evl_clock.specs.Limits.{thread_count, timer_count}
use Rattle.evl_clock.specs.Timers.{date_of}
use Rattle.evl_clock.proofs.AgendaLaws.{all-first, all-from, few-without, first-least, first-none, first-taken, from-all, from-none, not-before, ordered-from, place-there, with-place, without-place}
use Rattle.evl_clock.proofs.DueLaws.{next-deadline}
use Rattle.evl_clock.proofs.OrderLaws.{is-next, is-none}

-- the place of an item
abbrev slot : Item → ℕ
slot (item.Timer id) = id.0
slot (item.Deadline thread) = timer_count + thread.0

same_timer : (p n : ℕ) (q : Bool) → nat_lt p timer_count ≡ q → (if q then timer p else deadline (p - timer_count)) ≡ timer n → p ≡ n
same_timer p n true e is = ap slot is
same_timer p n false e is = absurd (cc)

same_deadline : (p n : ℕ) (q : Bool) → nat_lt p timer_count ≡ q → (if q then timer p else deadline (p - timer_count)) ≡ deadline n → p ≡ timer_count + n
same_deadline p n true e is = absurd (cc)
same_deadline p n false e is = let past : timer_count ≤ p = grind (arith, nat_tests) in omega (arith, past, ap slot is)

none_some : (o : Option Item) (a : Item) → o ≡ None → o ≡ Some a → ⊥
none_some o a e f = cc

no_dates : (xs ys : List (Option ℕ)) → ((k : ℕ) → slice_index_or xs k None ≡ None) → ((k : ℕ) → slice_index_or ys k None ≡ None) → (k : ℕ) → slice_index_or (xs ++ ys) k None ≡ None
no_dates [] ys f g k = g k
no_dates (x ∷ xs) ys f g zero = f 0
no_dates (x ∷ xs) ys f g (suc k) = no_dates xs ys (λ m. f (suc m)) g k

module _ {C : Type 0} where
  at_timer : (c : Clock C) (n : ℕ) → n < length c.timers → slice_index_or (dates_of c) n None ≡ timer_date (timer_at c n)
  at_timer c n inside =
      get_or_append_left (map timer_date c.timers) c.deadlines None n (omega (arith, inside, length-map c.timers timer_date)) ∙ at-map timer_date c.timers n None

  at_deadline : (c : Clock C) (n p : ℕ) → IsSoundClock c → p ≡ timer_count + n → slice_index_or (dates_of c) p None ≡ deadline_at c n
  at_deadline c n p sound is =
      get_or-append_right (map timer_date c.timers) c.deadlines timer_count p None (length-map c.timers timer_date ∙ sound.timers) (omega (arith, is))
      ∙ ap (λ k. slice_index_or c.deadlines k None) (minus p n is)
    where
      minus : (p n : ℕ) → p ≡ timer_count + n → p - timer_count ≡ n
      minus p n e = omega (arith, e)

  timer_inside : (c : Clock C) (n t : ℕ) → timer_date (timer_at c n) ≡ Some t → n < length c.timers
  timer_inside c n t e = omega (arith, within (map timer_date c.timers) n t (at-map timer_date c.timers n None ∙ e), length-map c.timers timer_date)

  places : (c : Clock C) → IsSoundClock c → length (dates_of c) ≡ timer_count + length c.deadlines
  places c sound = omega (arith, length-append (map timer_date c.timers) c.deadlines, length-map c.timers timer_date, sound.timers)

  -- each date lies at the place of its item
  dated_slot : (c : Clock C) (t : ℕ) (o : Item) → IsSoundClock c → IsDated c t o → slice_index_or (dates_of c) (slot o) None ≡ Some t
  dated_slot c t (item.Timer id) sound e = at_timer c id.0 (timer_inside c id.0 t e) ∙ e
  dated_slot c t (item.Deadline thread) sound e = at_deadline c thread.0 (timer_count + thread.0) sound refl ∙ e

  slot_dated_by : (c : Clock C) (p t : ℕ) (q : Bool) → nat_lt p timer_count ≡ q → IsSoundClock c → slice_index_or (dates_of c) p None ≡ Some t
      → IsDated c t (if q then timer p else deadline (p - timer_count))
  slot_dated_by c p t true e sound is = let inside : p < length c.timers = grind (arith, nat_tests, sound.timers) in sym (at_timer c p inside) ∙ is
  slot_dated_by c p t false e sound is = let past : p ≡ timer_count + (p - timer_count) = grind (arith, nat_tests) in sym (at_deadline c (p - timer_count) p sound past) ∙ is

  -- of the entries the last one is dated, and no date goes before it

  pub first_dated : (c : Clock C) (xs : List Entry) (room : ℕ) (e : Entry) → IsKept c xs room → first xs ≡ Some e → slice_index_or (dates_of c) e.place None ≡ Some e.date
  first_dated c xs room e h is =
      all-first (λ x. slice_index_or (dates_of c) x.place None ≡ Some x.date) xs e
      (subst (AllByRecursion (λ x. slice_index_or (dates_of c) x.place None ≡ Some x.date)) (sym h.agenda)
      (all-from (λ x. slice_index_or (dates_of c) x.place None ≡ Some x.date) 0 (dates_of c) (λ k t f. ap (λ m. slice_index_or (dates_of c) m None) (from_zero k) ∙ f)))
      is
    where
      from_zero : (k : ℕ) → 0 + k ≡ k
      from_zero k = omega arith

  pub kept-ordered : (c : Clock C) (xs : List Entry) (room : ℕ) → IsKept c xs room → IsOrdered xs
  kept-ordered c xs room h = subst IsOrdered (sym h.agenda) (ordered-from 0 (dates_of c))

  each_dated : (c : Clock C) (xs : List Entry) (room : ℕ) (P : Entry → Type 0) → IsKept c xs room → AllByRecursion P xs → (t : ℕ) (o : Item) → IsDated c t o → P (entry (slot o) t)
  each_dated c xs room P h all t o e =
      subst (λ m. P (entry m t)) (from_zero (slot o)) (from-all P 0 (dates_of c) (subst (AllByRecursion P) h.agenda all) (slot o) t (dated_slot c t o h.sound e))
    where
      from_zero : (k : ℕ) → 0 + k ≡ k
      from_zero k = omega arith

  none_before : (c : Clock C) (xs : List Entry) (room : ℕ) (e : Entry) → IsKept c xs room → first xs ≡ Some e → (t : ℕ) (o : Item) → IsDated c t o
      → (e.date < t) ⊎ ((t ≡ e.date) × (e.place ≤ slot o))
  none_before c xs room e h is t o dated =
      not-before (entry (slot o) t) e (each_dated c xs room (λ x. is_before x e ≡ false) h (first-least xs e (kept-ordered c xs room h) is) t o dated)

  pub none-dated : (c : Clock C) (xs : List Entry) (room : ℕ) → IsKept c xs room → first xs ≡ None → NothingIsDue c
  none-dated c xs room h none = λ t o e. absurd (each_dated c xs room (λ x. ⊥) h (subst (AllByRecursion (λ x. ⊥)) (sym (first-none xs none)) tt) t o e)

  pub all-later : (c : Clock C) (xs : List Entry) (room : ℕ) (e : Entry) → IsKept c xs room → first xs ≡ Some e → c.now < e.date → NothingIsDue c
  all-later c xs room e h is later = λ t o dated. ⊎_elim (λ k. omega (arith, k, later)) (λ k. omega (arith, k.0, later)) (none_before c xs room e h is t o dated)

  before_all : (c : Clock C) (e : Entry) (q : Bool) → nat_lt e.place timer_count ≡ q → IsSoundClock c → (o : Item) → IsDated c e.date o → e.place ≤ slot o
      → IsBefore (if q then timer e.place else deadline (e.place - timer_count)) o
  before_all c e true f sound (item.Timer id) dated le = le
  before_all c e true f sound (item.Deadline thread) dated le = tt
  before_all c e false f sound (item.Timer id) dated le =
      let past : timer_count ≤ e.place = grind (arith, nat_tests) in absurd (omega (arith, past, le, timer_inside c id.0 e.date dated, sound.timers))
  before_all c e false f sound (item.Deadline thread) dated le = let past : timer_count ≤ e.place = grind (arith, nat_tests) in omega (arith, past, le)

  pub next-first : (c : Clock C) (xs : List Entry) (room : ℕ) (e : Entry) → IsKept c xs room → first xs ≡ Some e → e.date ≤ c.now → IsNextDue c (item_at e.place)
  next-first c xs room e h is due = record {
    date = e.date;
    dated = slot_dated_by c e.place e.date (nat_lt e.place timer_count) refl h.sound (first_dated c xs room e h is);
    due = due;
    soonest = λ t o dated. ⊎_elim (λ k. omega (arith, k)) (λ k. omega (arith, k.0)) (none_before c xs room e h is t o dated);
    first = λ o dated. before_all c e (nat_lt e.place timer_count) refl h.sound o dated
        (⊎_elim (λ k. absurd (omega (arith, k))) (λ k. k.1) (none_before c xs room e h is e.date o dated));
  }

  -- the entry of what is due next
  record Next (c : Clock C) (xs : List Entry) (one : Item) : Type 0 where
    at : Entry
    stands : first xs ≡ Some at
    item_is : item_at at.place ≡ one

  next_by : (c : Clock C) (xs : List Entry) (room : ℕ) (one : Item) (o : Option Entry) → first xs ≡ o → IsKept c xs room → next_due c ≡ Some one → Next c xs one
  next_by c xs room one None f h e = absurd (none_some (next_due c) one (is-none c (none-dated c xs room h f)) e)
  next_by c xs room one (Some at) f h e = by (nat_lt c.now at.date) refl
    where
      by : (q : Bool) → nat_lt c.now at.date ≡ q → Next c xs one
      by true later = let is : c.now < at.date = grind (arith, nat_tests) in absurd (none_some (next_due c) one (is-none c (all-later c xs room at h f is)) e)
      by false due =
          let is : at.date ≤ c.now = grind (arith, nat_tests) in
          record { at = at; stands = f; item_is = same_Some (item_at at.place) one (sym (is-next c (item_at at.place) (next-first c xs room at h f is)) ∙ e) }

  -- what is kept of all places but one
  abbrev pub Others : Clock C → ℕ → List Entry → Type 0
  Others c p ys = ys ≡ agenda_from 0 (slice_set (dates_of c) p None)

  pub others-ordered : (c : Clock C) (xs : List Entry) (room p : ℕ) (ys : List Entry) → IsKept c xs room → Others c p ys → IsOrdered ys
  others-ordered c xs room p ys h e = subst IsOrdered (sym e) (ordered-from 0 (slice_set (dates_of c) p None))

  pub others-few : (c : Clock C) (xs : List Entry) (room p : ℕ) (ys : List Entry) → IsKept c xs room → p < timer_count + length c.deadlines → Others c p ys → length ys < room
  others-few c xs room p ys h inside e =
      omega (arith, few-without (dates_of c) p (omega (arith, inside, places c h.sound)), ap length e, places c h.sound, h.room)

  others_left : (c : Clock C) (xs : List Entry) (room p : ℕ) (date : Option ℕ) (ys : List Entry) → IsKept c xs room → slice_index_or (dates_of c) p None ≡ date → ys ≡ without_date p date xs → Others c p ys
  others_left c xs room p date ys h there e = e ∙ ap (without_date p date) h.agenda ∙ without-place (dates_of c) p date there

  stands_left : (c : Clock C) (xs : List Entry) (room p : ℕ) (date : Option ℕ) → IsKept c xs room → slice_index_or (dates_of c) p None ≡ date
      → IfSome date (λ t. place_of (entry p t) xs < length xs)
  stands_left c xs room p date h there =
      subst (λ l. IfSome date (λ t. place_of (entry p t) l < length l)) (sym h.agenda) (place-there (dates_of c) p date there)

  date_there : (c : Clock C) (n : ℕ) (t : Timer C) → n < length c.timers → timer_at c n ≡ Some t → slice_index_or (dates_of c) n None ≡ date_of t.state
  date_there c n t inside there = at_timer c n inside ∙ ap timer_date there

  pub others-timer : (c : Clock C) (xs : List Entry) (room n : ℕ) (t : Timer C) (ys : List Entry) → IsKept c xs room → n < length c.timers → timer_at c n ≡ Some t → ys ≡ without_date n (date_of t.state) xs
      → Others c n ys
  others-timer c xs room n t ys h inside there e = others_left c xs room n (date_of t.state) ys h (date_there c n t inside there) e

  pub stands-timer : (c : Clock C) (xs : List Entry) (room n : ℕ) (t : Timer C) → IsKept c xs room → n < length c.timers → timer_at c n ≡ Some t
      → IfSome (date_of t.state) (λ d. place_of (entry n d) xs < length xs)
  stands-timer c xs room n t h inside there = stands_left c xs room n (date_of t.state) h (date_there c n t inside there)

  read_there : (c : Clock C) (n : ℕ) (date : Option ℕ) → IsSoundClock c → n < length c.deadlines → date ≡ slice_index_or c.deadlines n date → slice_index_or (dates_of c) (timer_count + n) None ≡ date
  read_there c n date sound inside read = at_deadline c n (timer_count + n) sound refl ∙ sym (read ∙ get_or_default c.deadlines n date None inside)

  pub others-deadline : (c : Clock C) (xs : List Entry) (room n : ℕ) (date : Option ℕ) (ys : List Entry) → IsKept c xs room → n < length c.deadlines → date ≡ slice_index_or c.deadlines n date
      → ys ≡ without_date (timer_count + n) date xs → Others c (timer_count + n) ys
  others-deadline c xs room n date ys h inside read e = others_left c xs room (timer_count + n) date ys h (read_there c n date h.sound inside read) e

  pub stands-deadline : (c : Clock C) (xs : List Entry) (room n : ℕ) (date : Option ℕ) → IsKept c xs room → n < length c.deadlines → date ≡ slice_index_or c.deadlines n date
      → IfSome date (λ d. place_of (entry (timer_count + n) d) xs < length xs)
  stands-deadline c xs room n date h inside read = stands_left c xs room (timer_count + n) date h (read_there c n date h.sound inside read)

  -- what is due next is taken off the end
  taken_off : (c : Clock C) (xs : List Entry) (room : ℕ) (e : Entry) (p : ℕ) (ys : List Entry) → IsKept c xs room → first xs ≡ Some e → e.place ≡ p → ys ≡ take (length xs - 1) xs → Others c p ys
  taken_off c xs room e p ys h is there taken =
      subst (λ k. Others c k ys) there (others_left c xs room e.place (Some e.date) ys h (first_dated c xs room e h is) (taken ∙ first-taken xs e (kept-ordered c xs room h) is))

  pub others-fired : (c : Clock C) (xs : List Entry) (room n : ℕ) (ys : List Entry) → IsKept c xs room → next_due c ≡ Some (timer n) → ys ≡ take (length xs - 1) xs → Others c n ys
  others-fired c xs room n ys h e taken =
      let next = next_by c xs room (timer n) (first xs) refl h e in
      taken_off c xs room next.at n ys h next.stands (same_timer next.at.place n (nat_lt next.at.place timer_count) refl next.item_is) taken

  pub others-expired : (c : Clock C) (xs : List Entry) (room n : ℕ) (ys : List Entry) → IsKept c xs room → next_due c ≡ Some (deadline n) → ys ≡ take (length xs - 1) xs → Others c (timer_count + n) ys
  others-expired c xs room n ys h e taken =
      let next = next_by c xs room (deadline n) (first xs) refl h e in
      taken_off c xs room next.at (timer_count + n) ys h next.stands (same_deadline next.at.place n (nat_lt next.at.place timer_count) refl next.item_is) taken

  pub deadline-inside : (c : Clock C) (n : ℕ) → next_due c ≡ Some (deadline n) → n < length c.deadlines
  deadline-inside c n e = let d = next-deadline c n e in within c.deadlines n d.at d.is

  -- the places after a change

  timer_written : (c : Clock C) (n : ℕ) (t : Option (Timer C)) → n < length c.timers → dates_of (with_timer c n t) ≡ slice_set (dates_of c) n (timer_date t)
  timer_written c n t inside =
      ap (λ l. l ++ c.deadlines) (map-set timer_date c.timers n t)
      ∙ sym (set-append_left (map timer_date c.timers) c.deadlines n (timer_date t) (omega (arith, inside, length-map c.timers timer_date)))

  until_written : (c : Clock C) (n : ℕ) (until : Option ℕ) → IsSoundClock c → dates_of (with_deadline c n until) ≡ slice_set (dates_of c) (timer_count + n) until
  until_written c n until sound =
      sym (set-append_right (map timer_date c.timers) c.deadlines timer_count (timer_count + n) until (length-map c.timers timer_date ∙ sound.timers) (omega arith)
      ∙ ap (λ k. map timer_date c.timers ++ slice_set c.deadlines k until) (minus n))
    where
      minus : (n : ℕ) → timer_count + n - timer_count ≡ n
      minus n = omega arith

  -- a timer that was taken out of its place is put back, or isn't

  pub kept-timer : (c : Clock C) (xs ys : List Entry) (room room_after n : ℕ) (t : Option (Timer C)) → IsKept c xs room → n < length c.timers → Others c n ys → room_after ≡ room
      → IsKept (with_timer c n t) (with_date n (timer_date t) ys) room_after
  kept-timer c xs ys room room_after n t h inside others same = record {
    sound = record { timers = length-set c.timers n t ∙ h.sound.timers; deadlines = h.sound.deadlines };
    agenda = ap (with_date n (timer_date t)) others ∙ with-place (dates_of c) n (timer_date t) (omega (arith, inside, places c h.sound, h.sound.timers)) ∙ ap (agenda_from 0) (sym (timer_written c n t inside));
    room = omega (arith, h.room, same);
  }

  pub kept-put : (c : Clock C) (xs ys zs : List Entry) (room room_after n : ℕ) (t : Timer C) (after : List (Option (Timer C))) → IsKept c xs room → n < length c.timers → Others c n ys
      → zs ≡ with_date n (date_of t.state) ys → room_after ≡ room → after ≡ slice_set c.timers n None
      → IsKept (record { now = c.now; timers = slice_set after n (Some t); deadlines = c.deadlines }) zs room_after
  kept-put c xs ys zs room room_after n t after h inside others e same taken =
      let timers : slice_set after n (Some t) ≡ slice_set c.timers n (Some t) = ap (λ ts. slice_set ts n (Some t)) taken ∙ set-set c.timers n None (Some t) in
      subst (λ l. IsKept (record { now = c.now; timers = slice_set after n (Some t); deadlines = c.deadlines }) l room_after) (sym e)
      (subst (λ ts. IsKept (record { now = c.now; timers = ts; deadlines = c.deadlines }) (with_date n (date_of t.state) ys) room_after) (sym timers)
      (kept-timer c xs ys room room_after n (Some t) h inside others same))

  pub kept-taken : (c : Clock C) (xs ys : List Entry) (room room_after n : ℕ) (after : List (Option (Timer C))) → IsKept c xs room → n < length c.timers → Others c n ys
      → room_after ≡ room → after ≡ slice_set c.timers n None → IsKept (record { now = c.now; timers = after; deadlines = c.deadlines }) ys room_after
  kept-taken c xs ys room room_after n after h inside others same taken =
      subst (λ ts. IsKept (record { now = c.now; timers = ts; deadlines = c.deadlines }) ys room_after) (sym taken) (kept-timer c xs ys room room_after n None h inside others same)

  -- a timer that doesn't run is in a free place

  free_is : (c : Clock C) (n : ℕ) → free_place c ≡ Some n → timer_at c n ≡ None
  free_is c n e = nothing (timer_at c n) (position-Some is_none c.timers n None e).1
    where
      nothing : (o : Option (Timer C)) → is_none o ≡ true → o ≡ None
      nothing None e = refl
      nothing (Some t) e = absurd (cc)

  free_inside : (c : Clock C) (n : ℕ) → free_place c ≡ Some n → n < length c.timers
  free_inside c n e = (position-Some is_none c.timers n None e).0

  pub kept-idle : (c : Clock C) (xs : List Entry) (room n : ℕ) (t : Timer C) → IsKept c xs room → free_place c ≡ Some n → date_of t.state ≡ None → IsKept (with_timer c n (Some t)) xs room
  kept-idle c xs room n t h free idle =
      let inside : n < length c.timers = free_inside c n free in
      let others : Others c n xs = others_left c xs room n None xs h (at_timer c n inside ∙ ap timer_date (free_is c n free)) refl in
      subst (λ d. IsKept (with_timer c n (Some t)) (with_date n d xs) room) idle (kept-timer c xs xs room room n (Some t) h inside others refl)

  -- the deadline of a thread is written

  pub kept-until : (c : Clock C) (xs ys zs : List Entry) (room room_after n : ℕ) (until : Option ℕ) → IsKept c xs room → n < length c.deadlines → Others c (timer_count + n) ys
      → zs ≡ with_date (timer_count + n) until ys → room_after ≡ room → IsKept (with_deadline c n until) zs room_after
  kept-until c xs ys zs room room_after n until h inside others e same = record {
    sound = record { timers = h.sound.timers; deadlines = omega (arith, length-set c.deadlines n until, h.sound.deadlines) };
    agenda = e ∙ ap (with_date (timer_count + n) until) others ∙ with-place (dates_of c) (timer_count + n) until (omega (arith, inside, places c h.sound))
        ∙ ap (agenda_from 0) (sym (until_written c n until h.sound));
    room = omega (arith, h.room, same, length-set c.deadlines n until);
  }

  -- there are no timers and no deadlines

  pub kept-new : (timers : List (Option (Timer C))) (deadlines : List (Option ℕ)) (entries : List Entry) (threads room : ℕ) → timers ≡ replicate timer_count None
      → deadlines ≡ replicate (min threads thread_count) None → entries ≡ [] → room ≡ timer_count + min threads thread_count
      → IsKept (record { now = 0; timers = timers; deadlines = deadlines }) entries room
  kept-new timers deadlines entries threads room none_timed none_waits none_entered room_is = rw (none_timed, none_waits, none_entered, room_is) (record {
    sound = record { timers = length-replicate {A = Option (Timer C)} timer_count None; deadlines = omega (arith, length-replicate {A = Option ℕ} (min threads thread_count) None) };
    agenda = sym (from-none 0 (map (timer_date {C = C}) (replicate {A = Option (Timer C)} timer_count None) ++ replicate (min threads thread_count) None)
        (no_dates (map (timer_date {C = C}) (replicate {A = Option (Timer C)} timer_count None)) (replicate (min threads thread_count) None)
        (λ k. at-map (timer_date {C = C}) (replicate {A = Option (Timer C)} timer_count None) k None ∙ ap (timer_date {C = C}) (at-none {A = Timer C} timer_count k))
        (at-none (min threads thread_count))));
    room = omega (arith, length-replicate {A = Option ℕ} (min threads thread_count) None);
  })
