-- The dates of timers and deadlines in the order in which they fall due. No public clause speaks of it.
use Rattle.std.specs.Prelude.{ℕ, suc, ◌≡◌, ◌≤◌, ◌+◌, ◌-◌, ◌==◌, nat_lt, Bool, true, List, [], ◌∷◌, ◌++◌, length, map, Option, Some, None, slice_get, if◌then◌else◌}
use Rattle.std.specs.List.{AllByRecursion, remove}
use Rattle.evl_clock.specs.declared.agenda.Entry.{Entry}
use Rattle.evl_clock.specs.declared.due.Item.{Item}
use Rattle.evl_clock.specs.Clocks.{Clock, IsSoundClock}
use Rattle.evl_clock.specs.Dues.{deadline, timer, timer_date}
use Rattle.evl_clock.specs.Limits.{timer_count}

abbrev pub entry : ℕ → ℕ → Entry
entry place date = record { date = date; place = place }

-- timers have the first places, deadlines those after them
abbrev pub item_at : ℕ → Item
item_at place = if nat_lt place timer_count then timer place else deadline (place - timer_count)

-- by date, and at equal dates by place
abbrev pub is_before : Entry → Entry → Bool
is_before a b = if a.date == b.date then nat_lt a.place b.place else nat_lt a.date b.date

-- what falls due first is last
abbrev pub first_entry : List Entry → Option Entry
first_entry entries = slice_get entries (length entries - 1)

-- each falls due before those that stand before it
abbrev pub IsOrdered : List Entry → Type 0
IsOrdered [] = Unit {0}
IsOrdered (x ∷ xs) = AllByRecursion (λ y. is_before y x ≡ true) xs × IsOrdered xs

-- how many stand before it: those that fall due after it
abbrev pub place_of : Entry → List Entry → ℕ
place_of e [] = 0
place_of e (x ∷ xs) = if is_before e x then suc (place_of e xs) else 0

abbrev pub with_entry : Entry → List Entry → List Entry
with_entry e [] = e ∷ []
with_entry e (x ∷ xs) = if is_before e x then x ∷ with_entry e xs else e ∷ x ∷ xs

-- a place has this date, if any
abbrev pub with_date : ℕ → Option ℕ → List Entry → List Entry
with_date place None entries = entries
with_date place (Some date) entries = with_entry (entry place date) entries

-- it has it no more
abbrev pub without_date : ℕ → Option ℕ → List Entry → List Entry
without_date place None entries = entries
without_date place (Some date) entries = remove entries (place_of (entry place date) entries)

-- all dates of a list whose first is that of place n
abbrev pub agenda_from : ℕ → List (Option ℕ) → List Entry
agenda_from n [] = []
agenda_from n (None ∷ dates) = agenda_from (n + 1) dates
agenda_from n (Some date ∷ dates) = with_entry (entry n date) (agenda_from (n + 1) dates)

module _ {C : Type 0} where
  -- the dates by their places
  abbrev pub dates_of : Clock C → List (Option ℕ)
  dates_of c = map timer_date c.timers ++ c.deadlines

  -- the dates of all timers that run and of all deadlines, each once, in their order
  abbrev pub agenda_of : Clock C → List Entry
  agenda_of c = agenda_from 0 (dates_of c)

  -- the clock's places, its agenda, and room in it for each place
  pub record IsKept (c : Clock C) (entries : List Entry) (capacity : ℕ) : Type 0 where
    pub sound : IsSoundClock c
    pub agenda : entries ≡ agenda_of c
    pub room : timer_count + length c.deadlines ≤ capacity
