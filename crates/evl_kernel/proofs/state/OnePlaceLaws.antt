-- All that is counted once is in one place: a number in the records, and the callbacks themselves.
use Rattle.std.proofs.Common.{◌≡◌, ℕ, zero, suc, ◌+◌, ◌==◌, ◌<◌, ◌≤◌, Bool, true, false, cond, List, [], ◌∷◌, length, Option, Some, None, is_some, slice_get, slice_index_or, refl, sym, ap, ◌∙◌, subst, arith}
use Rattle.std.specs.Option.{option_map}
use Rattle.std.proofs.lemmas.Bool.{false≢true, eqb-true}
use Rattle.std.proofs.lemmas.List.{length-map}
use Rattle.std.proofs.lemmas.Option.{slice_get-map, none-some, same_Some}
use Rattle.std.proofs.lemmas.Bool.Decides.{nat_tests}
use Rattle.evl_base.specs.declared.stage.Stage.TheVariants.{Inband, Oob}
use Rattle.evl_pipeline.specs.Lines as lines
use Rattle.evl_clock.specs.declared.timer.Timer.{Timer}
use Rattle.evl_clock.specs.Clocks.{timer_at}
use Rattle.evl_kernel.specs.state.States.{State, Banked}
use Rattle.evl_kernel.specs.declared.bank.BankPlace.{BankPlace}
use Rattle.evl_kernel.specs.declared.bank.Numbered.{Numbered}
use Rattle.evl_kernel.specs.histories.Histories.{History, IsLegal, opened_kernel}
use Rattle.evl_kernel.specs.state.Callbacks.{handler_of, handlers_in}
use Rattle.evl_kernel.specs.state.Records.{RecordsView, state_of, whereabouts, banked, number_of}
use Rattle.evl_kernel.specs.state.Renamed.{named, named_timer}
use Rattle.evl_kernel.specs.state.Places as place
use Rattle.evl_kernel.specs.state.Places.{Place, on_line, in_timer, IsAt, IsInOnePlace, CallbacksAreInOnePlace, StandsAt, AreInOnePlace}
use Rattle.evl_kernel.proofs.state.RenamedLaws.{installed-renamed, lookup-map}
use Rattle.evl_kernel.proofs.settling.ClockLaws.{timer-renamed}
use Rattle.evl_kernel.proofs.state.CountLaws.{Table, one_at, stood, one_home, one_banked, as_standing, table_of, timed, places}
use Rattle.evl_kernel.proofs.state.PlaceLaws.{placed-opening, run_placed}

-- what is counted once is in one place
one_is : (n : ℕ) (x : Option (lines.Installed ℕ)) (at : lines.Installed ℕ) → x ≡ Some at → at.callback ≡ n → one_at n x ≡ 1
one_is n x at there is = ap (one_at n) there ∙ ap (λ (b : Bool). cond b 1 0) (number is)
  where
    number : at.callback ≡ n → (at.callback == n) ≡ true
    number e = grind (arith, nat_tests)

counted_in : (n : ℕ) (xs : Table) (line : ℕ) (at : lines.Installed ℕ) → slice_index_or xs line None ≡ Some at → at.callback ≡ n → 1 ≤ stood n xs
counted_in n [] line at there is = absurd (none-some _ there)
counted_in n (x ∷ xs) zero at there is = omega (arith, one_is n x at there is)
counted_in n (x ∷ xs) (suc line) at there is = omega (arith, counted_in n xs line at there is)

found_in : (n : ℕ) (xs : Table) → 1 ≤ stood n xs → (line : ℕ) × (at : lines.Installed ℕ) × (slice_index_or xs line None ≡ Some at) × (at.callback ≡ n)
found_in n [] some = absurd (omega (arith, some))
found_in n (None ∷ xs) some = let (line, at, there, is) = found_in n xs (omega (arith, some)) in (suc line, at, there, is)
found_in n (Some at ∷ xs) some = by (found_in n xs) (at.callback == n) refl some
  where
    by : (1 ≤ stood n xs → (line : ℕ) × (now : lines.Installed ℕ) × (slice_index_or xs line None ≡ Some now) × (now.callback ≡ n))
        → (b : Bool) → (at.callback == n) ≡ b → 1 ≤ cond b 1 0 + stood n xs → (line : ℕ) × (now : lines.Installed ℕ) × (slice_index_or (Some at ∷ xs) line None ≡ Some now) × (now.callback ≡ n)
    by later true is more = (0, at, refl, eqb-true at.callback n is)
    by later false is more = let (line, now, there, its) = later (omega (arith, more)) in (suc line, now, there, its)

twice_in : (n : ℕ) (xs : Table) (i j : ℕ) (a b : lines.Installed ℕ) → slice_index_or xs i None ≡ Some a → a.callback ≡ n → slice_index_or xs j None ≡ Some b → b.callback ≡ n
    → stood n xs ≤ 1 → i ≡ j
twice_in n [] i j a b here is there too few = absurd (none-some _ here)
twice_in n (x ∷ xs) zero zero a b here is there too few = refl
twice_in n (x ∷ xs) zero (suc j) a b here is there too few = absurd (omega (arith, one_is n x a here is, counted_in n xs j b there too, few))
twice_in n (x ∷ xs) (suc i) zero a b here is there too few = absurd (omega (arith, one_is n x b there too, counted_in n xs i a here is, few))
twice_in n (x ∷ xs) (suc i) (suc j) a b here is there too few = ap suc (twice_in n xs i j a b here is there too (omega (arith, few)))

home_counts : (s : State) (n : ℕ) (b : Banked) → slice_get s.bank n ≡ Some b → b.home ≡ true → one_home (slice_get s.bank n) ≡ 1
home_counts s n b here home = ap one_home here ∙ ap (λ (c : Bool). cond c 1 0) home

-- a callback of a timer, in the table
in_table : (s : State) (m : ℕ) (at : Timer ℕ) → timer_at s.clock m ≡ Some at → slice_index_or (table_of s.clock.timers) m None ≡ Some (as_standing at)
in_table s m at there = lookup-map as_standing s.clock.timers m ∙ ap (option_map as_standing) there

counted_timer : (s : State) (n m : ℕ) → IsAt s n (in_timer m) → 1 ≤ timed n s.clock.timers
counted_timer s n m (at, there, is) = counted_in n (table_of s.clock.timers) m (as_standing at) (in_table s m at there) is

found_timer : (s : State) (n : ℕ) → 1 ≤ timed n s.clock.timers → (m : ℕ) × IsAt s n (in_timer m)
found_timer s n some =
    let found = found_in n (table_of s.clock.timers) some in
    (found.0, by found.0 found.1 found.3 (timer_at s.clock found.0) refl (sym (lookup-map as_standing s.clock.timers found.0) ∙ found.2))
  where
    by : (m : ℕ) (at : lines.Installed ℕ) → at.callback ≡ n → (o : Option (Timer ℕ)) → timer_at s.clock m ≡ o → option_map as_standing o ≡ Some at → IsAt s n (in_timer m)
    by m at is None there e = absurd (none-some _ e)
    by m at is (Some t) there e = (t, there, ap (λ (x : lines.Installed ℕ). x.callback) (same_Some _ _ e) ∙ is)

in_one : (s : State) (n : ℕ) → places s n ≡ 1 → IsInOnePlace (IsAt s n)
in_one s n all = by (slice_get s.bank n) refl
  where
    at_home : (b : Banked) → slice_get s.bank n ≡ Some b → b.home ≡ true → IsInOnePlace (IsAt s n)
    at_home b here home = record { place = place.at_home; is = (b, here, home); alone = alone }
      where
        alone : (other : Place) → IsAt s n other → other ≡ place.at_home
        alone place.at_home stands = refl
        alone (on_line Oob line) (at, there, is) = absurd (omega (arith, all, home_counts s n b here home, counted_in n s.lines.oob.installed line at there is))
        alone (on_line Inband line) (at, there, is) = absurd (omega (arith, all, home_counts s n b here home, counted_in n s.lines.inband.installed line at there is))
        alone (in_timer m) its = absurd (omega (arith, all, home_counts s n b here home, counted_timer s n m its))

    on_oob : one_home (slice_get s.bank n) ≡ 0 → 1 ≤ stood n s.lines.oob.installed → IsInOnePlace (IsAt s n)
    on_oob none some =
        let found = found_in n s.lines.oob.installed some in
        record { place = on_line Oob found.0; is = (found.1, found.2, found.3); alone = alone found.0 (found.1, found.2, found.3) }
      where
        alone : (here : ℕ) → IsAt s n (on_line Oob here) → (other : Place) → IsAt s n other → other ≡ on_line Oob here
        alone here its place.at_home (b, at, home) = absurd (omega (arith, none, home_counts s n b at home))
        alone here (now, stands, its) (on_line Oob line) (at, there, is) = ap (on_line Oob) (twice_in n s.lines.oob.installed line here at now there is stands its (omega (arith, all)))
        alone here its (on_line Inband line) (at, there, is) = absurd (omega (arith, all, some, counted_in n s.lines.inband.installed line at there is))
        alone here its (in_timer m) stands = absurd (omega (arith, all, some, counted_timer s n m stands))

    on_inband : one_home (slice_get s.bank n) ≡ 0 → 1 ≤ stood n s.lines.inband.installed → IsInOnePlace (IsAt s n)
    on_inband none some =
        let found = found_in n s.lines.inband.installed some in
        record { place = on_line Inband found.0; is = (found.1, found.2, found.3); alone = alone found.0 (found.1, found.2, found.3) }
      where
        alone : (here : ℕ) → IsAt s n (on_line Inband here) → (other : Place) → IsAt s n other → other ≡ on_line Inband here
        alone here its place.at_home (b, at, home) = absurd (omega (arith, none, home_counts s n b at home))
        alone here its (on_line Oob line) (at, there, is) = absurd (omega (arith, all, some, counted_in n s.lines.oob.installed line at there is))
        alone here (now, stands, its) (on_line Inband line) (at, there, is) = ap (on_line Inband) (twice_in n s.lines.inband.installed line here at now there is stands its (omega (arith, all)))
        alone here its (in_timer m) stands = absurd (omega (arith, all, some, counted_timer s n m stands))

    in_some_timer : one_home (slice_get s.bank n) ≡ 0 → 1 ≤ timed n s.clock.timers → IsInOnePlace (IsAt s n)
    in_some_timer none some = let found = found_timer s n some in record { place = in_timer found.0; is = found.1; alone = alone found.0 found.1 }
      where
        alone : (here : ℕ) → IsAt s n (in_timer here) → (other : Place) → IsAt s n other → other ≡ in_timer here
        alone here its place.at_home (b, at, home) = absurd (omega (arith, none, home_counts s n b at home))
        alone here its (on_line Oob line) (at, there, is) = absurd (omega (arith, all, some, counted_in n s.lines.oob.installed line at there is))
        alone here its (on_line Inband line) (at, there, is) = absurd (omega (arith, all, some, counted_in n s.lines.inband.installed line at there is))
        alone here (now, stands, its) (in_timer m) (at, there, is) =
            ap in_timer (twice_in n (table_of s.clock.timers) m here (as_standing at) (as_standing now) (in_table s m at there) is (in_table s here now stands) its (omega (arith, all)))

    on_lines_alone : one_home (slice_get s.bank n) ≡ 0 → IsInOnePlace (IsAt s n)
    on_lines_alone none = by_oob (stood n s.lines.oob.installed) refl
      where
        by_inband : stood n s.lines.oob.installed ≡ 0 → (k : ℕ) → stood n s.lines.inband.installed ≡ k → IsInOnePlace (IsAt s n)
        by_inband oob zero is = in_some_timer none (omega (arith, all, none, oob, is))
        by_inband oob (suc k) is = on_inband none (omega (arith, is))

        by_oob : (k : ℕ) → stood n s.lines.oob.installed ≡ k → IsInOnePlace (IsAt s n)
        by_oob zero is = by_inband is (stood n s.lines.inband.installed) refl
        by_oob (suc k) is = on_oob none (omega (arith, is))

    by_home : (b : Banked) → slice_get s.bank n ≡ Some b → (home : Bool) → b.home ≡ home → IsInOnePlace (IsAt s n)
    by_home b here true is = at_home b here is
    by_home b here false is = on_lines_alone (ap one_home here ∙ ap (λ (c : Bool). cond c 1 0) is)

    by : (o : Option Banked) → slice_get s.bank n ≡ o → IsInOnePlace (IsAt s n)
    by None none = on_lines_alone (ap one_home none)
    by (Some b) here = by_home b here b.home refl

within_bank : (xs : List Banked) (n : ℕ) → n < length xs → one_banked (slice_get xs n) ≡ 1
within_bank [] n below = absurd (omega (arith, below))
within_bank (x ∷ xs) zero below = refl
within_bank (x ∷ xs) (suc n) below = within_bank xs n (omega (arith, below))

pub in_one_place : CallbacksAreInOnePlace
in_one_place h legal number below =
    let placed = run_placed (length h.bank) (opened_kernel h) h.entries h.plays h.state (placed-opening h.board h.bank) legal in
    in_one h.state number (placed.once number ∙ within_bank h.state.bank number (omega (arith, below, placed.size_is)))

-- the callbacks themselves
module _ {C : Type 0} (r : RecordsView C) (n : ℕ) where
  pub known_at : (p : Place) → StandsAt (whereabouts r) n p → IsAt (state_of r) n p
  known_at place.at_home (place, callback, at, there) = (banked place, slice_get-map banked r.bank n ∙ ap (option_map banked) at, ap is_some there)
  known_at (on_line stage line) (at, there, is) = (named number_of at, installed-renamed number_of r.lines stage line ∙ ap (option_map (named number_of)) there, is)
  known_at (in_timer m) (at, there, is) = (named_timer number_of at, timer-renamed number_of r.clock m ∙ ap (option_map (named_timer number_of)) there, is)

  pub stands_at : (p : Place) → IsAt (state_of r) n p → StandsAt (whereabouts r) n p
  stands_at place.at_home (b, at, home) = by (slice_get r.bank n) refl (sym (slice_get-map banked r.bank n) ∙ at)
    where
      held : (p : BankPlace C) → slice_get r.bank n ≡ Some p → (o : Option C) → p.callback ≡ o → is_some o ≡ true → StandsAt (whereabouts r) n place.at_home
      held p here None there e = absurd (false≢true e)
      held p here (Some callback) there e = (p, callback, here, there)

      by : (o : Option (BankPlace C)) → slice_get r.bank n ≡ o → option_map banked o ≡ Some b → StandsAt (whereabouts r) n place.at_home
      by None here e = absurd (none-some _ e)
      by (Some p) here e = held p here p.callback refl (ap (λ (x : Banked). x.home) (same_Some _ _ e) ∙ home)
  stands_at (on_line stage line) (at, there, is) = by (lines.installed_at r.lines stage line) refl (sym (installed-renamed number_of r.lines stage line) ∙ there)
    where
      by : (o : Option (lines.Installed (Numbered C))) → lines.installed_at r.lines stage line ≡ o → option_map (named number_of) o ≡ Some at → StandsAt (whereabouts r) n (on_line stage line)
      by None here e = absurd (none-some _ e)
      by (Some now) here e = (now, here, ap (λ (x : lines.Installed ℕ). x.callback) (same_Some _ _ e) ∙ is)
  stands_at (in_timer m) (at, there, is) = by (timer_at r.clock m) refl (sym (timer-renamed number_of r.clock m) ∙ there)
    where
      by : (o : Option (Timer (Numbered C))) → timer_at r.clock m ≡ o → option_map (named_timer number_of) o ≡ Some at → StandsAt (whereabouts r) n (in_timer m)
      by None here e = absurd (none-some _ e)
      by (Some now) here e = (now, here, ap (λ (x : Timer ℕ). x.callback) (same_Some _ _ e) ∙ is)

  one_stands : IsInOnePlace (IsAt (state_of r) n) → IsInOnePlace (StandsAt (whereabouts r) n)
  one_stands one = record { place = one.place; is = stands_at one.place one.is; alone = λ other stands. one.alone other (known_at other stands) }

pub are_in_one_place : {C : Type 0} (r : RecordsView C) (h : History) → IsLegal h → h.bank ≡ handlers_in r.bank → h.state ≡ state_of r → AreInOnePlace (whereabouts r)
are_in_one_place r h legal bank_is state_is number below =
    one_stands r number (subst (λ (s : State). IsInOnePlace (IsAt s number)) state_is
    (in_one_place h legal number (omega (arith, below, ap length bank_is, length-map r.bank handler_of))))
