-- How often a callback's number is counted: once for its bank place, once for each line where it is and once for each
-- timer that holds it; and what setting one entry of a table does to the count.
use Rattle.std.proofs.Common.{◌≡◌, ℕ, zero, suc, ◌+◌, ◌==◌, ◌<◌, nat_lt, Bool, true, false, not, ◌||◌, cond, List, [], ◌∷◌, length, map, Option, Some, None, is_some, is_none, slice_get, slice_set, slice_index_or, if◌then◌else◌, refl, sym, ap, ◌∙◌, subst, arith}
use Rattle.std.specs.Option.{option_map}
use Rattle.std.proofs.lemmas.Bool.{false≢true, eqb-true}
use Rattle.std.proofs.lemmas.Bool.Decides.{nat_tests}
use Rattle.evl_base.specs.declared.stage.Stage.{Stage}
use Rattle.evl_base.specs.declared.stage.Stage.TheVariants.{Inband, Oob}
use Rattle.evl_base.specs.declared.refusal.Refusal.TheVariants.{Busy, Unknown, Invalid}
use Rattle.evl_pipeline.specs.Counts.{count_raised}
use Rattle.evl_pipeline.specs.Limits.{line_count}
use Rattle.evl_pipeline.specs.Plans.{is_allowed}
use Rattle.evl_pipeline.specs.Lines as lines
use Rattle.std.specs.List.{position_or_len}
use Rattle.std.proofs.lemmas.Option.{none-some, same_Some}
use Rattle.evl_clock.specs.declared.timer.Timer.{Timer}
use Rattle.evl_clock.specs.Timers.{after_fire}
use Rattle.evl_clock.specs.Clocks.{Clock, timer_at, free_place}
use Rattle.evl_clock.specs.ClockSteps.{fired}
use Rattle.evl_kernel.specs.state.States.{State, Banked}
use Rattle.evl_kernel.proofs.state.SetLaws.{set_here, set_there}

abbrev pub Table : Type 0
Table = List (Option (lines.Installed ℕ))

-- one where it is this number
abbrev pub one_at : ℕ → Option (lines.Installed ℕ) → ℕ
one_at n None = 0
one_at n (Some at) = cond (at.callback == n) 1 0

-- how often a number is in a table
abbrev pub stood : ℕ → Table → ℕ
stood n [] = 0
stood n (x ∷ xs) = one_at n x + stood n xs

abbrev pub one_home : Option Banked → ℕ
one_home None = 0
one_home (Some b) = cond b.home 1 0

abbrev pub one_banked : Option Banked → ℕ
one_banked None = 0
one_banked (Some b) = 1

-- the callbacks of timers, as a table of those that stand there
abbrev pub as_standing : Timer ℕ → lines.Installed ℕ
as_standing t = record { callback = t.callback; tag = t.tag; count = t.count }

abbrev pub table_of : List (Option (Timer ℕ)) → Table
table_of ts = map (option_map as_standing) ts

-- in how many timers it is
abbrev pub timed : ℕ → List (Option (Timer ℕ)) → ℕ
timed n ts = stood n (table_of ts)

-- in how many places it is
abbrev pub places : State → ℕ → ℕ
places s n = one_home (slice_get s.bank n) + ((stood n s.lines.oob.installed + stood n s.lines.inband.installed) + timed n s.clock.timers)

-- a table after an entry was set
pub stood-set : (n : ℕ) (xs : Table) (i : ℕ) (old new : Option (lines.Installed ℕ)) → slice_index_or xs i None ≡ old → i < length xs
    → stood n (slice_set xs i new) + one_at n old ≡ stood n xs + one_at n new
stood-set n [] i old new e inside = absurd (omega (arith, inside))
stood-set n (x ∷ xs) zero old new e inside = omega (arith, ap (one_at n) e)
stood-set n (x ∷ xs) (suc i) old new e inside = omega (arith, stood-set n xs i old new e (omega (arith, inside)))

pub bank-set : (xs : List Banked) (i n : ℕ) (b c : Banked) → slice_get xs i ≡ Some b
    → (one_home (slice_get (slice_set xs i c) n) + cond (i == n) (cond b.home 1 0) 0 ≡ one_home (slice_get xs n) + cond (i == n) (cond c.home 1 0) 0)
    × (one_banked (slice_get (slice_set xs i c) n) ≡ one_banked (slice_get xs n))
bank-set xs i n b c e = by (i == n) refl
  where
    by : (same : Bool) → (i == n) ≡ same
        → (one_home (slice_get (slice_set xs i c) n) + cond same (cond b.home 1 0) 0 ≡ one_home (slice_get xs n) + cond same (cond c.home 1 0) 0)
        × (one_banked (slice_get (slice_set xs i c) n) ≡ one_banked (slice_get xs n))
    by true is =
        let after : slice_get (slice_set xs i c) n ≡ Some c = subst (λ (k : ℕ). slice_get (slice_set xs i c) k ≡ Some c) (eqb-true i n is) (set_here xs i b c e) in
        let before : slice_get xs n ≡ Some b = subst (λ (k : ℕ). slice_get xs k ≡ Some b) (eqb-true i n is) e in
        (omega (arith, ap one_home after, ap one_home before), ap one_banked after ∙ sym (ap one_banked before))
    by false apart =
        let other = set_there xs i n c apart in
        (ap (λ (o : Option Banked). one_home o + 0) other, ap one_banked other)

-- the tables of both stages
abbrev pub in_tables : ℕ → lines.Pipeline ℕ → ℕ
in_tables n p = stood n p.oob.installed + stood n p.inband.installed

pub in-set : (n : ℕ) (p : lines.Pipeline ℕ) (stage : Stage) (s : lines.Side ℕ) (line : ℕ) (old new : Option (lines.Installed ℕ)) → lines.IsSoundPipeline p
    → s.installed ≡ slice_set (lines.side p stage).installed line new → lines.installed_at p stage line ≡ old → line < line_count
    → in_tables n (lines.with_side p stage s) + one_at n old ≡ in_tables n p + one_at n new
in-set n p Oob s line old new sound is e below =
    omega (arith, ap (stood n) is, stood-set n p.oob.installed line old new e (omega (arith, below, (sound.sides Oob).lines)))
in-set n p Inband s line old new sound is e below =
    omega (arith, ap (stood n) is, stood-set n p.inband.installed line old new e (omega (arith, below, (sound.sides Inband).lines)))

pub in-same : (n : ℕ) (p : lines.Pipeline ℕ) (stage : Stage) (s : lines.Side ℕ) → s.installed ≡ (lines.side p stage).installed → in_tables n (lines.with_side p stage s) ≡ in_tables n p
in-same n p Oob s is = ap (λ (xs : Table). stood n xs + stood n p.inband.installed) is
in-same n p Inband s is = ap (λ (xs : Table). stood n p.oob.installed + stood n xs) is

pub in-posted : (n : ℕ) (p : lines.Pipeline ℕ) (stage : Stage) (line : ℕ) → in_tables n (lines.posted p stage line) ≡ in_tables n p
in-posted n p stage line = by (lines.has_callback p stage line)
  where
    by : (b : Bool) → in_tables n (if b then lines.with_side p stage (lines.logged (lines.side p stage) line) else record p { spurious = count_raised p.spurious line }) ≡ in_tables n p
    by true = in-same n p stage (lines.logged (lines.side p stage) line) refl
    by false = refl

pub in-arrived : (n : ℕ) (p : lines.Pipeline ℕ) (line : ℕ) → in_tables n (lines.arrived p line) ≡ in_tables n p
in-arrived n p line = by (lines.has_callback p Oob line)
  where
    by : (b : Bool) → in_tables n (if b then lines.posted p Oob line else lines.posted p Inband line) ≡ in_tables n p
    by true = in-posted n p Oob line
    by false = in-posted n p Inband line

-- a line that takes a callback has none
pub request_free : (p : lines.Pipeline ℕ) (line : ℕ) (stage : Stage) (kinds : ℕ) → lines.request_refusal p line stage kinds ≡ None → (line < line_count) × (lines.installed_at p stage line ≡ None)
request_free p line stage kinds = by (nat_lt line line_count) (line == 0) (is_allowed stage kinds) (lines.installed_at p stage line) refl refl
  where
    by : (b c a : Bool) (o : Option (lines.Installed ℕ)) → nat_lt line line_count ≡ b → lines.installed_at p stage line ≡ o
        → (if not b then Some Unknown else (if c || not a then Some Invalid else (if is_some o then Some Busy else None))) ≡ None → (line < line_count) × (lines.installed_at p stage line ≡ None)
    by true false true None fits there e = (grind (arith, nat_tests), there)
    by true false true (Some at) fits there e = absurd (none-some _ (sym e))
    by true false false o fits there e = absurd (none-some _ (sym e))
    by true true a o fits there e = absurd (none-some _ (sym e))
    by false c a o fits there e = absurd (none-some _ (sym e))

pub home_is : (b : Bool) → (not b) ≡ false → b ≡ true
home_is true e = refl
home_is false e = absurd (false≢true (sym e))

-- a line that is freed has a callback, which was out of its place
pub free_found : (p : lines.Pipeline ℕ) (line : ℕ) (stage : Stage) → lines.free_refusal p line stage ≡ None → (line < line_count) × (at : lines.Installed ℕ) × (lines.installed_at p stage line ≡ Some at)
free_found p line stage = by (nat_lt line line_count) (line == 0) (lines.installed_at p stage line) refl refl
  where
    by : (b c : Bool) (o : Option (lines.Installed ℕ)) → nat_lt line line_count ≡ b → lines.installed_at p stage line ≡ o
        → (if not b then Some Unknown else (if c then Some Invalid else (if is_some o then None else Some Unknown))) ≡ None → (line < line_count) × (at : lines.Installed ℕ) × (lines.installed_at p stage line ≡ Some at)
    by true false (Some at) fits there e = (grind (arith, nat_tests), at, there)
    by true false None fits there e = absurd (none-some _ (sym e))
    by true true o fits there e = absurd (none-some _ (sym e))
    by false c o fits there e = absurd (none-some _ (sym e))

pub one_same : (n : ℕ) (f : Timer ℕ → Timer ℕ) → ((t : Timer ℕ) → (f t).callback ≡ t.callback) → (o : Option (Timer ℕ)) → one_at n (option_map as_standing (option_map f o)) ≡ one_at n (option_map as_standing o)
one_same n f keeps None = refl
one_same n f keeps (Some t) = ap (λ (k : ℕ). cond (k == n) 1 0) (keeps t)

-- a timer that keeps its callback
pub timed-changed : (n : ℕ) (f : Timer ℕ → Timer ℕ) → ((t : Timer ℕ) → (f t).callback ≡ t.callback) → (ts : List (Option (Timer ℕ))) (i : ℕ)
    → timed n (slice_set ts i (option_map f (slice_index_or ts i None))) ≡ timed n ts
timed-changed n f keeps [] i = refl
timed-changed n f keeps (t ∷ ts) zero = ap (λ (k : ℕ). k + timed n ts) (one_same n f keeps t)
timed-changed n f keeps (t ∷ ts) (suc i) = ap (λ (k : ℕ). one_at n (option_map as_standing t) + k) (timed-changed n f keeps ts i)

pub timed-set : (n : ℕ) (ts : List (Option (Timer ℕ))) (i : ℕ) (old new : Option (Timer ℕ)) → slice_index_or ts i None ≡ old → i < length ts
    → timed n (slice_set ts i new) + one_at n (option_map as_standing old) ≡ timed n ts + one_at n (option_map as_standing new)
timed-set n [] i old new e inside = absurd (omega (arith, inside))
timed-set n (t ∷ ts) zero old new e inside = omega (arith, ap (λ (o : Option (Timer ℕ)). one_at n (option_map as_standing o)) e)
timed-set n (t ∷ ts) (suc i) old new e inside = omega (arith, timed-set n ts i old new e (omega (arith, inside)))

pub fired_same : (n : ℕ) (c : Clock ℕ) (i : ℕ) (t : Timer ℕ) → timer_at c i ≡ Some t → timed n (fired c i t).timers ≡ timed n c.timers
fired_same n c i t there =
    ap (λ (o : Option (Timer ℕ)). timed n (slice_set c.timers i (option_map (after_fire c.now) o))) (sym there) ∙ timed-changed n (after_fire c.now) (λ t. refl) c.timers i

-- a free place is in the table and empty
pub first_free : (ts : List (Option (Timer ℕ))) → slice_index_or ts (position_or_len is_none ts) None ≡ None
first_free [] = refl
first_free (None ∷ ts) = refl
first_free (Some t ∷ ts) = ap (λ (k : ℕ). slice_index_or (Some t ∷ ts) k None) one_on ∙ first_free ts
  where
    one_on : position_or_len is_none (Some t ∷ ts) ≡ suc (position_or_len is_none ts)
    one_on = omega arith

pub free_there : (c : Clock ℕ) (i : ℕ) → free_place c ≡ Some i → (timer_at c i ≡ None) × (i < length c.timers)
free_there c i = by (nat_lt (position_or_len is_none c.timers) (length c.timers)) refl
  where
    by : (b : Bool) → nat_lt (position_or_len is_none c.timers) (length c.timers) ≡ b → cond b (Some (position_or_len is_none c.timers)) None ≡ Some i → (timer_at c i ≡ None) × (i < length c.timers)
    by true is e =
        let there = first_free c.timers in
        (subst (λ (k : ℕ). timer_at c k ≡ None) (same_Some _ _ e) there, subst (λ (k : ℕ). k < length c.timers) (same_Some _ _ e) (grind (arith, nat_tests)))
    by false is e = absurd (none-some _ e)
