-- Callbacks that go back into their bank places: no step loses one, so all are there in the end.
use Rattle.std.proofs.Common.{◌≡◌, ◌⊎◌, inl, inr, ℕ, zero, suc, ◌+◌, ◌==◌, ◌<◌, ◌≤◌, nat_lt, Bool, true, false, not, List, [], ◌∷◌, length, Option, Some, None, is_some, slice_get, slice_set, slice_index_or, Result, Ok, Err, if◌then◌else◌, refl, sym, ap, ◌∙◌, subst, arith}
use Rattle.std.specs.List.{cons_option}
use Rattle.std.specs.Option.{option_map, option_map_or}
use Rattle.std.proofs.lemmas.Bool.{eqb-true}
use Rattle.std.proofs.lemmas.Bool.Decides.{nat_tests}
use Rattle.std.proofs.lemmas.List.{get_or-set_other, length-map, length-set}
use Rattle.std.proofs.lemmas.Option.{slice_get-map, slice_get_within, none-some, same_Some}
use Rattle.evl_base.specs.declared.refusal.Refusal.{Refusal}
use Rattle.evl_base.specs.declared.refusal.Refusal.TheVariants.{Unknown, Invalid}
use Rattle.evl_base.specs.declared.reply.Reply.{Reply}
use Rattle.evl_base.specs.declared.stage.Stage.{Stage}
use Rattle.evl_base.specs.declared.stage.Stage.TheVariants.{Inband, Oob}
use Rattle.evl_pipeline.specs.Limits.{line_count}
use Rattle.evl_pipeline.specs.Lines.{Pipeline, Installed, free_refusal, freed, installed_at}
use Rattle.evl_pipeline.specs.declared.plan.Plan.{Plan}
use Rattle.evl_clock.specs.declared.timer.Timer.{Timer}
use Rattle.evl_clock.specs.Clocks.{dropped, timer_at}
use Rattle.evl_kernel.specs.declared.bank.BankPlace.{BankPlace}
use Rattle.evl_kernel.specs.state.States.{State, Banked, Handler, come_home, with_banked, with_clock, with_lines}
use Rattle.evl_kernel.specs.state.Callbacks.{AnswersByPlan, AreFilled, Stands, callbacks_in, handler_of}
use Rattle.evl_kernel.specs.state.Homecomings.{ComesHome, IsSomewhere}
use Rattle.evl_kernel.specs.state.KernelViews.{Has}
use Rattle.evl_kernel.specs.state.Places as place
use Rattle.evl_kernel.specs.state.Places.{Place, on_line, in_timer, AreInOnePlace, IsAt, StandsAt}
use Rattle.evl_kernel.specs.state.Records.{KeepsCallbacks, RecordsView, banked, state_of, whereabouts}
use Rattle.evl_kernel.specs.calls.Effects.{Effect, done, if_done, known, refused_by}
use Rattle.evl_kernel.specs.calls.LineCalls as line_call
use Rattle.evl_kernel.specs.calls.TimerCalls as timer_call
use Rattle.evl_kernel.proofs.state.BankLaws.{place_of}
use Rattle.evl_kernel.proofs.state.CountLaws.{free_found}
use Rattle.evl_kernel.proofs.state.OnePlaceLaws.{known_at, stands_at}
use Rattle.evl_kernel.proofs.state.SetLaws.{set_here, set_there}

pub comes_nowhere : (s : State) → ComesHome s s
comes_nowhere s = record { none_is_lost = λ n there. there; threads = refl; elements = refl; sched = refl; waits = refl; deadlines = refl }

-- one after another
pub comes_then : (s t u : State) → ComesHome s t → ComesHome t u → ComesHome s u
comes_then s t u first then_ = record {
  none_is_lost = λ n there. then_.none_is_lost n (first.none_is_lost n there);
  threads = then_.threads ∙ first.threads;
  elements = then_.elements ∙ first.elements;
  sched = then_.sched ∙ first.sched;
  waits = then_.waits ∙ first.waits;
  deadlines = then_.deadlines ∙ first.deadlines;
}

-- a table of which one place was emptied
module _ {A : Type 0} where
  emptied_here : (xs : List (Option A)) (i : ℕ) → slice_index_or (slice_set xs i None) i None ≡ None
  emptied_here [] i = refl
  emptied_here (x ∷ xs) zero = refl
  emptied_here (x ∷ xs) (suc i) = emptied_here xs i

  emptied_or : (xs : List (Option A)) (i j : ℕ) → (j ≡ i) ⊎ (slice_index_or (slice_set xs i None) j None ≡ slice_index_or xs j None)
  emptied_or xs i j = by (j == i) refl
    where
      by : (b : Bool) → (j == i) ≡ b → (j ≡ i) ⊎ (slice_index_or (slice_set xs i None) j None ≡ slice_index_or xs j None)
      by true is = inl (eqb-true j i is)
      by false is = inr (get_or-set_other xs i j None None (λ e. absurd (grind (arith, nat_tests))))

  still_none : (xs : List (Option A)) (i j : ℕ) → slice_index_or xs j None ≡ None → slice_index_or (slice_set xs i None) j None ≡ None
  still_none xs i j none = by (emptied_or xs i j)
    where
      by : (j ≡ i) ⊎ (slice_index_or (slice_set xs i None) j None ≡ slice_index_or xs j None) → slice_index_or (slice_set xs i None) j None ≡ None
      by (inl at) = subst (λ (k : ℕ). slice_index_or (slice_set xs i None) k None ≡ None) (sym at) (emptied_here xs i)
      by (inr same) = same ∙ none

  -- and one that is looked up past its end
  pub past_end : (xs : List (Option A)) (i : ℕ) → length xs ≤ i → slice_index_or xs i None ≡ None
  past_end [] i past = refl
  past_end (x ∷ xs) zero past = absurd (omega (arith, past))
  past_end (x ∷ xs) (suc i) past = past_end xs i (omega (arith, past))

module _ {X : Type 0} (p : Pipeline X) (line : ℕ) where
  freed_here : (stage : Stage) → installed_at (freed p line stage) stage line ≡ None
  freed_here Oob = emptied_here p.oob.installed line
  freed_here Inband = emptied_here p.inband.installed line

  freed_none : (stage other : Stage) (l : ℕ) → installed_at p other l ≡ None → installed_at (freed p line stage) other l ≡ None
  freed_none Oob Oob l none = still_none p.oob.installed line l none
  freed_none Inband Inband l none = still_none p.inband.installed line l none
  freed_none Oob Inband l none = none
  freed_none Inband Oob l none = none

  freed_or : (stage other : Stage) (l : ℕ) → ((other ≡ stage) × (l ≡ line)) ⊎ (installed_at (freed p line stage) other l ≡ installed_at p other l)
  freed_or Oob Oob l = by (emptied_or p.oob.installed line l)
    where
      by : (l ≡ line) ⊎ (installed_at (freed p line Oob) Oob l ≡ installed_at p Oob l) → ((Oob ≡ Oob) × (l ≡ line)) ⊎ (installed_at (freed p line Oob) Oob l ≡ installed_at p Oob l)
      by (inl at) = inl (refl, at)
      by (inr same) = inr same
  freed_or Inband Inband l = by (emptied_or p.inband.installed line l)
    where
      by : (l ≡ line) ⊎ (installed_at (freed p line Inband) Inband l ≡ installed_at p Inband l) → ((Inband ≡ Inband) × (l ≡ line)) ⊎ (installed_at (freed p line Inband) Inband l ≡ installed_at p Inband l)
      by (inl at) = inl (refl, at)
      by (inr same) = inr same
  freed_or Oob Inband l = inr refl
  freed_or Inband Oob l = inr refl

  -- where a line isn't freed, as it can't be, there is no callback
  unfreed_none : (stage : Stage) (refusal : Refusal) → line < line_count → installed_at p stage 0 ≡ None → free_refusal p line stage ≡ Some refusal → installed_at p stage line ≡ None
  unfreed_none stage refusal below clock = by (nat_lt line line_count) refl (line == 0) refl (installed_at p stage line) refl
    where
      by : (b : Bool) → nat_lt line line_count ≡ b → (z : Bool) → (line == 0) ≡ z → (o : Option (Installed X)) → installed_at p stage line ≡ o
          → (if not b then Some Unknown else (if z then Some Invalid else (if is_some o then None else Some Unknown))) ≡ Some refusal → installed_at p stage line ≡ None
      by false fits z is o there e = absurd (grind (arith, nat_tests, below))
      by true fits true is o there e = subst (λ (l : ℕ). installed_at p stage l ≡ None) (sym (eqb-true line 0 is)) clock
      by true fits false is (Some at) there e = absurd (none-some _ e)
      by true fits false is None there e = there

-- what an effect leaves, as it is answered
pub left_is : (s : State) (effect : Effect) (result : Result Reply Refusal) (t : State) → Has s effect result t → if_done s effect ≡ t
left_is s effect (Ok reply) t h = ap (if_done s) h
left_is s effect (Err refusal) t h = ap (if_done s) h.0 ∙ sym h.1

-- each callback that is somewhere has its place in the bank
abbrev pub HavePlaces : State → Type 0
HavePlaces s = (n : ℕ) → IsSomewhere s n → (b : Banked) × (slice_get s.bank n ≡ Some b)

-- the callback of a number is in its place again
module _ (s t : State) (k : ℕ) (b : Banked) (there : slice_get s.bank k ≡ Some b) (banked_is : t.bank ≡ slice_set s.bank k (record b { home = true })) where
  back_home : (n : ℕ) → k ≡ n → IsSomewhere t n
  back_home n is = (place.at_home, (record b { home = true }, subst (λ (m : ℕ). slice_get t.bank m ≡ Some (record b { home = true })) is (ap (λ (bs : List Banked). slice_get bs k) banked_is ∙ set_here s.bank k b (record b { home = true }) there), refl))

  still_home : (n : ℕ) → IsAt s n place.at_home → IsSomewhere t n
  still_home n (other, at, home) = by (k == n) refl
    where
      by : (same : Bool) → (k == n) ≡ same → IsSomewhere t n
      by true is = back_home n (eqb-true k n is)
      by false is = (place.at_home, (other, ap (λ (bs : List Banked). slice_get bs n) banked_is ∙ (set_there s.bank k n (record b { home = true }) is ∙ at), home))

pub record FreesLine (s t : State) (stage : Stage) (line : ℕ) : Type 0 where
  pub comes : ComesHome s t
  pub here : installed_at t.lines stage line ≡ None
  pub stays : (other : Stage) (l : ℕ) → installed_at s.lines other l ≡ None → installed_at t.lines other l ≡ None
  pub timers : (m : ℕ) → timer_at s.clock m ≡ None → timer_at t.clock m ≡ None

module _ (s : State) (places : HavePlaces s) (stage : Stage) (line : ℕ) where
  abbrev MidFreed : State
  MidFreed = with_lines s (freed s.lines line stage)

  freed_at : (at : Installed ℕ) (b : Banked) → installed_at s.lines stage line ≡ Some at → slice_get s.bank at.callback ≡ Some b → FreesLine s (with_banked MidFreed true at.callback b) stage line
  freed_at at b there known_b = record {
    comes = record { none_is_lost = found; threads = refl; elements = refl; sched = refl; waits = refl; deadlines = refl };
    here = freed_here s.lines line stage;
    stays = freed_none s.lines line stage;
    timers = λ m none. none;
  }
    where
      after : State
      after = with_banked MidFreed true at.callback b

      found : (n : ℕ) → IsSomewhere s n → IsSomewhere after n
      found n (place.at_home, is) = still_home s after at.callback b known_b refl n is
      found n (in_timer m, is) = (in_timer m, is)
      found n (on_line other l, (now, stands, its)) = by (freed_or s.lines line stage other l)
        where
          by : ((other ≡ stage) × (l ≡ line)) ⊎ (installed_at (freed s.lines line stage) other l ≡ installed_at s.lines other l) → IsSomewhere after n
          by (inr same) = (on_line other l, (now, same ∙ stands, its))
          by (inl (same_stage, same_line)) =
              let this : Some at ≡ Some now = sym there ∙ (λ i. installed_at s.lines (sym same_stage i) (sym same_line i)) ∙ stands in
              back_home s after at.callback b known_b refl n (ap (λ (x : Installed ℕ). x.callback) (same_Some _ _ this) ∙ its)

  frees : line < line_count → installed_at s.lines stage 0 ≡ None → FreesLine s (if_done s (line_call.free_line s line stage)) stage line
  frees below clock = by (free_refusal s.lines line stage) refl
    where
      by : (o : Option Refusal) → free_refusal s.lines line stage ≡ o
          → FreesLine s (if_done s (refused_by o (done (line_call.with_callback_back MidFreed (installed_at s.lines stage line))))) stage line
      by (Some refusal) is = record { comes = comes_nowhere s; here = unfreed_none s.lines line stage refusal below clock is; stays = λ other l none. none; timers = λ m none. none }
      by None is =
          let found = free_found s.lines line stage is in
          let its = places found.1.callback (on_line stage line, (found.1, found.2, refl)) in
          subst (λ (o : Option (Installed ℕ)). FreesLine s (line_call.with_callback_back MidFreed o) stage line) (sym found.2)
          (subst (λ (o : Option Banked). FreesLine s (option_map_or (with_banked MidFreed true found.1.callback) o MidFreed) stage line) (sym its.1) (freed_at found.1 its.0 found.2 its.1))

  pub frees_line : (result : Result Reply Refusal) (t : State) → line < line_count → installed_at s.lines stage 0 ≡ None → Has s (line_call.free_line s line stage) result t → FreesLine s t stage line
  frees_line result t below clock h = subst (λ (u : State). FreesLine s u stage line) (left_is s (line_call.free_line s line stage) result t h) (frees below clock)

pub record DropsTimer (s t : State) (timer : ℕ) : Type 0 where
  pub comes : ComesHome s t
  pub here : timer_at t.clock timer ≡ None
  pub stays : (m : ℕ) → timer_at s.clock m ≡ None → timer_at t.clock m ≡ None
  pub lines : (stage : Stage) (line : ℕ) → installed_at s.lines stage line ≡ None → installed_at t.lines stage line ≡ None
  pub size : length t.clock.timers ≡ length s.clock.timers

module _ (s : State) (places : HavePlaces s) (timer : ℕ) where
  abbrev MidDropped : State
  MidDropped = with_clock s (dropped s.clock timer)

  dropped_at : (at : Timer ℕ) (b : Banked) → timer_at s.clock timer ≡ Some at → slice_get s.bank at.callback ≡ Some b → DropsTimer s (with_banked MidDropped true at.callback b) timer
  dropped_at at b there known_b = record {
    comes = record { none_is_lost = found; threads = refl; elements = refl; sched = refl; waits = refl; deadlines = refl };
    here = emptied_here s.clock.timers timer;
    stays = still_none s.clock.timers timer;
    lines = λ stage line none. none;
    size = length-set s.clock.timers timer None;
  }
    where
      after : State
      after = with_banked MidDropped true at.callback b

      found : (n : ℕ) → IsSomewhere s n → IsSomewhere after n
      found n (place.at_home, is) = still_home s after at.callback b known_b refl n is
      found n (on_line stage line, is) = (on_line stage line, is)
      found n (in_timer m, (now, stands, its)) = by (emptied_or s.clock.timers timer m)
        where
          by : (m ≡ timer) ⊎ (timer_at (dropped s.clock timer) m ≡ timer_at s.clock m) → IsSomewhere after n
          by (inr same) = (in_timer m, (now, same ∙ stands, its))
          by (inl same) =
              let this : Some at ≡ Some now = sym there ∙ (λ i. timer_at s.clock (sym same i)) ∙ stands in
              back_home s after at.callback b known_b refl n (ap (λ (x : Timer ℕ). x.callback) (same_Some _ _ this) ∙ its)

  drops : DropsTimer s (if_done s (timer_call.drop_timer s timer)) timer
  drops = by (timer_at s.clock timer) refl
    where
      by : (o : Option (Timer ℕ)) → timer_at s.clock timer ≡ o → DropsTimer s (if_done s (known o (λ t. done (come_home MidDropped t.callback)))) timer
      by None there = record { comes = comes_nowhere s; here = there; stays = λ m none. none; lines = λ stage line none. none; size = refl }
      by (Some at) there =
          let its = places at.callback (in_timer timer, (at, there, refl)) in
          subst (λ (o : Option Banked). DropsTimer s (option_map_or (with_banked MidDropped true at.callback) o MidDropped) timer) (sym its.1) (dropped_at at its.0 there its.1)

  pub drops_timer : (result : Result Reply Refusal) (t : State) → Has s (timer_call.drop_timer s timer) result t → DropsTimer s t timer
  drops_timer result t h = subst (λ (u : State). DropsTimer s u timer) (left_is s (timer_call.drop_timer s timer) result t h) drops

module _ {C : Type 0} (declared : C → ℕ) (plan : C → Plan) where
  -- what is somewhere has its place, where the callbacks answer by plan
  pub have_places : (r : RecordsView C) → AnswersByPlan declared plan (whereabouts r) → HavePlaces (state_of r)
  have_places r answers n (p, is) = by p (stands_at r n p is)
    where
      of_callback : (callback : C) → Stands (whereabouts r) n callback → (b : Banked) × (slice_get (state_of r).bank n ≡ Some b)
      of_callback callback stands =
          let its = place_of declared plan (whereabouts r) n callback answers stands in
          (banked its.0, slice_get-map banked r.bank n ∙ ap (option_map banked) its.1)

      by : (p : Place) → StandsAt (whereabouts r) n p → (b : Banked) × (slice_get (state_of r).bank n ≡ Some b)
      by place.at_home (its, callback, at, has) = of_callback callback (inl (record { place = its; at = at; there = has }))
      by (on_line stage line) (at, there, is) = of_callback at.callback.callback (inr (inl (record { stage = stage; line = line; at = at; there = there; number_is = is; callback_is = refl })))
      by (in_timer m) (at, there, is) = of_callback at.callback.callback (inr (inr (record { timer = m; at = at; there = there; number_is = is; callback_is = refl })))

  -- a bank where each place has its callback
  abbrev IsFull : List (BankPlace C) → Type 0
  IsFull bank = (n : ℕ) (its : BankPlace C) → slice_get bank n ≡ Some its → (callback : C) × (its.callback ≡ Some callback) × (handler_of its ≡ record { kinds = declared callback; plan = plan callback })

  filled_by_own : (bank : List (BankPlace C)) → IsFull bank → AreFilled declared plan (callbacks_in bank) bank
  filled_by_own [] full = refl
  filled_by_own (its ∷ bank) full =
      let first = full 0 its refl in
      subst (λ (o : Option C). AreFilled declared plan (cons_option o (callbacks_in bank)) (its ∷ bank)) (sym first.1)
      (its, bank, refl, first.1, first.2, filled_by_own bank (λ n p at. full (suc n) p at))

  -- all come home: nothing is on a line or in a timer any more
  module _ (old r : RecordsView C) (kept : KeepsCallbacks old r) (answers : AnswersByPlan declared plan (whereabouts r)) (one : AreInOnePlace (whereabouts old)) (comes : ComesHome (state_of old) (state_of r))
      (no_line : (stage : Stage) (line : ℕ) → installed_at (state_of r).lines stage line ≡ None) (no_timer : (m : ℕ) → timer_at (state_of r).clock m ≡ None) where
    at_home : (n : ℕ) → IsSomewhere (state_of r) n → StandsAt (whereabouts r) n place.at_home
    at_home n (place.at_home, is) = stands_at r n place.at_home is
    at_home n (on_line stage line, (at, there, is)) = absurd (none-some _ (sym (no_line stage line) ∙ there))
    at_home n (in_timer m, (at, there, is)) = absurd (none-some _ (sym (no_timer m) ∙ there))

    same_length : length r.bank ≡ length old.bank
    same_length = sym (length-map r.bank handler_of) ∙ (ap (λ (hs : List Handler). length hs) kept.handlers_are ∙ length-map old.bank handler_of)

    is_full : IsFull r.bank
    is_full n its at =
        let below : n < length old.bank = omega (arith, same_length, slice_get_within r.bank n its at) in
        let was = one n below in
        let (now, callback, now_at, has) = at_home n (comes.none_is_lost n (was.place, known_at old n was.place was.is)) in
        let same : now ≡ its = same_Some _ _ (sym now_at ∙ at) in
        let told = place_of declared plan (whereabouts r) n callback answers (inl (record { place = now; at = now_at; there = has })) in
        (callback, ap (λ (p : BankPlace C). p.callback) (sym same) ∙ has, ap handler_of (same_Some _ _ (sym at ∙ told.1)) ∙ told.2)

    pub filled_again : AreFilled declared plan (callbacks_in r.bank) r.bank
    filled_again = filled_by_own r.bank is_full

-- where a loop that frees one line after another has come to
none_upto : (P : ℕ → Type 0) (n : ℕ) → ((m : ℕ) → m < n → P m) → P n → (m : ℕ) → m < n + 1 → P m
none_upto P n before here m below = by (m == n) refl
  where
    by : (b : Bool) → (m == n) ≡ b → P m
    by true is = subst P (sym (eqb-true m n is)) here
    by false is = before m (grind (arith, nat_tests, below))

either_side : (P : ℕ → Type 0) (n m : ℕ) → ((k : ℕ) → k < n → P k) → (n ≤ m → P m) → P m
either_side P n m before behind = by (nat_lt m n) refl
  where
    by : (b : Bool) → nat_lt m n ≡ b → P m
    by true is = before m (grind (arith, nat_tests))
    by false is = behind (grind (arith, nat_tests))

pub none_below : (t u : State) (stage : Stage) (line : ℕ) → FreesLine t u stage line → ((l : ℕ) → l < line → installed_at t.lines stage l ≡ None) → (l : ℕ) → l < line + 1 → installed_at u.lines stage l ≡ None
none_below t u stage line one before = none_upto (λ l. installed_at u.lines stage l ≡ None) line (λ l below. one.stays stage l (before l below)) one.here

pub none_at : (t : State) (stage : Stage) (end line : ℕ) → ((l : ℕ) → l < end → installed_at t.lines stage l ≡ None) → (end ≤ line → installed_at t.lines stage line ≡ None) → installed_at t.lines stage line ≡ None
none_at t stage end line before behind = either_side (λ l. installed_at t.lines stage l ≡ None) end line before behind

pub timers_below : (t u : State) (timer : ℕ) → DropsTimer t u timer → ((m : ℕ) → m < timer → timer_at t.clock m ≡ None) → (m : ℕ) → m < timer + 1 → timer_at u.clock m ≡ None
timers_below t u timer one before = none_upto (λ m. timer_at u.clock m ≡ None) timer (λ m below. one.stays m (before m below)) one.here

pub timers_none : (t : State) (end timer : ℕ) → ((m : ℕ) → m < end → timer_at t.clock m ≡ None) → length t.clock.timers ≤ end → timer_at t.clock timer ≡ None
timers_none t end timer before all = either_side (λ m. timer_at t.clock m ≡ None) end timer before (λ behind. past_end t.clock.timers timer (omega (arith, all, behind)))

pub both_stages : (t u : State) → ((line : ℕ) → installed_at t.lines Oob line ≡ None) → ((other : Stage) (line : ℕ) → installed_at t.lines other line ≡ None → installed_at u.lines other line ≡ None)
    → ((line : ℕ) → installed_at u.lines Inband line ≡ None) → (stage : Stage) (line : ℕ) → installed_at u.lines stage line ≡ None
both_stages t u oob others inband Oob line = others Oob line (oob line)
both_stages t u oob others inband Inband line = inband line
