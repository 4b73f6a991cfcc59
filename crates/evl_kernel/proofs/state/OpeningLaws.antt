-- The records of a new kernel.
use Rattle.std.proofs.Common.{◌≡◌, ◌≤◌, ℕ, zero, suc, inl, inr, Bool, true, false, ◌&&◌, nat_le, min, arith, length, List, [], ◌∷◌, map, replicate, Option, Some, None, is_some, slice_get, slice_index, slice_index_or, refl, sym, ap, ◌∙◌, subst}
use Rattle.std.specs.Option.{option_map, option_map_or}
use Rattle.std.specs.List.{list_all}
use Rattle.std.proofs.lemmas.Bool.Decides.{nat_tests}
use Rattle.evl_base.specs.Board.{board_fits}
use Rattle.evl_base.specs.Limits.{is_within, count_fits, kind_fits, percent_fits, sizes_fit, stax_fits}
use Rattle.std.proofs.lemmas.Bool.{false≢true, and_parts}
use Rattle.std.proofs.lemmas.List.{length-replicate}
use Rattle.std.proofs.Math.Nat.{min-le_right}
use Rattle.std.proofs.lemmas.Option.{none-some, same_Some}
use Rattle.evl_base.specs.declared.board.Board.{Board}
use Rattle.evl_base.specs.declared.stage.Stage.{Stage}
use Rattle.evl_base.specs.declared.stage.Stage.TheVariants.{Inband, Oob}
use Rattle.evl_pipeline.specs.declared.plan.Plan.{Plan}
use Rattle.evl_pipeline.specs.Limits.{line_count}
use Rattle.evl_pipeline.specs.Lines as lines
use Rattle.evl_clock.specs.declared.timer.Timer.{Timer}
use Rattle.evl_clock.specs.Limits.{timer_count}
use Rattle.evl_clock.specs.Clocks as clocks
use Rattle.evl_pipeline.proofs.PortLaws.{at-none}
use Rattle.evl_kernel.specs.declared.bank.BankPlace.{BankPlace}
use Rattle.evl_kernel.specs.declared.bank.Numbered.{Numbered}
use Rattle.evl_kernel.specs.state.States.{Elements, Handler}
use Rattle.evl_kernel.specs.state.Openings.{all_opened, opening, at_home}
use Rattle.evl_kernel.specs.state.Shapes.{HaveShape, sizes_of}
use Rattle.evl_kernel.specs.state.Renamed.{named, renamed, renamed_clock}
use Rattle.evl_kernel.specs.state.Callbacks.{Whereabouts, AnswersByPlan, AreFilled, handlers_in}
use Rattle.evl_kernel.specs.state.Records.{RanksAreKept, RecordsView, IsOpened, state_of, number_of, banked, AreAllowed, AreTimersAllowed, WaitsAreKept}
use Rattle.evl_kernel.specs.waiting.Standing.{AreSound, in_flags, in_mutex, in_readers, in_sem, in_writers, stands_at, stands_for}
use Rattle.evl_sched.specs.Ranks.{Ranked, fresh}
use Rattle.evl_sync.specs.Semaphores as semaphores
use Rattle.evl_sync.specs.Semaphores.{IsSoundSemaphore}
use Rattle.evl_sync.specs.FlagGroups as flags
use Rattle.evl_sync.specs.FlagGroups.{IsSoundGroup}
use Rattle.evl_base.specs.declared.way.Way.{Way}
use Rattle.evl_base.specs.declared.way.Way.TheVariants.{In, Out}
use Rattle.evl_mutex.specs.Mutexes as mutexes
use Rattle.evl_mutex.proofs.SoundLaws.{sound-fresh}
use Rattle.evl_sched.specs.Threads as threads
use Rattle.evl_sched.specs.Threads.{Sched}
use Rattle.evl_sched.specs.declared.seat.Seat.{Seat}
use Rattle.evl_sched.specs.Policies.{base_rank}
use Rattle.evl_base.specs.Limits.{thread_limit}
use Rattle.evl_kernel.specs.state.ElementsViews.{owners_of}
use Rattle.evl_xbuf.specs.Xbufs as xbufs
use Rattle.evl_xbuf.specs.Xbufs.{IsSoundXbuf, Xbuf}
use Rattle.evl_xbuf.proofs.SoundLaws.{sound-empty}
use Rattle.evl_kernel.specs.declared.waits.Awaited.{Awaited}
use Rattle.evl_kernel.specs.declared.waits.Awaited.TheVariants.{Sem, Flags, Writing, Reading, Mutex}
use Rattle.evl_kernel.specs.declared.waits.Wait.{Wait}
use Rattle.evl_kernel.proofs.settling.ClockLaws.{clock-opening}
use Rattle.evl_kernel.proofs.state.SchedLaws.{sched-fresh}

map-replicate : {A B : Type 0} (f : A → B) (n : ℕ) (x : A) → map f (replicate n x) ≡ replicate n (f x)
map-replicate f zero x = refl
map-replicate f (suc n) x = ap (λ xs. f x ∷ xs) (map-replicate f n x)

-- there is nothing on the lines of a new pipeline, under any names
pub renamed-opening : {X Y : Type 0} (name : X → Y) → renamed name lines.opening ≡ lines.opening
unfolding lines.opening
renamed-opening {X} {Y} name =
    let nothing : map (option_map (named name)) (replicate {A = Option (lines.Installed X)} line_count None) ≡ replicate {A = Option (lines.Installed Y)} line_count None = map-replicate (option_map (named name)) line_count None in
    (λ i. record {
      oob = record { stalled = Rattle.std.proofs.Common.false; pending = []; installed = nothing i; unhandled = replicate line_count 0 };
      inband = record { stalled = Rattle.std.proofs.Common.false; pending = []; installed = nothing i; unhandled = replicate line_count 0 };
      spurious = replicate line_count 0;
    })

pub nothing-opening : {X : Type 0} (stage : Stage) (line : ℕ) (at : lines.Installed X) → lines.installed_at lines.opening stage line ≡ Some at → ⊥
unfolding lines.opening
nothing-opening {X} Oob line at h = none-some _ (sym (at-none {A = lines.Installed X} line_count line) ∙ h)
nothing-opening {X} Inband line at h = none-some _ (sym (at-none {A = lines.Installed X} line_count line) ∙ h)

pub no_timer-opening : {X : Type 0} (threads n : ℕ) (at : Timer X) → clocks.timer_at (clocks.opening threads) n ≡ Some at → ⊥
unfolding clocks.opening
no_timer-opening {X} threads n at h = none-some _ (sym (at-none {A = Timer X} timer_count n) ∙ h)

module _ {C : Type 0} (declared : C → ℕ) (plan : C → Plan) where
  abbrev pub handler_made : C → Handler
  handler_made callback = record { kinds = declared callback; plan = plan callback }

  pub handlers-filled : (bank : List C) (places : List (BankPlace C)) → AreFilled declared plan bank places → handlers_in places ≡ map handler_made bank
  handlers-filled [] places none = ap handlers_in none
  handlers-filled (callback ∷ bank) places (place, others, split, has, is, rest) =
      ap handlers_in split ∙ ((λ i. is i ∷ handlers-filled bank others rest i))

  pub banked-filled : (bank : List C) (places : List (BankPlace C)) → AreFilled declared plan bank places → map banked places ≡ map at_home (map handler_made bank)
  banked-filled [] places none = ap (map banked) none
  banked-filled (callback ∷ bank) places (place, others, split, has, is, rest) =
      ap (map banked) split ∙ ((λ i. record { handler = is i; home = is_some (has i) } ∷ banked-filled bank others rest i))

  -- the callback of a place is the one that it was filled with
  filled-at : (bank : List C) (places : List (BankPlace C)) (n : ℕ) (place : BankPlace C) (callback : C) → AreFilled declared plan bank places
      → slice_get places n ≡ Some place → place.callback ≡ Some callback → slice_get (handlers_in places) n ≡ Some (handler_made callback)
  filled-at [] places n place callback none at has = absurd (none-some _ (ap (λ (ps : List (BankPlace C)). slice_get ps n) (sym none) ∙ at))
  filled-at (first ∷ bank) places zero place callback (its, others, split, its_has, is, rest) at has =
      let same : its ≡ place = same_Some _ _ (ap (λ (ps : List (BankPlace C)). slice_get ps 0) (sym split) ∙ at) in
      let one : first ≡ callback = same_Some _ _ (sym its_has ∙ (ap (λ (p : BankPlace C). p.callback) same ∙ has)) in
      ap (λ (ps : List (BankPlace C)). slice_get (handlers_in ps) 0) split ∙ (ap Some is ∙ ap (λ (x : C). Some (handler_made x)) one)
  filled-at (first ∷ bank) places (suc n) place callback (its, others, split, its_has, is, rest) at has =
      ap (λ (ps : List (BankPlace C)). slice_get (handlers_in ps) (suc n)) split
      ∙ filled-at bank others n place callback rest (ap (λ (ps : List (BankPlace C)). slice_get ps (suc n)) (sym split) ∙ at) has

  pub answers-opening : (bank : List C) (w : Whereabouts C) (threads : ℕ) → AreFilled declared plan bank w.bank → w.lines ≡ lines.opening → w.clock ≡ clocks.opening threads → AnswersByPlan declared plan w
  answers-opening bank w threads filled nothing no_timers number callback (inl home) = filled-at bank w.bank number home.place callback filled home.at home.there
  answers-opening bank w threads filled nothing no_timers number callback (inr (inr timed)) =
      absurd (no_timer-opening threads timed.timer timed.at (subst (λ (c : clocks.Clock (Numbered C)). clocks.timer_at c timed.timer ≡ Some timed.at) no_timers timed.there))
  answers-opening bank w threads filled nothing no_timers number callback (inr (inl out)) =
      absurd (nothing-opening out.stage out.line out.at (subst (λ (p : lines.Pipeline (Numbered C)). lines.installed_at p out.stage out.line ≡ Some out.at) nothing out.there))

  pub state-opening : (board : Board) (bank : List C) (r : RecordsView C) → r.threads ≡ board.threads → r.elements.elements ≡ all_opened board → r.waits ≡ replicate board.threads None
      → AreFilled declared plan bank r.bank → r.lines ≡ lines.opening → r.clock ≡ clocks.opening board.threads → r.sched ≡ fresh board.threads board.groups.items
      → state_of r ≡ opening board (map handler_made bank)
  state-opening board bank r threads opened waits filled nothing no_timers nobody =
      let lines_are : renamed number_of r.lines ≡ lines.opening = ap (renamed number_of) nothing ∙ renamed-opening number_of in
      let clock_is : renamed_clock number_of r.clock ≡ clocks.opening board.threads = ap (renamed_clock number_of) no_timers ∙ clock-opening number_of board.threads in
      let sched_is = ap (λ (x : Ranked). x.sched) nobody ∙ sched-fresh board.threads board.groups.items in
      (λ i. record { threads = threads i; elements = opened i; bank = banked-filled bank r.bank filled i; lines = lines_are i; clock = clock_is i; sched = sched_is i; waits = waits i })

  pub opened_records : (board : Board) (bank : List C) (r : RecordsView C) → r.threads ≡ board.threads → r.elements.elements ≡ all_opened board → r.waits ≡ replicate board.threads None
      → AreFilled declared plan bank r.bank → r.lines ≡ lines.opening → r.clock ≡ clocks.opening board.threads → r.sched ≡ fresh board.threads board.groups.items
      → IsOpened declared plan board bank r
  opened_records board bank r threads opened waits filled nothing no_timers nobody =
      record { filled = filled; nothing_out = nothing; no_timers = no_timers; state = state-opening board bank r threads opened waits filled nothing no_timers nobody }

pub sound_opening : {X : Type 0} (threads : ℕ) → clocks.IsSoundClock {C = X} (clocks.opening threads)
unfolding clocks.opening
sound_opening threads = record { timers = refl; deadlines = subst (λ (n : ℕ). n ≤ thread_limit) (sym (length-replicate {A = Option ℕ} (min threads thread_limit) None)) (min-le_right threads thread_limit) }

pub sound-opening_clock : {C : Type 0} (r : RecordsView C) (threads : ℕ) → r.clock ≡ clocks.opening threads → clocks.IsSoundClock r.clock
sound-opening_clock {C} r threads nothing = subst (λ (c : clocks.Clock (Numbered C)). clocks.IsSoundClock c) (sym nothing) (sound_opening threads)

pub timers_allowed-new : {C : Type 0} (r : RecordsView C) (threads : ℕ) → r.clock ≡ clocks.opening threads → AreTimersAllowed (state_of r)
timers_allowed-new r threads nothing timer at h =
    absurd (no_timer-opening threads timer at (subst (λ (c : clocks.Clock ℕ). clocks.timer_at c timer ≡ Some at) (ap (renamed_clock number_of) nothing ∙ clock-opening number_of threads) h))

pub allowed-new : {C : Type 0} (r : RecordsView C) → r.lines ≡ lines.opening → AreAllowed (state_of r)
allowed-new r nothing stage line at h =
    absurd (nothing-opening stage line at (subst (λ (p : lines.Pipeline ℕ). lines.installed_at p stage line ≡ Some at) (ap (renamed number_of) nothing ∙ renamed-opening number_of) h))

module _ {C : Type 0} (declared : C → ℕ) (plan : C → Plan) where
  pub opening-handlers : (board : Board) (bank : List C) (r : RecordsView C) → IsOpened declared plan board bank r → opening board (handlers_in r.bank) ≡ opening board (map (handler_made declared plan) bank)
  opening-handlers board bank r opened = ap (opening board) (handlers-filled declared plan bank r.bank opened.filled)

-- nobody is in a queue of a new element
nobody_of : {C X : Type 0} (opened : C → X) (has : X → ℕ → Bool) → ((c : C) (t : ℕ) → has (opened c) t ≡ false) → (counts : List C) (n t : ℕ) → stands_at has (map opened counts) n t ≡ false
nobody_of opened has none [] n t = refl
nobody_of opened has none (c ∷ counts) zero t = none c t
nobody_of opened has none (c ∷ counts) (suc n) t = nobody_of opened has none counts n t

nobody_writes : (way : Way) (sizes : ℕ × ℕ) (t : ℕ) → in_writers way (xbufs.opened_xbuf sizes.0 sizes.1) t ≡ false
nobody_writes In sizes t = refl
nobody_writes Out sizes t = refl

nobody_reads : (way : Way) (sizes : ℕ × ℕ) (t : ℕ) → in_readers way (xbufs.opened_xbuf sizes.0 sizes.1) t ≡ false
nobody_reads In sizes t = refl
nobody_reads Out sizes t = refl

pub nobody_stands : (board : Board) (on : Awaited) (t : ℕ) → stands_for (all_opened board) on t ≡ false
nobody_stands board (Sem id) t = nobody_of semaphores.opened_semaphore in_sem (λ c t. refl) board.sems.items id.0 t
nobody_stands board (Flags id) t = nobody_of flags.opened_group in_flags (λ c t. refl) board.flags.items id.0 t
nobody_stands board (Writing id way) t = nobody_of (λ (sizes : ℕ × ℕ). xbufs.opened_xbuf sizes.0 sizes.1) (in_writers way) (λ sizes t. nobody_writes way sizes t) board.xbufs.items id.0 t
nobody_stands board (Reading id way) t = nobody_of (λ (sizes : ℕ × ℕ). xbufs.opened_xbuf sizes.0 sizes.1) (in_readers way) (λ sizes t. nobody_reads way sizes t) board.xbufs.items id.0 t
nobody_stands board (Mutex id) t = nobody_of mutexes.opened_mutex in_mutex (λ c t. refl) board.mutexes.items id.0 t

-- and each is sound
pub sound_of : {C X : Type 0} (opened : C → X) (P : X → Type 0) → ((c : C) → P (opened c)) → (counts : List C) (n : ℕ) (x : X) → slice_get (map opened counts) n ≡ Some x → P x
sound_of opened P each [] n x is = absurd (none-some _ is)
sound_of opened P each (c ∷ counts) zero x is = subst P (same_Some _ _ is) (each c)
sound_of opened P each (c ∷ counts) (suc n) x is = sound_of opened P each counts n x is

-- a board that fits has few threads
first_of_six : (a b c d e f : Bool) → (a && b && c && d && e && f) ≡ true → a ≡ true
first_of_six true b c d e f h = refl
first_of_six false b c d e f h = absurd (false≢true h)

pub threads_few : (board : Board) → board_fits board ≡ true → board.threads ≤ thread_limit
threads_few b fits =
    at_most ((and_parts (nat_le 1 b.threads) (nat_le b.threads thread_limit)
    (first_of_six (is_within 1 thread_limit b.threads) (list_all count_fits b.sems.items) (list_all sizes_fit b.xbufs.items) (list_all kind_fits b.mutexes.items) (list_all percent_fits b.groups.items) (list_all stax_fits b.staxes.items) fits)).1)
  where
    at_most : nat_le b.threads thread_limit ≡ true → b.threads ≤ thread_limit
    at_most e = grind (arith, nat_tests)

-- cross-buffers, whose rings are within their limits
sound_xbufs : (sizes : List (ℕ × ℕ)) → list_all sizes_fit sizes ≡ true → (n : ℕ) (x : Xbuf) → slice_get (map (λ (s : ℕ × ℕ). xbufs.opened_xbuf s.0 s.1) sizes) n ≡ Some x → IsSoundXbuf x
sound_xbufs [] fits n x is = absurd (none-some _ is)
sound_xbufs (s ∷ sizes) fits zero x is =
    let both = (and_parts (sizes_fit s) (list_all sizes_fit sizes) fits).0 in
    subst IsSoundXbuf (same_Some _ _ is) (record {
      inbound = sound-empty s.0 (ring ((and_parts (is_within 1 256 s.0) (is_within 1 256 s.1) both).0));
      outbound = sound-empty s.1 (ring ((and_parts (is_within 1 256 s.0) (is_within 1 256 s.1) both).1));
    })
  where
    at_most : (n : ℕ) → nat_le n 256 ≡ true → n ≤ 256
    at_most n e = grind (arith, nat_tests)

    ring : {n : ℕ} → is_within 1 256 n ≡ true → n ≤ 256
    ring {n} e = at_most n ((and_parts (nat_le 1 n) (nat_le n 256) e).1)
sound_xbufs (s ∷ sizes) fits (suc n) x is = sound_xbufs sizes ((and_parts (sizes_fit s) (list_all sizes_fit sizes) fits).1) n x is

third_of_six : (a b c d e f : Bool) → (a && b && c && d && e && f) ≡ true → c ≡ true
third_of_six true true true d e f h = refl
third_of_six true true false d e f h = absurd (false≢true h)
third_of_six true false c d e f h = absurd (false≢true h)
third_of_six false b c d e f h = absurd (false≢true h)

-- where the rings are within their limits
opened_soundly : (board : Board) → ((n : ℕ) (x : Xbuf) → slice_get (all_opened board).xbufs n ≡ Some x → IsSoundXbuf x) → AreSound (all_opened board)
opened_soundly board rings = record {
  sems = sound_of semaphores.opened_semaphore IsSoundSemaphore (λ c. record {
    count = record { rests = λ some. absurd (false≢true (sym some)); few = omega arith };
    queue = record { ranked = tt; few = λ t e. absurd (false≢true e) };
  }) board.sems.items;
  flags = sound_of flags.opened_group IsSoundGroup (λ c. record { rests = tt; queue = record { ranked = tt; few = λ t e. absurd (false≢true e) } }) board.flags.items;
  xbufs = rings;
  mutexes = sound-fresh thread_limit board.mutexes.items;
}

pub opened_sound : (board : Board) → board_fits board ≡ true → AreSound (all_opened board)
opened_sound board fits =
    opened_soundly board
    (sound_xbufs board.xbufs.items
    (third_of_six (is_within 1 thread_limit board.threads) (list_all count_fits board.sems.items) (list_all sizes_fit board.xbufs.items) (list_all kind_fits board.mutexes.items) (list_all percent_fits board.groups.items)
    (list_all stax_fits board.staxes.items) fits))

-- cross-buffers that are emptied, by the sizes of their rings
pub emptied_by_sizes : (xs : List Xbuf) → map (λ (x : Xbuf). xbufs.opened_xbuf x.inbound.size x.outbound.size) xs ≡ map (λ (s : ℕ × ℕ). xbufs.opened_xbuf s.0 s.1) (map sizes_of xs)
emptied_by_sizes [] = refl
emptied_by_sizes (x ∷ xs) = ap (λ (ys : List Xbuf). xbufs.opened_xbuf x.inbound.size x.outbound.size ∷ ys) (emptied_by_sizes xs)

-- they have the rings that they had
sound_emptied : (xs : List Xbuf) → ((n : ℕ) (x : Xbuf) → slice_get xs n ≡ Some x → IsSoundXbuf x)
    → (n : ℕ) (x : Xbuf) → slice_get (map (λ (s : ℕ × ℕ). xbufs.opened_xbuf s.0 s.1) (map sizes_of xs)) n ≡ Some x → IsSoundXbuf x
sound_emptied [] sound n x is = absurd (none-some _ is)
sound_emptied (y ∷ xs) sound zero x is =
    let was = sound 0 y refl in
    subst IsSoundXbuf (same_Some _ _ is) (record { inbound = sound-empty y.inbound.size was.inbound.kept.few; outbound = sound-empty y.outbound.size was.outbound.kept.few })
sound_emptied (y ∷ xs) sound (suc n) x is = sound_emptied xs (λ m z there. sound (suc m) z there) n x is

pub sound_again : (board : Board) (e : Elements) → HaveShape board e → AreSound e → AreSound (all_opened board)
sound_again board e shape sound =
    opened_soundly board (subst (λ (sizes : List (ℕ × ℕ)). (n : ℕ) (x : Xbuf) → slice_get (map (λ (s : ℕ × ℕ). xbufs.opened_xbuf s.0 s.1) sizes) n ≡ Some x → IsSoundXbuf x) shape.xbufs
    (sound_emptied e.xbufs sound.xbufs))

pub waits-none : (board : Board) (e : Elements) (waits : List (Option Wait)) → board.threads ≤ thread_limit → AreSound (all_opened board) → e ≡ all_opened board → waits ≡ replicate board.threads None
    → WaitsAreKept board.threads e waits
waits-none board e waits few sound opened none = record {
  few = few;
  sound = subst AreSound (sym opened) sound;
  places = ap (λ (ws : List (Option Wait)). length ws) none ∙ length-replicate board.threads None;
  going = λ on thread stands. absurd (false≢true (sym (ap (λ (x : Elements). stands_for x on thread) opened ∙ nobody_stands board on thread) ∙ stands));
}

pub waits-new : (board : Board) (e : Elements) (waits : List (Option Wait)) → board_fits board ≡ true → e ≡ all_opened board → waits ≡ replicate board.threads None
    → WaitsAreKept board.threads e waits
waits-new board e waits fits opened none = waits-none board e waits (threads_few board fits) (opened_sound board fits) opened none

-- nobody is attached, and no rank was given
nobody_seated : (n t : ℕ) → slice_index_or (replicate {A = Option Seat} n None) t None ≡ None
nobody_seated zero t = refl
nobody_seated (suc n) zero = refl
nobody_seated (suc n) (suc t) = nobody_seated n t

no_base : (n t : ℕ) → slice_index (replicate n 0) t ≡ 0
no_base zero t = refl
no_base (suc n) zero = refl
no_base (suc n) (suc t) = no_base n t

no_seats : (count : ℕ) (percents : List ℕ) → (threads.opening count percents).seats ≡ replicate count None
unfolding threads.opening
no_seats count percents = refl

pub ranks-none : {C : Type 0} (r : RecordsView C) (board : Board) → board.threads ≤ thread_limit → r.elements.base ≡ replicate board.threads 0 → r.sched ≡ fresh board.threads board.groups.items
    → RanksAreKept board.threads (owners_of r.elements) r.sched
ranks-none r board few none nobody =
    let s : Sched = r.sched.sched in
    let seats : s.seats ≡ replicate board.threads None = ap (λ (x : Sched). x.seats) (ap (λ (x : Ranked). x.sched) nobody ∙ sched-fresh board.threads board.groups.items) ∙ no_seats board.threads board.groups.items in
    let seat : (t : ℕ) → slice_index_or s.seats t None ≡ None = λ t. ap (λ (xs : List (Option Seat)). slice_index_or xs t None) seats ∙ nobody_seated board.threads t in
    let size : length r.elements.base ≡ board.threads = ap (λ (b : List ℕ). length b) none ∙ length-replicate {A = ℕ} board.threads 0 in
    let many : length s.seats ≡ board.threads = ap (λ (xs : List (Option Seat)). length xs) seats ∙ length-replicate board.threads None in
    record {
      size = size;
      told = record {
        few = omega (arith, size, few);
        seats = omega (arith, size, many);
        same = λ t. ap (λ (b : List ℕ). slice_index b t) none ∙ (no_base board.threads t ∙ sym (ap (λ (o : Option Seat). option_map_or (λ x. base_rank x.policy) o 0) (seat t)));
      };
      given = λ t attached. absurd (false≢true (sym (ap (λ (o : Option Seat). is_some o) (seat t)) ∙ attached));
    }

pub ranks-new : {C : Type 0} (r : RecordsView C) (board : Board) → board_fits board ≡ true → r.elements.base ≡ replicate board.threads 0 → r.sched ≡ fresh board.threads board.groups.items
    → RanksAreKept board.threads (owners_of r.elements) r.sched
ranks-new r board fits none nobody = ranks-none r board (threads_few board fits) none nobody
