-- Records that are set back are those of a new kernel, over the callbacks that came home.
use Rattle.std.proofs.Common.{◌≡◌, ◌≤◌, inl, inr, ℕ, min, List, length, map, replicate, Option, Some, None, slice_get, sym, ap, ◌∙◌, subst, arith}
use Rattle.evl_base.specs.Limits.{thread_limit}
use Rattle.evl_base.specs.declared.board.Board.{Board}
use Rattle.evl_base.specs.declared.stage.Stage.{Stage}
use Rattle.evl_pipeline.specs.declared.plan.Plan.{Plan}
use Rattle.evl_pipeline.specs.Lines as lines
use Rattle.evl_pipeline.specs.Lines.{installed_at}
use Rattle.evl_clock.specs.declared.timer.Timer.{Timer}
use Rattle.evl_clock.specs.Limits.{timer_count}
use Rattle.evl_clock.specs.Clocks as clocks
use Rattle.evl_clock.specs.Clocks.{timer_at}
use Rattle.evl_sched.specs.declared.group.Group.{Group}
use Rattle.evl_sched.specs.Ranks.{fresh}
use Rattle.evl_sched.specs.Threads.{Sched}
use Rattle.evl_kernel.specs.declared.bank.Numbered.{Numbered}
use Rattle.evl_kernel.specs.declared.waits.Wait.{Wait}
use Rattle.evl_kernel.specs.state.States.{Elements}
use Rattle.evl_kernel.specs.state.Callbacks.{AnswersByPlan, AreFilled, BringsNone, callbacks_in, handlers_in}
use Rattle.evl_kernel.specs.state.ElementsViews.{owners_of}
use Rattle.evl_kernel.specs.state.Insides.{calls_in}
use Rattle.evl_kernel.specs.state.Homecomings.{ComesHome}
use Rattle.evl_kernel.specs.state.Openings.{all_opened}
use Rattle.evl_kernel.specs.state.Places.{AreInOnePlace}
use Rattle.evl_kernel.specs.state.Records.{IsOpened, IsSound, KeepsCallbacks, RanksAreKept, RecordsView, WaitsAreKept, state_of, whereabouts}
use Rattle.evl_kernel.specs.state.Shapes.{HasShape, HaveShape}
use Rattle.evl_kernel.proofs.state.CallbackLaws.{answers-kept}
use Rattle.evl_kernel.proofs.state.HomeLaws.{filled_again}
use Rattle.evl_kernel.proofs.state.OpeningLaws.{allowed-new, no_timer-opening, nothing-opening, opened_records, ranks-none, sound-opening_clock, sound_again, timers_allowed-new, waits-none}

-- a clock with a place for each thread that may have a deadline is one of these threads
opening_again : {X : Type 0} (places threads : ℕ) → places ≡ min threads thread_limit → clocks.opening {C = X} places ≡ clocks.opening threads
unfolding clocks.opening
opening_again {X} places threads is =
    let same : min places thread_limit ≡ min threads thread_limit = omega (arith, is) in
    ap (λ (n : ℕ). record { now = 0; timers = replicate {A = Option (Timer X)} timer_count None; deadlines = replicate {A = Option ℕ} n None }) same

module _ {C : Type 0} (declared : C → ℕ) (plan : C → Plan) (board : Board) (old r new : RecordsView C) (shape : HasShape board (state_of old)) (kept : KeepsCallbacks old r) (comes : ComesHome (state_of old) (state_of r))
    (threads_are : new.threads ≡ r.threads) (bank_is : new.bank ≡ r.bank) (opened : new.elements.elements ≡ all_opened board) (nothing : new.lines ≡ lines.opening)
    (no_timers : new.clock ≡ clocks.opening (length r.clock.deadlines)) (nobody : new.sched ≡ fresh (length r.sched.sched.seats) (map (λ (g : Group). g.percent) r.sched.sched.groups))
    (no_waits : new.waits ≡ replicate (length r.waits) None) (sound : IsSound r) where
  of_board : r.threads ≡ board.threads
  of_board = comes.threads ∙ shape.threads

  clock_is : new.clock ≡ clocks.opening board.threads
  clock_is = no_timers ∙ opening_again (length r.clock.deadlines) board.threads (ap (λ (ds : List (Option ℕ)). length ds) comes.deadlines ∙ shape.deadlines)

  sched_is : new.sched ≡ fresh board.threads board.groups.items
  sched_is =
      let seats = ap (λ (s : Sched). length s.seats) comes.sched ∙ shape.seats in
      let groups = ap (λ (s : Sched). map (λ (g : Group). g.percent) s.groups) comes.sched ∙ shape.groups in
      nobody ∙ (λ i. fresh (seats i) (groups i))

  waits_are : new.waits ≡ replicate board.threads None
  waits_are = no_waits ∙ ap (λ (n : ℕ). replicate {A = Option Wait} n None) (sound.waits.places ∙ of_board)

  few : board.threads ≤ thread_limit
  few = subst (λ (n : ℕ). n ≤ thread_limit) of_board sound.waits.few

  pub opened_again : AnswersByPlan declared plan (whereabouts old) → AreInOnePlace (whereabouts old)
      → ((stage : Stage) (line : ℕ) → installed_at (state_of r).lines stage line ≡ None) → ((timer : ℕ) → timer_at (state_of r).clock timer ≡ None)
      → IsOpened declared plan board (callbacks_in new.bank) new
  opened_again answers one no_line no_timer =
      let filled = filled_again declared plan old r kept (answers-kept declared plan old r kept answers) one comes no_line no_timer in
      opened_records declared plan board (callbacks_in new.bank) new (threads_are ∙ of_board) opened waits_are
      (subst (λ bank. AreFilled declared plan (callbacks_in bank) bank) (sym bank_is) filled) nothing clock_is sched_is

  pub sound_reset : new.elements.base ≡ replicate (length r.elements.base) 0 → IsSound new
  sound_reset base =
      let shape_of_r : HaveShape board r.elements.elements = subst (λ (e : Elements). HaveShape board e) (sym comes.elements) shape.elements in
      let base_is : new.elements.base ≡ replicate board.threads 0 = base ∙ ap (λ (n : ℕ). replicate n 0) (sound.ranks.size ∙ of_board) in
      let threads = threads_are ∙ of_board in
      record {
        allowed = allowed-new new nothing;
        timers_allowed = timers_allowed-new new board.threads clock_is;
        clock_sound = sound-opening_clock new board.threads clock_is;
        ranks = subst (λ (n : ℕ). RanksAreKept n (owners_of new.elements) new.sched) (sym threads) (ranks-none new board few base_is sched_is);
        waits = subst (λ (n : ℕ). WaitsAreKept n new.elements.elements new.waits) (sym threads)
            (waits-none board new.elements.elements new.waits few (sound_again board r.elements.elements shape_of_r sound.waits.sound) opened waits_are);
      }

  pub keeps_reset : KeepsCallbacks old new
  keeps_reset = record { brings = stood; handlers_are = ap (λ bank. handlers_in bank) bank_is ∙ kept.handlers_are }
    where
      stood : BringsNone (whereabouts old) (whereabouts new)
      stood number callback (inl home) = kept.brings number callback (inl (record { place = home.place; at = ap (λ bank. slice_get bank number) (sym bank_is) ∙ home.at; there = home.there }))
      stood number callback (inr (inl out)) =
          absurd (nothing-opening out.stage out.line out.at (subst (λ (p : lines.Pipeline (Numbered C)). installed_at p out.stage out.line ≡ Some out.at) nothing out.there))
      stood number callback (inr (inr timed)) =
          absurd (no_timer-opening board.threads timed.timer timed.at (subst (λ (c : clocks.Clock (Numbered C)). timer_at c timed.timer ≡ Some timed.at) clock_is timed.there))

-- more entries and plays fit, so no fewer calls find their room
pub room_more : (entries more plays others boxes : ℕ) → entries ≤ more → plays ≤ others → calls_in entries plays boxes ≤ calls_in more others boxes
room_more entries more plays others boxes first second = omega (arith, first, second)
