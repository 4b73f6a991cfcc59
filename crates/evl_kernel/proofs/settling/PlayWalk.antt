-- All that each play keeps, where each kind of change that plays make keeps it: no play asks for a step of a mutex but a
-- deadline that falls due.
use Rattle.std.proofs.Common.{◌≡◌, ℕ, Bool, true, false, not, List, [], ◌∷◌, Option, Some, None, unwrap_or, slice_get, if◌then◌else◌, refl, sym, subst}
use Rattle.std.specs.Option.{option_map_or}
use Rattle.evl_base.specs.declared.play.Play.{Play}
use Rattle.evl_base.specs.declared.refusal.Refusal.TheVariants.{Busy}
use Rattle.evl_base.specs.declared.stage.Stage.{Stage}
use Rattle.evl_base.specs.declared.stage.Stage.TheVariants.{Inband, Oob}
use Rattle.evl_pipeline.specs.declared.action.Action.{Action}
use Rattle.evl_pipeline.specs.declared.action.Action.TheVariants.{PostSem, PostFlags, Propagate, PostOob, StopTimer}
use Rattle.evl_pipeline.specs.declared.answer.Answer.{Answer}
use Rattle.evl_pipeline.specs.Lines as lines
use Rattle.evl_clock.specs.Clocks.{Clock, deadline_at, timer_refusal}
use Rattle.evl_clock.specs.Dues.{next_due}
use Rattle.evl_clock.specs.declared.due.Item.{Item}
use Rattle.evl_clock.specs.declared.due.Item.TheVariants as item
use Rattle.evl_clock.specs.declared.timer.Timer.{Timer}
use Rattle.evl_clock.specs.ClockSteps.{fired}
use Rattle.evl_clock.proofs.DueLaws.{next-deadline}
use Rattle.evl_kernel.specs.settling.Paths.{Along}
use Rattle.evl_kernel.specs.state.States.{State, Banked, with_lines, with_clock, with_banked, come_home}
use Rattle.evl_kernel.specs.calls.Semaphores.{put}
use Rattle.evl_kernel.specs.calls.FlagGroups as group
use Rattle.evl_kernel.specs.calls.Elements.{ElementStep, on_sem, on_flags, touched}
use Rattle.evl_kernel.specs.calls.LineCalls as line_call
use Rattle.evl_kernel.specs.calls.Effects.{done}
use Rattle.evl_kernel.specs.calls.Families.{LineStep, request, free, arrive, post, stall, unstall, line_effect}
use Rattle.evl_kernel.specs.calls.Serving.{answer}
use Rattle.evl_kernel.specs.settling.Settling.{Settling, Settles, next_play, after_action as acted, all_acted, after_answer, deadline_left, answer_given, item_played, pending_played, line_played, clock_played, is_clock, after_call, nothing, timer_played, timer_given, no_timer}
use Rattle.evl_kernel.specs.histories.MutexRests.{is_of_mutexes}
use Rattle.evl_kernel.proofs.settling.DueLaws.{one_played, item_due, timer_found}
use Rattle.evl_kernel.proofs.calls.QueueLaws.{IsAsked, asks_put, asks_post}
use Rattle.evl_kernel.proofs.calls.LeavesLaws.{Leaves, leaves-refused, leaves-unless, leaves-known, leaves-if_done}

-- each kind of change keeps this; the date stays, and what ends by a deadline had one
pub record KeptByPlays (P : State → Type 0) : Type 0 where
  pub lined : (s : State) (q : lines.Pipeline ℕ) → P s → P (with_lines s q)
  pub banked : (s : State) (number : ℕ) (home : Bool) (b : Banked) → P s → P (with_banked s home number b)
  pub clocked : (s : State) (c : Clock ℕ) → c.deadlines ≡ s.clock.deadlines → c.now ≡ s.clock.now → P s → P (with_clock s c)
  pub acted : (s : State) (step : ElementStep) → IsAsked step → is_of_mutexes step ≡ false → P s → Leaves P (touched s None step).effect
  pub expired : (s : State) (thread date : ℕ) → deadline_at s.clock thread ≡ Some date → P s → P (deadline_left s thread).1

module _ (P : State → Type 0) (k : KeptByPlays P) where
  pub holds-home : (s : State) (number : ℕ) → P s → P (come_home s number)
  holds-home s number h = by (slice_get s.bank number)
    where
      by : (o : Option Banked) → P (option_map_or (with_banked s true number) o s)
      by None = h
      by (Some b) = k.banked s number true b h

  holds-returned : (s : State) (o : Option (lines.Installed ℕ)) → P s → P (line_call.with_callback_back s o)
  holds-returned s None h = h
  holds-returned s (Some at) h = holds-home s at.callback h

  pub holds-line : (s : State) (step : LineStep) → P s → Leaves P (line_effect s step)
  holds-line s (request line stage number tag) h = leaves-known P (slice_get s.bank number) _ (λ b here.
      leaves-refused P (lines.request_refusal s.lines line stage b.handler.kinds) _ (λ passed. leaves-unless P (not b.home) Busy
      (done (with_banked (with_lines s (lines.requested s.lines line stage number tag)) false number b)) (k.banked (with_lines s _) number false b (k.lined s _ h))))
  holds-line s (free line stage) h = leaves-refused P (lines.free_refusal s.lines line stage) _ (λ passed.
      holds-returned (with_lines s (lines.freed s.lines line stage)) (lines.installed_at s.lines stage line) (k.lined s _ h))
  holds-line s (arrive line) h = leaves-refused P (lines.post_refusal line) _ (λ passed. k.lined s _ h)
  holds-line s (post stage line) h = leaves-refused P (lines.post_refusal line) _ (λ passed. k.lined s _ h)
  holds-line s (stall stage) h = k.lined s _ h
  holds-line s (unstall stage) h = k.lined s _ h

  holds-post : (s : State) (stage : Stage) (line : ℕ) → P s → Leaves P (line_call.post s stage line)
  holds-post s stage line h = leaves-refused P (lines.post_refusal line) _ (λ passed. k.lined s _ h)

  holds-acted : (s : State) (line : ℕ) (action : Action) → P s → P (acted s line action)
  holds-acted s line (PostSem sem) h = leaves-if_done P s _ h (k.acted s (on_sem sem.0 put) (asks_put sem.0) refl h)
  holds-acted s line (PostFlags flags bits) h = leaves-if_done P s _ h (k.acted s (on_flags flags.0 (group.post bits)) (asks_post flags.0 bits) refl h)
  holds-acted s line Propagate h = leaves-if_done P s _ h (holds-post s Inband line h)
  holds-acted s line (PostOob other) h = leaves-if_done P s _ h (holds-post s Oob other.0 h)
  holds-acted s line (StopTimer timer) h = leaves-if_done P s _ h (leaves-refused P (timer_refusal s.clock timer.0) _ (λ passed. k.clocked s _ refl refl h))

  holds-all_acted : (s : State) (line : ℕ) (actions : List Action) → P s → P (all_acted s line actions)
  holds-all_acted s line [] h = h
  holds-all_acted s line (action ∷ actions) h = holds-all_acted (acted s line action) line actions (holds-acted s line action h)

  holds-answered : (s : State) (line : ℕ) (answer : Answer) → P s → P (after_answer s line answer)
  holds-answered s line answer h = by answer.handled
    where
      by : (b : Bool) → P (if b then all_acted s line answer.actions.items else s)
      by true = holds-all_acted s line answer.actions.items h
      by false = h

  holds-item : (s : State) (found : Item) → P s → next_due s.clock ≡ Some found → P (item_played s found).1
  holds-item s (item.Deadline thread) h due = let d = next-deadline s.clock thread.0 due in k.expired s thread.0 d.at d.is h
  holds-item s (item.Timer id) h due =
      let found = timer_found s.clock id due in
      subst (λ (o : Option (Timer ℕ)). P (timer_played s id.0 (unwrap_or o no_timer)).1) (sym found.1)
      (holds-answered (with_clock s (fired s.clock id.0 found.0)) 0 (timer_given s found.0) (k.clocked s (fired s.clock id.0 found.0) refl refl h))

  holds-played : (s : State) (stage : Stage) (line : ℕ) → P s → P (pending_played s stage line).1
  holds-played s stage line h = by (is_clock stage line)
    where
      at : lines.Installed ℕ
      at = unwrap_or (lines.installed_at s.lines stage line) nothing

      by : (b : Bool) → P (if b then clock_played s else line_played s stage line at).1
      by true = k.lined s _ h
      by false = holds-answered (with_lines s (lines.played s.lines stage line at (answer_given s at).handled)) line (answer_given s at) (k.lined s _ h)

  next_holds : (at mid : Settling) (one : Play) → P at.state → next_play at ≡ Some (one, mid) → P mid.state
  next_holds at mid one h next = one_played (λ (x : Play × Settling). P x.1.state) at mid one
      (λ found is. holds-item at.state found h (item_due at found is))
      (λ stage line none is. holds-played at.state stage line h) next

  along_holds : (at last : Settling) (plays : List Play) → P at.state → Along next_play at plays last → P last.state
  along_holds at last [] h path = subst (λ (x : Settling). P x.state) (sym path) h
  along_holds at last (one ∷ plays) h (mid, next, path) = along_holds mid last plays (next_holds at mid one h next) path

  pub settles_holds : (changed new : State) (plays : List Play) → P changed → Settles changed plays new → P new
  settles_holds changed new plays h settles = subst P (sym settles.left) (along_holds (after_call changed) settles.last plays h settles.played)
