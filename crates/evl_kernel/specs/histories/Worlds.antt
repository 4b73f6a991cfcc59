-- The in-band stage's deeds for itself: its stalls, its plays, and requests of callbacks without actions.
use Rattle.std.specs.Prelude.{ℕ, ◌≡◌, Bool, true, false, not, List, [], filter, is_ok}
use Rattle.evl_base.specs.declared.stage.Stage.{Stage}
use Rattle.evl_base.specs.declared.stage.Stage.TheVariants.{Inband, Oob}
use Rattle.evl_base.specs.declared.call.Call.{Call}
use Rattle.evl_base.specs.declared.play.Play.{Play}
use Rattle.evl_base.specs.declared.play.Play.TheVariants.{Line}
use Rattle.evl_base.specs.declared.entry.Entry.{Entry}
use Rattle.evl_kernel.specs.calls.Families.{LineStep, request, stall, unstall, Task, on_lines, task_of}
use Rattle.evl_kernel.specs.state.States.{State, plan_at}

abbrev pub is_inband : Stage → Bool
is_inband Inband = true
is_inband Oob = false

-- it begins or ends a stall of the in-band stage
abbrev pub is_inband_step : LineStep → Bool
is_inband_step (stall stage) = is_inband stage
is_inband_step (unstall stage) = is_inband stage
is_inband_step _ = false

abbrev pub is_inband_task : Task → Bool
is_inband_task (on_lines step) = is_inband_step step
is_inband_task _ = false

abbrev pub is_inband_stall : Call → Bool
is_inband_stall asked = is_inband_task (task_of asked)

abbrev pub is_inband_play : Play → Bool
is_inband_play (Line line stage count handled) = is_inband stage
is_inband_play _ = false

-- the entries of all calls but in-band stalls
abbrev pub outside_inband : List Entry → List Entry
outside_inband entries = filter (λ e. not (is_inband_stall e.call)) entries

-- all plays but in-band ones
abbrev pub played_outside : List Play → List Play
played_outside plays = filter (λ p. not (is_inband_play p)) plays

-- whatever callback it requested in-band has no actions
abbrev pub RequestsNoActions : State → Entry → Type 0
RequestsNoActions s e = (line number tag : ℕ) → task_of e.call ≡ on_lines (request line Inband number tag) → is_ok e.reply ≡ true → (plan_at s number).rows.items ≡ []
