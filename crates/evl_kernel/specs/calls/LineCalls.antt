-- The calls on lines and stages.
use Rattle.std.specs.Prelude.{ℕ, not, false, [], ◌∷◌, Option, Some, None, slice_get}
use Rattle.evl_base.specs.declared.stage.Stage.{Stage}
use Rattle.evl_base.specs.declared.refusal.Refusal.TheVariants.{Busy}
use Rattle.evl_pipeline.specs.Lines as lines
use Rattle.evl_kernel.specs.state.States.{State, with_lines, with_banked, come_home}
use Rattle.evl_kernel.specs.calls.Effects.{Effect, done, unless, known, refused_by}

-- rule: A callback is in one place: the bank, one line of one stage, or one timer; a free or a drop brings it back.
--   None is made or exchanged.
--   also: LineCalls.with_callback_back; Callbacks.{BringsNone, Stands}; Places.{CallbacksAreInOnePlace, AreInOnePlace}
--   clauses: callbacks_are_in_one_place; Kernel::new; Kernel::apply: by_plan, handlers
--   rows: lines_1; post_from_handler
-- refusals: Request, Free, Arrive, Post
--   also: Lines.{request_refusal, free_refusal, post_refusal}
-- the callback leaves its bank place for the line
abbrev pub request : State → ℕ → Stage → ℕ → ℕ → Effect
request s line stage number tag = known (slice_get s.bank number) (λ b.
    refused_by (lines.request_refusal s.lines line stage b.handler.kinds) (unless ((not b.home, Busy) ∷ [])
    (done (with_banked (with_lines s (lines.requested s.lines line stage number tag)) false number b))))

-- the callback that stood on the line is back in its bank place
abbrev pub with_callback_back : State → Option (lines.Installed ℕ) → State
with_callback_back s None = s
with_callback_back s (Some at) = come_home s at.callback

abbrev pub free_line : State → ℕ → Stage → Effect
free_line s line stage = refused_by (lines.free_refusal s.lines line stage)
    (done (with_callback_back (with_lines s (lines.freed s.lines line stage)) (lines.installed_at s.lines stage line)))

abbrev pub arrive : State → ℕ → Effect
arrive s line = refused_by (lines.post_refusal line) (done (with_lines s (lines.arrived s.lines line)))

abbrev pub post : State → Stage → ℕ → Effect
post s stage line = refused_by (lines.post_refusal line) (done (with_lines s (lines.posted s.lines stage line)))

abbrev pub stall : State → Stage → Effect
stall s stage = done (with_lines s (lines.stalled s.lines stage))

abbrev pub unstall : State → Stage → Effect
unstall s stage = done (with_lines s (lines.unstalled s.lines stage))
