-- The moments that the steps of a scenario show, one after another.
use Rattle.std.proofs.Common.{◌≡◌, ◌≢◌, ◌↔◌, ◌∙◌, ◌++◌, ℕ, true, false, Bool, List, [], ◌∷◌, length, map, append-nil, append_assoc, Result, Ok, Err, IfOk, IsTrue, IsFalse, if◌then◌else◌, refl, sym, ap, arith}
use Rattle.std.proofs.lemmas.List.{length-map, map-append}
use Rattle.evl_base.specs.declared.board.Board.{Board}
use Rattle.evl_base.specs.declared.refusal.Refusal.{Refusal}
use Rattle.evl_base.specs.declared.refusal.Refusal.TheVariants.{HistoryFull}
use Rattle.evl_base.specs.declared.reply.Reply.{Reply}
use Rattle.lab_drawing.specs.declared.lanes.Lane.{Lane}
use Rattle.lab_drawing.specs.declared.moments.Moment as pictures
use Rattle.evl_kernel.specs.state.KernelViews.{AddsEntry, IsOpened, KernelView, makes_entry}
use Rattle.evl_kernel.specs.state.Openings.{can_open, opening}
use Rattle.evl_plans.specs.Told.{handler_of}
use Rattle.evl_plans.specs.declared.planned.Planned.{Planned}
use Rattle.evl_scenario.specs.Scenarios.{Script}
use Rattle.evl_scenario.specs.declared.steps.Step.{Step}
use Rattle.evl_shell.specs.Moments.{moment, wants_memory}
use Rattle.evl_shell.specs.Runs.{Moment, beginning, turn}
use Rattle.evl_shell.proofs.TurnLemmas.{made}
use Rattle.lab_moments.specs.Moments.{Shown, script_shown, moment_shown, shown_at, shown_from}

-- a call that isn't refused for want of memory is the turn of its step
pub turned : (old new : KernelView Planned) (step : Step) (reply : Result Reply Refusal)
    → (IsTrue (makes_entry reply) → AddsEntry old.history step.who.0 step.call reply new.history)
    → (IsFalse (makes_entry reply) → new.history ≡ old.history)
    → ((reply ≡ Err HistoryFull) ↔ (length old.history.entries ≡ old.limit))
    → new.limit ≡ old.limit → wants_memory reply ≡ false
    → moment new ≡ (turn old.limit (moment old) step).after
turned old new step reply adds keeps full bound memory = (made old new step step.call reply refl adds keeps full bound memory).turns.after

-- what holds whatever a result is, holds where it is one
pub if_ok : {T E : Type 0} (r : Result T E) (P : Type 0) → P → IfOk r (λ x. P)
if_ok (Ok x) P p = p
if_ok (Err e) P p = tt

-- one moment more, by the next of the steps
pub one_more : (lanes : List Lane) (kept same : ℕ) (m after : Moment) (done more : List pictures.Moment) (one : pictures.Moment) (steps rest : List Step) (step : Step) (all : List Shown)
    → map moment_shown done ++ shown_from lanes kept m steps ≡ all → steps ≡ step ∷ rest → after ≡ (turn kept m step).after → moment_shown one ≡ shown_at lanes after.state
    → more ≡ done ++ one ∷ [] → same ≡ kept → map moment_shown more ++ shown_from lanes same after rest ≡ all
one_more lanes kept same m after done more one steps rest step all e cut is seen pushed bound =
    (λ i. map moment_shown (pushed i) ++ shown_from lanes (bound i) after rest)
    ∙ ap (λ (ss : List Shown). ss ++ shown_from lanes kept after rest) (map-append moment_shown done (one ∷ []))
    ∙ append_assoc (map moment_shown done) (moment_shown one ∷ []) (shown_from lanes kept after rest)
    ∙ ap (λ (s : Shown). map moment_shown done ++ s ∷ shown_from lanes kept after rest) seen
    ∙ ap (λ (t : Moment). map moment_shown done ++ shown_at lanes t.state ∷ shown_from lanes kept t rest) is
    ∙ ap (λ (ss : List Step). map moment_shown done ++ shown_from lanes kept m ss) (sym cut)
    ∙ e

-- no steps are left
pub none_more : (lanes : List Lane) (kept : ℕ) (m : Moment) (done : List pictures.Moment) (steps : List Step) (all : List Shown)
    → map moment_shown done ++ shown_from lanes kept m steps ≡ all → length steps ≡ 0 → map moment_shown done ≡ all
none_more lanes kept m done [] all e none = sym (append-nil (map moment_shown done)) ∙ e
none_more lanes kept m done (step ∷ rest) all e none = absurd (omega (arith, none))

-- ---- from a kernel that was just made

chosen : {A : Type 0} (b : Bool) (x y : A) → b ≢ false → (if b then x else y) ≡ x
chosen true x y h = refl
chosen false x y h = absurd (h refl)

-- a script over these callbacks, by what was opened of it
pub opened_shown : (lanes : List Lane) (bank : List Planned) (script : Script) (board : Board) (limit : ℕ) (steps : List Step) (kernel : KernelView Planned)
    → board ≡ script.board → limit ≡ script.limit → steps ≡ script.steps → can_open board (length bank) limit ≢ false
    → IsOpened (λ p. p.kinds.0) (λ p. p.plan) board bank limit kernel
    → shown_from lanes kernel.limit (moment kernel) steps ≡ script_shown lanes (map handler_of bank) script
opened_shown lanes bank script board limit steps kernel b l s can k =
    let start : moment kernel ≡ beginning (opening board (map handler_of bank)) =
    (λ i. record { entries = length (k.entries i); state = (k.state ∙ (λ j. opening (k.board_is j) (k.bank_is j))) i }) in
    let count : length (map handler_of bank) ≡ length bank = length-map bank handler_of in
    let open_too : can_open script.board (length (map handler_of bank)) script.limit ≢ false = λ e. can ((λ i. can_open (b i) (sym count i) (l i)) ∙ e) in
    (λ i. shown_from lanes ((k.limit_is ∙ l) i) (start i) (s i))
    ∙ ap (λ (o : Board). shown_from lanes script.limit (beginning (opening o (map handler_of bank))) script.steps) b
    ∙ sym (chosen (can_open script.board (length (map handler_of bank)) script.limit) (shown_from lanes script.limit (beginning (opening script.board (map handler_of bank))) script.steps) [] open_too)
