-- The picture of a text of callers, or why there is none, by what was kept of its run.
use Rattle.std.proofs.Common.{◌≡◌, ℕ, List, Result, Ok, Err, IfOk, IfErr, string_bytes, refl, sym, subst}
use Rattle.std.specs.Prelude.{Option, None}
use Rattle.evl_base.specs.declared.board.Board.{Board}
use Rattle.evl_kernel.specs.state.KernelViews.{KernelView}
use Rattle.evl_kernel.specs.state.States.{Handler}
use Rattle.evl_plans.specs.declared.planned.Planned.{Planned}
use Rattle.evl_scenario.specs.Writings.{without_staxes}
use Rattle.lab_callers.specs.declared.playing.Ending.{Ending}
use Rattle.lab_callers.specs.declared.playing.Ending.TheVariants as ending
use Rattle.lab_callers.specs.declared.playing.Played.{Played}
use Rattle.lab_callers_text.specs.Readings.{IsRead}
use Rattle.lab_callers_text.specs.declared.reading.CallersText.{CallersText}
use Rattle.lab_caller_pictures.specs.Runs.{AllMade, EndsFor, IsKnown, IsRunBy, IsWhyBy, IsWhyOf, PlaysKept}
use Rattle.lab_caller_pictures.specs.declared.plays.CallersRun.{CallersRun}
use Rattle.lab_caller_pictures.specs.declared.plays.Unplayed.{Unplayed}
use Rattle.lab_caller_pictures.specs.declared.plays.Unplayed.TheVariants as why

-- what is drawn of what was kept
pub run_by : (bank : List Handler) (asked : CallersText) (board : Board) (told : Played) (entered : List ℕ) (left : Option (KernelView Planned)) (r : Result CallersRun Unplayed)
    → PlaysKept bank asked told entered left → board ≡ without_staxes asked.board → IfOk r (λ run. AllMade told.ending) → IfOk r (λ run. string_bytes run.lines ≡ string_bytes told.lines)
    → IfOk r (λ run. IsKnown board asked.limit entered left run.entered) → IfOk r (IsRunBy bank asked)
run_by bank asked board told entered left (Ok run) plays same made lines known = record {
  told = told;
  entered = entered;
  left = left;
  plays = plays;
  made = made;
  lines = lines;
  known = subst (λ (b : Board). IsKnown b asked.limit entered left run.entered) same known;
}
run_by bank asked board told entered left (Err reason) plays same made lines known = tt

-- why there is nothing
pub why_by : (bank : List Handler) (asked : CallersText) (told : Played) (entered : List ℕ) (left : Option (KernelView Planned)) (r : Result CallersRun Unplayed)
    → PlaysKept bank asked told entered left → IfErr r (EndsFor told.ending) → IfErr r (IsWhyBy bank asked)
why_by bank asked told entered left (Ok run) plays ends = tt
why_by bank asked told entered left (Err reason) plays ends = by told.ending refl ends
  where
    by : (e : Ending) → told.ending ≡ e → EndsFor e reason → IsWhyBy bank asked reason
    by (ending.Fault number fault) at is =
        subst (λ (w : Unplayed). IsWhyBy bank asked w) (sym is) (record { told = told; entered = entered; left = left; plays = plays; stops = at })
    by ending.Closed at is = subst (λ (w : Unplayed). IsWhyBy bank asked w) (sym is) tt
    by (ending.Open refusal) at is = subst (λ (w : Unplayed). IsWhyBy bank asked w) (sym is) tt

-- of a text that was read
why_read : (bank : List Handler) (text : List ℕ) (asked : CallersText) (reason : Unplayed) → IsRead None text asked → IsWhyBy bank asked reason → IsWhyOf bank text reason
why_read bank text asked (why.Text fault) read is = absurd is
why_read bank text asked why.Board read is = (asked, read, is)
why_read bank text asked (why.Step number fault) read is = (asked, read, is)
why_read bank text asked why.Memory read is = tt

pub why_of : (bank : List Handler) (text : List ℕ) (asked : CallersText) (r : Result CallersRun Unplayed) → IsRead None text asked → IfErr r (IsWhyBy bank asked) → IfErr r (IsWhyOf bank text)
why_of bank text asked (Ok run) read is = tt
why_of bank text asked (Err reason) read is = why_read bank text asked reason read is
