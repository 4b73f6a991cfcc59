use Rattle.std.proofs.Common.{◌∙◌, List, ℕ, Some, ap, length, map, refl, subst}
use Rattle.std.specs.Prelude.{IfSome}
use Rattle.evl_c.specs.Draws.{nothing}
use Rattle.evl_c.specs.Forms.{handler_of}
use Rattle.evl_c.specs.Pictures.{DrawsBytes, failed, picture}
use Rattle.evl_c.specs.Windows.{window}
use Rattle.evl_c.specs.declared.draws.Drawn.{Drawn}
use Rattle.evl_c.specs.declared.pictures.Form.{Form}
use Rattle.evl_c.proofs.DrawLemmas.{nothing_shown}
use Rattle.evl_c.proofs.draws.draw_over.Goals as goal

pub returns-in-Ok-clause-drawn : goal.returns-in-Ok-clause-drawn
returns-in-Ok-clause-drawn c =
    let made = picture c.in-Ok.picture.text.items c.in-Ok.picture.pages in
    record {
      outcome = Some made;
      is_so = subst (λ (f : Form). DrawsBytes (map handler_of c.args.plans.now) c.args.page f c.args.text.now made) c.form_of.ensures c.in-Ok.ensures;
      shown_is = c.put_window.ensures ∙ ap (λ (text : List ℕ). window text c.args.start c.args.out.now) c.as_slice-bytes.ensures.value;
      told_is = ap (λ (text : List ℕ). record nothing { length = length text; pages = c.in-Ok.picture.pages }) c.as_slice-bytes.ensures.value;
      status_is = refl;
    }

pub returns-in-Err-clause-drawn : goal.returns-in-Err-clause-drawn
returns-in-Err-clause-drawn c = record {
  outcome = failed c.in-Err.why;
  is_so = subst (λ (f : Form). IfSome (failed c.in-Err.why) (DrawsBytes (map handler_of c.args.plans.now) c.args.page f c.args.text.now)) c.form_of.ensures c.in-Err.ensures;
  shown_is = nothing_shown c.in-Err.why c.args.start c.args.out.now;
  told_is = c.drawn_of.ensures;
  status_is = c.status_of.ensures.told;
}
