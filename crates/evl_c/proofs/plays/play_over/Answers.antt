use Rattle.std.proofs.Common.{◌∙◌, List, ℕ, Option, Ok, Err, length, map, refl, ap, subst}
use Rattle.evl_c.specs.Forms.{handler_of}
use Rattle.evl_c.specs.Given.{IsTraceOf}
use Rattle.evl_c.specs.Plays.{RefusesText}
use Rattle.evl_c.specs.Windows.{window}
use Rattle.evl_c.proofs.plays.play_over.Goals as goal

pub returns-in-Ok : goal.returns-in-Ok
returns-in-Ok c = (
  Ok c.in-Ok.trace.items,
  subst (λ (limit : Option ℕ). IsTraceOf (map handler_of c.args.plans.now) limit c.args.text.now (Ok c.in-Ok.trace.items)) c.limit_given.ensures c.in-Ok.ensures.traced,
  record {
    end = Ok (length c.in-Ok.trace.items);
    ends = (c.in-Ok.trace.items, refl, refl, c.put_window.ensures ∙ ap (λ (text : List ℕ). window text c.args.start c.args.out.now) c.as_slice-bytes.ensures.value);
    count_is = ap length c.as_slice-bytes.ensures.value;
    step_is = refl;
    status_is = refl;
  },
)

pub returns-in-Err : goal.returns-in-Err
returns-in-Err c =
    let refused = subst (λ (limit : Option ℕ). RefusesText (map handler_of c.args.plans.now) limit c.args.text.now c.in-Err.fault) c.limit_given.ensures c.in-Err.ensures.refused in (
      refused.0,
      refused.1,
      record {
        end = Err c.in-Err.fault;
        ends = (refused.2, refl);
        count_is = refl;
        step_is = c.step_of.ensures;
        status_is = c.status_of.ensures.told;
      },
    )
