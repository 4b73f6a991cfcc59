use Rattle.std.proofs.Common.{◌∙◌, List, ap, map, refl, sym}
use Rattle.std.proofs.lemmas.Result.{IfErr-weaker}
use Rattle.evl_kernel.specs.state.States.{Handler}
use Rattle.evl_plans.specs.Told.{handler_of}
use Rattle.lab_kinds.specs.Kinds.{kind_of}
use Rattle.lab_draws.proofs.DrawLemmas.{callers_drawn, others_said}
use Rattle.lab_draws.proofs.callers_texts.draw_unplayed.Goals as goal

pub returns-in-Callers-clause-writes : goal.returns-in-Callers-clause-writes
returns-in-Callers-clause-writes g c =
    let bank : List Handler = map handler_of c.args.view.now.bank.now in
    callers_drawn _ bank c.args.view.now.drawing c.args.text.now c.args.line c.in_ok-kind.kind c.args.fault _ _ _ _ c.draw_called.result
    (sym c.has_words.ensures ∙ c.if-not-has_words.false) (c.in_ok-kind.ensures ∙ ap kind_of c.as_bytes.ensures.value) c.in-Callers.is c.draw_called.ensures.writes

pub returns-in_default : goal.returns-in_default
returns-in_default g c =
    let bank : List Handler = map handler_of c.args.view.now.bank.now in
    record {
      writes = others_said _ bank c.args.view.now.drawing c.args.text.now c.args.line c.in_ok-kind.kind c.args.fault _ _ _ c.tell_neither.result
          (c.in_ok-kind.ensures ∙ ap kind_of c.as_bytes.ensures.value) c.in_default.not-Callers c.tell_neither.ensures.line c.tell_neither.ensures.status;
      early = IfErr-weaker c.tell_neither.result _ _ (λ error early. λ unread unwritten untold. early unread refl untold) c.tell_neither.ensures.early;
    }
