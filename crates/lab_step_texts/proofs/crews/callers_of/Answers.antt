use Rattle.std.proofs.Common.{◌≡◌, List, [], ◌∷◌, length, ap, arith, length-append, subst}
use Rattle.std.specs.Prelude.{Some, slice_get}
use Rattle.lab_step_orders.specs.declared.crews.CrewCaller.{CrewCaller}
use Rattle.lab_step_texts.specs.Crews.{caller_of}
use Rattle.lab_step_texts.proofs.CrewLaws.{one_more}
use Rattle.lab_step_texts.proofs.crews.callers_of.Goals as goal

pub loop-who-preserved : goal.loop-who-preserved
loop-who-preserved c =
    let xs = c.loop-who.all.items in
    let x = c.in_ok-caller.caller in
    let items = c.in_ok-push.ensures.items in
    record {
      each = omega (arith, ap (λ (l : List CrewCaller). length l) items, length-append xs (x ∷ []), c.loop-who.invariant.each);
      callers = λ k y e.
          one_more (caller_of c.args.setup.now c.args.steps.now c.args.ways.now c.args.calls.now) xs c.loop-who.who x c.loop-who.invariant.each c.in_ok-caller.ensures c.loop-who.invariant.callers k y
          (subst (λ (l : List CrewCaller). slice_get l k ≡ Some y) items e);
    }
