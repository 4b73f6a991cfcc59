use Rattle.std.proofs.Common.{◌≡◌, ◌∙◌, ap, arith}
use Rattle.lab_callers.specs.Views.{LooksAt, Sees}
use Rattle.lab_callers.proofs.CrewLaws.{back_at, ok_gives}
use Rattle.evl_machine.specs.calls.Calls.{TookKernel}
use Rattle.evl_machine.specs.callers.Handles.{HeldState, returned}
use Rattle.lab_callers.proofs.crew.Crew.look_by.Goals as goal

pub returns-in-Ok-put_back-clause-looked : goal.returns-in-Ok-put_back-clause-looked
returns-in-Ok-put_back-clause-looked g c =
    let xs = c.self.inside.callers.items in
    let later = c.put_back.new.self.callers in
    let taker = c.in-Ok.held in
    let given = c.give.ensures.given ∙ ap (λ (h : HeldState _). returned h.kernel.history c.give.result.lock h.caller) c.look-view.ensures.same in
    rw (← c.self.view_is) (ok_gives (λ v. Sees taker c.args.question v) (λ v. LooksAt xs c.args.place c.args.question v later) c.look-view.result c.look-view.ensures.seen (λ v seen. record {
      taker = taker;
      stepped = back_at xs c.remove-caller.new.self.items later c.args.place c.remove-caller.result c.give.result (λ before after. TookKernel before taker × (after ≡ returned taker.kernel.history after.lock taker.caller)) (omega arith)
          c.remove-caller.ensures.value c.remove-caller.ensures.items c.in-Ok-put_back.ensures.back (c.in-Ok.ensures.taken, given);
      seen = seen;
    }))
