use Rattle.std.proofs.Common.{◌≡◌, sym, subst}
use Rattle.std.specs.Prelude.{All}
use Rattle.std.proofs.lemmas.List.Elements.{All-head, All-push, All-tail}
use Rattle.test_hosts.proofs.RunLemmas.{one_moved}
use Rattle.test_hosts.proofs.runs.callers_of.Goals as goal

pub loop-hand-preserved : goal.loop-hand-preserved
loop-hand-preserved g c =
    let m = c.args.machine.now in
    let left = subst (All (λ h. h.caller.machine ≡ m)) c.in-Some.ensures.steps.0 c.loop-hand.invariant.1 in
    let first = All-head (λ h. h.caller.machine ≡ m) c.in-Some.hand c.next.new.self.rest.items left in
    let pushed = All-push (λ x. x.machine ≡ m) c.loop-hand.callers.items c.in-Some.hand.caller c.loop-hand.invariant.0 first in (
      subst (All (λ x. x.machine ≡ m)) (sym c.in-Ok.ensures.items) pushed,
      All-tail (λ h. h.caller.machine ≡ m) c.in-Some.hand c.next.new.self.rest.items left,
      one_moved _ _ _ _ _ _ _ c.in-Some.ensures.steps.0 c.in-Ok.ensures.items c.loop-hand.invariant.2,
    )
