use Rattle.std.proofs.Common.{◌≡◌, sym, subst}
use Rattle.std.specs.Prelude.{All}
use Rattle.std.proofs.lemmas.List.Elements.{All-head, All-push, All-tail}
use Rattle.test_hosts.proofs.races.players_of.Goals as goal

pub loop-caller-preserved : goal.loop-caller-preserved
loop-caller-preserved g c =
    let m = c.args.machine.now in
    let left = subst (All (λ x. x.machine ≡ m)) c.in-Some.ensures.steps.0 c.loop-caller.invariant.1 in (
      subst (All (λ p. p.caller.machine ≡ m)) (sym c.in-Ok.ensures.items) (All-push (λ p. p.caller.machine ≡ m) c.loop-caller.players.items _ c.loop-caller.invariant.0 c.in_ok-caller.ensures),
      All-tail (λ x. x.machine ≡ m) c.in-Some.caller c.next.new.self.rest.items left,
    )
