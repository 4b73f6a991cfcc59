use Rattle.std.proofs.Common.{◌∷◌, ap, subst, ◌∙◌}
use Rattle.evl_core.specs.worlds.Events.{Gives}
use Rattle.evl_machine.specs.callers.Handles.{CallerState}
use Rattle.evl_machine.proofs.closing.give_first.Goals as goal

pub returns : goal.returns
returns g c = record {
  back = (
    c.give.result.lock,
    c.put_first.ensures ∙ ap (λ (z : CallerState _). z ∷ c.args.callers.now.items) c.give.ensures.given,
    subst (λ (z : CallerState _). Gives c.args.held.caller.machine.first c.args.held.caller.account c.args.held.caller.lock c.args.held.kernel z.account c.give.result.lock) c.give.ensures.given c.give.ensures.event,
  );
}
