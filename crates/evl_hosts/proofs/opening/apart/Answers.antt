use Rattle.std.proofs.Common.{◌≡◌, All, List, ap, subst, ◌∙◌}
use Rattle.std.proofs.lemmas.List.Elements.{All-tail}
use Rattle.std.specs.Arc.{arc_value}
use Rattle.evl_machine.specs.callers.Handles.{CallerState}
use Rattle.evl_plans.specs.declared.planned.Planned.{Planned}
use Rattle.evl_hosts.specs.Hosts.{new_host}
use Rattle.evl_hosts.proofs.HostLaws.{made_more}
use Rattle.evl_hosts.proofs.opening.apart.Goals as goal

pub loop-caller-preserved : goal.loop-caller-preserved
loop-caller-preserved c =
    let machine = arc_value c.args.shared.now in
    let cut = c.in-Some.ensures.steps.0 in record {
      made = made_more (new_host machine) c.loop-caller.hosts.items _ c.new.result c.in-Some.caller _ c.next.new.self.rest.items _ cut
          (c.new.ensures ∙ ap (λ m. new_host m c.in-Some.caller) c.in_ok-share.ensures) c.in_ok-push.ensures.items c.loop-caller.invariant.made;
      belong = All-tail (λ (it : CallerState Planned). it.machine ≡ machine) c.in-Some.caller c.next.new.self.rest.items
          (subst (λ (l : List (CallerState Planned)). All (λ (it : CallerState Planned). it.machine ≡ machine) l) cut c.loop-caller.invariant.belong);
    }
