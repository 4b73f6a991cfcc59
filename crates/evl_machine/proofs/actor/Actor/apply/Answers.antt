use Rattle.std.proofs.Common.{length, sym, ap, ◌∙◌, subst}
use Rattle.evl_kernel.specs.state.KernelViews.{KernelView}
use Rattle.evl_machine.specs.callers.Actors.{ClaimsOneOf, SeatedActor, Suits, acting, stage_in}
use Rattle.evl_machine.specs.callers.Unfinished.{wait_after}
use Rattle.evl_machine.proofs.callers.Staying.{actor_applied, suits_applied}
use Rattle.evl_machine.proofs.actor.Actor.apply.Goals as goal

pub invariant_of-self : goal.invariant_of-self
invariant_of-self g c =
    let is = sym c.self.view_is in
    let now = c.stage-self-inside.ensures.stage ∙ ap (λ (k : KernelView _). stage_in k.history c.self.inside.thread.0) c.kernel.ensures in
    actor_applied _ c.apply-answer.new.self _ c.args.call _ _ _ c.self.invariant (subst (λ (a : SeatedActor _). Suits (acting a) c.args.kernel.now.history) is c.requires.suits) (λ holds. c.requires.stays (ap (λ (a : SeatedActor _). Rattle.evl_machine.specs.stax_locks.StaxSeats.holds_stax a.staxes) is ∙ holds)) c.apply-answer.ensures now
    (subst (λ (a : SeatedActor _). ClaimsOneOf (length a.places) c.args.call) is c.requires.there) (c.wait_after-self-inside.ensures ∙ ap (λ s. wait_after c.self.inside.wait s c.apply-answer.result) c.wait_step-step.ensures)

pub returns-clause-suits : goal.returns-clause-suits
returns-clause-suits g c =
    let is = sym c.self.view_is in
    let now = c.stage-self-inside.ensures.stage ∙ ap (λ (k : KernelView _). stage_in k.history c.self.inside.thread.0) c.kernel.ensures in
    suits_applied _ c.apply-answer.new.self (record { table = c.self.inside.seat.table_id; me = c.self.inside.seat.me; thread = c.self.inside.thread; stage = c.self.inside.stage; wait = c.self.inside.wait; staxes = c.self.inside.staxes; places = c.self.inside.places }) c.args.call c.apply-answer.result _ _ (subst (λ (a : SeatedActor _). Suits (acting a) c.args.kernel.now.history) is c.requires.suits) c.apply-answer.ensures now (c.wait_after-self-inside.ensures ∙ ap (λ s. wait_after c.self.inside.wait s c.apply-answer.result) c.wait_step-step.ensures)

pub returns-clause-held : goal.returns-clause-held
returns-clause-held g c =
    let is = sym c.self.view_is in
    let now = c.stage-self-inside.ensures.stage ∙ ap (λ (k : KernelView _). stage_in k.history c.self.inside.thread.0) c.kernel.ensures in
    (actor_applied _ c.apply-answer.new.self _ c.args.call _ _ c.wait_after-self-inside.result c.self.invariant (subst (λ (a : SeatedActor _). Suits (acting a) c.args.kernel.now.history) is c.requires.suits) (λ holds. c.requires.stays (ap (λ (a : SeatedActor _). Rattle.evl_machine.specs.stax_locks.StaxSeats.holds_stax a.staxes) is ∙ holds)) c.apply-answer.ensures now
    (subst (λ (a : SeatedActor _). ClaimsOneOf (length a.places) c.args.call) is c.requires.there) (c.wait_after-self-inside.ensures ∙ ap (λ s. wait_after c.self.inside.wait s c.apply-answer.result) c.wait_step-step.ensures)).held
