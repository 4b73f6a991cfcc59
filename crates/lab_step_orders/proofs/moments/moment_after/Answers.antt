use Rattle.std.proofs.Common.{◌≡◌, true, ℕ, List, [], None, ap, sym, subst, ◌∙◌, length, map, Global, String}
use Rattle.std.specs.Prelude.{Option, slice_index, slice_index_or, slice_set, string_bytes}
use Rattle.lab_step_orders.specs.Moments.{is_within, shared_of, trail_after}
use Rattle.lab_step_orders.specs.Seen.{answers_after, gates_after, made_after, mutexes_after, place_after, wait_after}
use Rattle.lab_step_orders.specs.Visits.{state_begun, trailed}
use Rattle.lab_step_orders.specs.declared.kernels.Visited.{Visited}
use Rattle.lab_step_orders.specs.declared.shared.SharedWord.{SharedWord}
use Rattle.lab_step_orders.specs.declared.steps.Place.{Place}
use Rattle.lab_step_orders.specs.declared.steps.Waiting.{Waiting}
use Rattle.lab_step_orders.specs.declared.steps.Taken.{Taken}
use Rattle.lab_step_orders.proofs.TrailLaws.{as_long, as_long_mapped, core_within, trail_state}
use Rattle.lab_step_orders.proofs.moments.moment_after.Goals as goal

pub returns-clause-seen : goal.returns-clause-seen
returns-clause-seen c =
    let crew = c.args.crew.now in
    let before = c.args.before.now in
    let k = c.args.caller in
    let turn = c.args.turn in
    let gates = c.in_ok-gates.ensures ∙ ap (λ (l : List SharedWord). gates_after crew k turn.step (map shared_of l)) c.as_slice.ensures.value in
    let mutexes = c.in_ok-mutexes.ensures ∙ ap (λ (l : List SharedWord). mutexes_after k turn.step (map shared_of l)) c.as_slice-2.ensures.value in
    let places = c.in_ok-places.ensures ∙ (λ i. slice_set (c.as_slice-3.ensures.value i) (c.from-place.ensures i) (place_after turn.then)) in
    let made = c.in_ok-made.ensures ∙ (λ i. slice_set (c.as_slice-4.ensures.value i) (c.from-place.ensures i) (made_after turn.then (slice_index (c.as_slice-4.ensures.value i) (c.from-place.ensures i)))) in
    let answers = c.in_ok-answers.ensures
    ∙ (λ i. slice_set (map string_bytes (c.as_slice-5.ensures.value i)) (c.from-place.ensures i)
    (answers_after turn.then (slice_index_or (map string_bytes (c.as_slice-5.ensures.value i)) (c.from-place.ensures i) []))) in
    let waits = c.in_ok-waits.ensures ∙ (λ i. slice_set (c.as_slice-6.ensures.value i) (c.from-place.ensures i) (wait_after turn.wait (slice_index_or (c.as_slice-6.ensures.value i) (c.from-place.ensures i) None))) in
    let state = ap (λ (trail : List Visited). trailed crew (state_begun crew) trail)
    (c.in_ok-trail.ensures ∙ ap (λ (trail : List Visited). trail_after trail k turn.visit) c.as_slice-7.ensures.value)
    ∙ trail_state crew (state_begun crew) before.trail.items k turn.visit in
    let core = c.core_after-core.ensures in
    λ i. record { gates = gates i; mutexes = mutexes i; places = places i; made = made i; answers = answers i; waits = waits i; core = core i; state = state i }

pub returns-clause-fits : goal.returns-clause-fits
returns-clause-fits c =
    let crew = c.args.crew.now in
    let fits = c.requires.fits in
    record {
      places = as_long _ _ _ _ _ c.in_ok-places.ensures (ap (λ (l : List Place). length l) c.as_slice-3.ensures.value ∙ fits.places);
      made = as_long _ _ _ _ _ c.in_ok-made.ensures (ap (λ (l : List ℕ). length l) c.as_slice-4.ensures.value ∙ fits.made);
      answers = as_long_mapped string_bytes _ _ _ _ _ c.in_ok-answers.ensures (ap (λ (l : List (String Global)). length l) c.as_slice-5.ensures.value ∙ fits.answers);
      core = subst (λ (o : Option Taken). is_within (length crew.callers.items) o ≡ true) (sym c.core_after-core.ensures) (core_within _ _ c.args.turn.core c.args.before.now.core c.requires.caller fits.core);
      waits = as_long _ _ _ _ _ c.in_ok-waits.ensures (ap (λ (l : List (Option Waiting)). length l) c.as_slice-6.ensures.value ∙ fits.waits);
    }
