use Rattle.std.proofs.Common.{◌≡◌, ◌∙◌, ◌<◌, ◌≤◌, ◌⊎◌, [], ℕ, ap, arith, cond, inl, inr, length, subst, sym}
use Rattle.lab_orders.specs.Firsts.{AreFirsts}
use Rattle.lab_orders.specs.Machines.{orders, runs}
use Rattle.lab_orders.specs.Weights.{count_limit, total, weight}
use Rattle.lab_orders.proofs.Totals.{none_left, total_of_ones}
use Rattle.lab_scenario_orders.specs.Asks.{is_against}
use Rattle.lab_scenario_orders.specs.AskingAlone.{asked_machine, one_against}
use Rattle.lab_scenario_orders.specs.Callers.{Seen, first_seen, machine}
use Rattle.lab_scenario_orders.specs.Moments.{seen_at}
use Rattle.lab_scenario_orders.specs.Told.{told_text}
use Rattle.lab_scenario_orders.specs.Watches.{is_noted_at}
use Rattle.lab_scenario_orders.proofs.AloneLaws.{orders_counted, runs_counted, runs_uncounted}
use Rattle.lab_scenario_orders.proofs.OutcomeLaws.{too_many_orders, weight_of_ones}
use Rattle.lab_scenario_orders.proofs.alone.ask_told.Goals as goal

pub returns-in-Ok-verdict_of-clause-verdict : goal.returns-in-Ok-verdict_of-clause-verdict
returns-in-Ok-verdict_of-clause-verdict g c =
    let callers = c.args.callers.now in
    let bank = g.B.BankMaker.bank c.args.bank.now in
    let ask = c.args.ask.now in
    let told = c.args.told.now in
    let m = machine callers in
    let n = asked_machine callers told in
    let first = first_seen callers bank in
    let found = c.in-Ok-explore.found in
    let verdict = c.in-Ok-verdict_of.verdict in
    let is = c.in-Ok-verdict_of.ensures in
    let start = c.in-Ok.ensures.start in
    let state = seen_at callers bank in
    let told_of : Seen → ℕ = λ seen. cond (is_against ask (told_text callers seen)) 1 0 in
    let counted : (f : Seen → ℕ) → weight state f found.ends.items ≡ total f (orders n first found.steps)
    = λ f. subst (λ (s : Seen). weight state f found.ends.items ≡ total f (orders n s found.steps)) start (c.in-Ok-explore.ensures.counted f) in
    record {
      count = subst (λ (k : ℕ). verdict.orders ≡ length (orders m first k)) (sym is.steps)
          (is.orders ∙ (sym (weight_of_ones state found.ends.items) ∙ (counted (λ seen. 1) ∙ (orders_counted callers bank told (λ seen. 1) found.steps ∙ total_of_ones (orders m first found.steps)))));
      against = subst (λ (k : ℕ). verdict.against ≡ total (one_against callers ask told) (orders m first k)) (sym is.steps)
          (is.against ∙ (counted told_of ∙ orders_counted callers bank told told_of found.steps));
      firsts = rw (is.firsts, is.steps, ← start, ← c.as_slice-watches.ensures.value) c.in-Ok-explore.ensures.firsts;
      watched = ap (λ (all : _). length all.items) is.firsts ∙ (c.in-Ok-explore.ensures.each ∙ ap length c.as_slice-watches.ensures.value);
      gone = rw (is.steps, is.moments, ← start) c.in-Ok-explore.ensures.gone;
      more = λ part. omega (
        arith,
        ap (λ (k : ℕ). length (runs m first k)) is.steps,
        total_of_ones (runs m first found.steps),
        runs_counted callers bank told (λ seen. 1) found.steps,
        total_of_ones (runs n first found.steps),
        subst (λ (s : Seen). 0 < length (runs n s found.steps)) start (c.in-Ok-explore.ensures.more (sym is.whole ∙ part)),
      );
      whole = λ whole. subst (λ (k : ℕ). runs m first k ≡ []) (sym is.steps)
          (none_left (runs m first found.steps)
          (sym (runs_counted callers bank told (λ seen. 1) found.steps)
          ∙ ap (total (λ seen. 1)) (subst (λ (s : Seen). runs n s found.steps ≡ []) start (c.in-Ok-explore.ensures.whole (sym is.whole ∙ whole)))));
      cut = λ part.
          elim (c.in-Ok-explore.ensures.cut (sym is.whole ∙ part)) as (λ v. (length callers.steps.items < verdict.steps) ⊎ (c.args.most < length (runs m first verdict.steps))) [
            | inl e ↦ inl (omega (arith, e, is.steps, c.beyond-steps.ensures))
            | inr more ↦ inr (omega (
              arith,
              ap (λ (k : ℕ). length (runs m first k)) is.steps,
              total_of_ones (runs m first found.steps),
              runs_counted callers bank told (λ seen. 1) found.steps,
              total_of_ones (runs n first found.steps),
              subst (λ (s : Seen). c.args.most < length (runs n s found.steps)) start more,
            ))
          ];
    }

pub returns-in-Err-explore-clause-uncounted : goal.returns-in-Err-explore-clause-uncounted
returns-in-Err-explore-clause-uncounted g c =
    let callers = c.args.callers.now in
    let bank = g.B.BankMaker.bank c.args.bank.now in
    let n = asked_machine callers c.args.told.now in
    runs_uncounted callers bank c.args.told.now c.in-Err-explore.error
    (λ e. let many = c.in-Err-explore.ensures.uncounted e in (many.0, subst (λ (s : Seen). count_limit ≤ length (runs n s many.0)) c.in-Ok.ensures.start many.2))

pub returns-in-Err-verdict_of-clause-uncounted : goal.returns-in-Err-verdict_of-clause-uncounted
returns-in-Err-verdict_of-clause-uncounted g c =
    let callers = c.args.callers.now in
    let bank = g.B.BankMaker.bank c.args.bank.now in
    let told = c.args.told.now in
    let found = c.in-Ok-explore.found in
    let state = seen_at callers bank in
    let first = first_seen callers bank in
    let counted : weight state (λ seen. 1) found.ends.items ≡ total (λ run. 1) (orders (asked_machine callers told) first found.steps)
    = subst (λ (s : Seen). weight state (λ seen. 1) found.ends.items ≡ total (λ run. 1) (orders (asked_machine callers told) s found.steps)) c.in-Ok.ensures.start (c.in-Ok-explore.ensures.counted (λ seen. 1)) in
    let all = sym (weight_of_ones state found.ends.items)
    ∙ (counted ∙ (orders_counted callers bank told (λ seen. 1) found.steps ∙ total_of_ones (orders (machine callers) first found.steps))) in
    too_many_orders callers bank found.steps c.in-Err-verdict_of.error (λ e. subst (λ (k : ℕ). count_limit ≤ k) all (c.in-Err-verdict_of.ensures.uncounted e))
