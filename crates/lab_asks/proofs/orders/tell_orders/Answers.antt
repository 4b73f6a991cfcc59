use Rattle.std.proofs.Common.{List, ap, codes, inl, map, option_map, refl, subst, sym}
use Rattle.std.specs.Prelude.{unwrap_or}
use Rattle.evl_kernel.specs.state.States.{Handler}
use Rattle.evl_plans.specs.Told.{handler_of}
use Rattle.evl_plans.specs.declared.planned.Planned.{Planned}
use Rattle.lab_streams.specs.Banks.{IsBank}
use Rattle.lab_asks.specs.Orders.{TellsRead}
use Rattle.lab_asks.proofs.OrderLemmas.{over_bank}
use Rattle.lab_asks.proofs.orders.tell_orders.Goals as goal

pub returns-in-Ok-Some-clause-told : goal.returns-in-Ok-Some-clause-told
returns-in-Ok-Some-clause-told g c =
    let name = unwrap_or (option_map (λ file. file.now) c.args.asked.now.file) (codes "-") in
    let plans = option_map (λ file. file.now) c.args.asked.now.bank in
    let is_bank = rw c.in-Ok-Some.field-0-is at c.in-Ok-Some.ensures.bank in
    let quiet = rw c.in-Ok-Some.field-0-is at c.in-Ok-Some.ensures.quiet in
    over_bank _ (λ (bank : List Handler). TellsRead bank c.args.asked.now.most c.args.asked.now.shown name) plans _ _ _ _ (g.E.Stream.contents c.args.err.now) (g.E.Stream.contents c.read_plans.new.err) _
    (map handler_of c.as_slice.result.now) c.tell_file.result (subst (λ (l : List Planned). IsBank plans (map handler_of l)) (sym c.as_slice.ensures.value) is_bank) (ap g.E.Stream.contents (quiet refl))
    c.tell_file.ensures.writes

pub returns-in-Ok-None-clause-told : goal.returns-in-Ok-None-clause-told
returns-in-Ok-None-clause-told g c =
    let refused = rw c.in-Ok-None.field-0-is at c.in-Ok-None.ensures.refused in
    inl (record { refused = refused refl; nothing = refl; status_is = refl })
