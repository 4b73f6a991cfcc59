use Rattle.std.proofs.Common.{◌≡◌, length, vec_len, sym, ◌∙◌, arith}
use Rattle.std.proofs.lemmas.List.{take-map}
use Rattle.evl_sched.proofs.order.Order.ready_threads.Goals as goal

pub returns-in-Err-clause-unchanged : goal.returns-in-Err-clause-unchanged
returns-in-Err-clause-unchanged g c =
    let whole : vec_len c.args.out.now ≡ length c.args.out.now.items = omega (arith, c.args.out.now.ok.0) in
    rw (c.truncate.ensures.items, c.len-before.ensures, whole) (sym (take-map _ _ _) ∙ c.in-Err.ensures.begun)
