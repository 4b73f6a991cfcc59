use Rattle.std.proofs.Common.{List, ℕ, map, subst}
use Rattle.std.proofs.lemmas.Result.{IfOk-weaker}
use Rattle.evl_plans.specs.Told.{handler_of}
use Rattle.lab_caller_pictures.specs.Joins.{AreJoined}
use Rattle.lab_caller_pictures.proofs.drawn.threads_moments.Goals as goal

pub returns : goal.returns
returns c =
    let bank = map handler_of c.args.bank.now in
    let marks = c.args.marks.now in
    IfOk-weaker c.joined_moments.result _ _
    (λ moments h. subst (λ (t : List ℕ). AreJoined bank t c.args.known.now.counts.items marks moments.items) c.as_str.ensures.value
    (subst (λ (n : List ℕ). AreJoined bank c.as_str.result.now n marks moments.items) c.as_slice.ensures.value h)) c.joined_moments.ensures
