use Rattle.std.proofs.Common.{◌∙◌, IfOk, List, ℕ, subst}
use Rattle.lab_streams.specs.Readings.{Reading}
use Rattle.lab_plays.specs.Plays.{Compares, Tells}
use Rattle.lab_plays.proofs.compares.compare.Goals as goal

pub returns-clause-told : goal.returns-clause-told
returns-clause-told g c =
    let name = c.args.name.now in
    let trace = c.args.trace.now in
    subst (λ (path : List ℕ). IfOk c.compare_at.result (Tells (λ told. (stored : Reading) × Compares name path stored trace told)
    (g.O.Stream.contents c.args.out.now) (g.O.Stream.contents c.compare_at.new.out) (g.E.Stream.contents c.args.err.now) (g.E.Stream.contents c.compare_at.new.err)))
    (c.as_str.ensures.value ∙ c.in_ok-path.ensures) c.compare_at.ensures.told
