use Rattle.std.proofs.Common.{◌∙◌, ◌++◌, codes, decimal, refl}
use Rattle.evl_scenario.specs.Lines.{line_feed}
use Rattle.evl_shell.proofs.SinkLemmas.{TakesPrefix-more, TakesPrefix-next, Takes-part, Takes-next}
use Rattle.evl_shell.proofs.plays.put_step_line.Goals as goal

pub returns-in-Err-clause-takes : goal.returns-in-Err-clause-takes
returns-in-Err-clause-takes g c =
    Takes-part _ _ _ _ c.in-Err.ensures.failed
    (TakesPrefix-more _ _ (codes "evl: bad step ") (codes "evl: bad step ") (decimal c.args.number ++ line_feed) refl c.in-Err.ensures.part)

pub returns-in-Err-put_all-clause-takes : goal.returns-in-Err-put_all-clause-takes
returns-in-Err-put_all-clause-takes g c =
    Takes-part _ _ _ _ c.in-Err-put_all.ensures.failed
    (TakesPrefix-next _ _ _ (codes "evl: bad step ") (codes "evl: bad step ") (decimal c.args.number ++ line_feed) refl c.in-Ok.ensures.ok
    (TakesPrefix-more _ _ c.as_bytes.result.now (decimal c.args.number) line_feed (c.as_bytes.ensures.value ∙ c.format.ensures.text) c.in-Err-put_all.ensures.part))

pub returns-clause-takes : goal.returns-clause-takes
returns-clause-takes g c =
    Takes-next _ _ _ (codes "evl: bad step ") (codes "evl: bad step ") (decimal c.args.number ++ line_feed) _ refl c.in-Ok.ensures.ok
    (Takes-next _ _ _ c.as_bytes.result.now (decimal c.args.number) line_feed _ (c.as_bytes.ensures.value ∙ c.format.ensures.text) c.in-Ok-put_all.ensures.ok c.put_line.ensures.takes)
