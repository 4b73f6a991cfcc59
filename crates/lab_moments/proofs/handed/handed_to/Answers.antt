use Rattle.std.proofs.Common.{◌∙◌, ap, ℕ, Bool, Option, Some, None, if◌then◌else◌}
use Rattle.std.specs.Option.{option_or}
use Rattle.lab_moments.specs.Standings.{handed_below}
use Rattle.lab_moments.proofs.HandedLaws.{handed_more, handed_none}
use Rattle.lab_moments.proofs.handed.handed_to.Goals as goal

pub loop-thread-init : goal.loop-thread-init
loop-thread-init g c = handed_none c.args.kernel.now.history.state c.args.mutex

pub loop-thread-preserved : goal.loop-thread-preserved
loop-thread-preserved g c =
    let s = c.args.kernel.now.history.state in let mutex = c.args.mutex in let thread = c.loop-thread.thread in
    c.found-first.ensures ∙ ap (λ (o : Option ℕ). option_or o (if c.is_handed.result then Some thread else None)) c.loop-thread.invariant
    ∙ ap (λ (is_one : Bool). option_or (handed_below s mutex thread) (if is_one then Some thread else None)) c.is_handed.ensures.handed ∙ handed_more s mutex thread
