use Rattle.std.proofs.Common.{◌∙◌, List, ap}
use Rattle.std.specs.Prelude.{slice_set}
use Rattle.lab_step_orders.specs.Moments.{shared_of}
use Rattle.lab_step_orders.specs.Words.{Shared}
use Rattle.lab_step_orders.proofs.TextLaws.{mapped_set}
use Rattle.lab_step_orders.proofs.shared.words_with.Goals as goal

pub returns : goal.returns
returns c =
    mapped_set shared_of c.in_ok-all.all.items c.args.place c.args.next
    ∙ ap (λ (words : List Shared). slice_set words c.args.place (shared_of c.args.next)) c.in_ok-all.ensures
