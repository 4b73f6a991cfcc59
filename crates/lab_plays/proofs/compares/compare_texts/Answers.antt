use Rattle.std.proofs.Common.{◌≡◌, ◌∙◌, List, ap, map}
use Rattle.lab_reports.specs.Differences.{Apart, told_apart}
use Rattle.lab_plays.specs.Plays.{Told, compared_told, differences_told}
use Rattle.lab_plays.proofs.PlayLemmas.{told_as}
use Rattle.lab_plays.proofs.compares.compare_texts.Goals as goal

pub returns-clause-told : goal.returns-clause-told
returns-clause-told g c =
    let name = c.args.name.now in
    told_as _ (λ (t : Told). t ≡ compared_told name c.args.stored.now c.args.trace.now) _ _ _ _ _ c.tell_compared.result
    (λ told h. h ∙ ap (λ (ds : List Apart). differences_told name ds) (rw (c.as_slice.ensures.value) c.in_ok-differences.ensures)) c.tell_compared.ensures.told
