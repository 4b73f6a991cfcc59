use Rattle.std.proofs.Common.{◌≡◌, ◌++◌, ◌==◌, ℕ, List, [], ◌∷◌, arith, codes, false, length, map, refl, true}
use Rattle.std.specs.List.{concat}
use Rattle.std.proofs.KnownBytes.{Appends-nil}
use Rattle.lab_reports.specs.Differences.{told_apart}
use Rattle.lab_reports.specs.declared.differences.Difference.{Difference}
use Rattle.lab_plays.specs.Plays.{Told, apart_text, differences_told, ends_apart, ends_well}
use Rattle.lab_plays.proofs.PlayLemmas.{told}
use Rattle.lab_plays.proofs.CompareLemmas.{told_none, told_some}
use Rattle.lab_plays.proofs.compares.tell_compared.Goals as goal

pub returns-then-is_empty-clause-told : goal.returns-then-is_empty-clause-told
returns-then-is_empty-clause-told g c =
    let name = c.args.name.now in
    told (λ (t : Told). t ≡ differences_told name (map told_apart c.args.differences.now)) (ends_well name []) _ _ _ _ (told_none name c.args.differences.now c.if-is_empty.ensures) (Appends-nil _)
    c.in_ok-tell_done.ensures.line

pub returns-clause-told : goal.returns-clause-told
returns-clause-told g c =
    let name = c.args.name.now in
    told (λ (t : Told). t ≡ differences_told name (map told_apart c.args.differences.now)) (ends_apart name (concat (map (apart_text name) (map told_apart c.args.differences.now))) (codes "differs")) _ _ _ _
    (told_some name c.args.differences.now c.if-is_empty.ensures) c.in_ok-tell_differences.ensures.text c.in_ok-tell_refused.ensures.line
