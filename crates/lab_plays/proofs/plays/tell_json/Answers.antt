use Rattle.std.proofs.Common.{ℕ, List, refl, subst}
use Rattle.lab_plays.specs.Plays.{IsJsonOf, TellsTrace, ends_well}
use Rattle.lab_streams.specs.declared.words.Telling.TheVariants.{Json}
use Rattle.lab_plays.proofs.PlayLemmas.{told}
use Rattle.lab_plays.proofs.plays.tell_json.Goals as goal

pub returns-clause-told : goal.returns-clause-told
returns-clause-told g c =
    let name = c.args.name.now in
    let it = c.in_ok-put_json.ensures.text in
    told (TellsTrace Json name c.args.trace.now) (ends_well name it.0) _ _ _ _ (it.0, subst (λ (t : List ℕ). IsJsonOf name t it.0) c.text_in.ensures it.1, refl) it.2 c.in_ok-tell_done.ensures.line
