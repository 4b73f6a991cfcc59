use Rattle.std.proofs.Common.{ℕ, List, sym, subst}
use Rattle.lab_plays.specs.Folders.{trace_path}
use Rattle.lab_plays.specs.Plays.{Compares, TellsTrace}
use Rattle.lab_streams.specs.declared.words.Telling.{Telling}
use Rattle.lab_plays.proofs.PlayLemmas.{told_as}
use Rattle.lab_plays.proofs.plays.tell_trace.Goals as goal

pub returns-in-Against-clause-told : goal.returns-in-Against-clause-told
returns-in-Against-clause-told g c =
    let name = c.args.name.now in
    let trace = c.args.trace.now in
    told_as _ _ _ _ _ _ _ c.compare.result
    (λ told h. subst (λ (telling : Telling). TellsTrace telling name trace told) (sym c.in-Against.is)
    (h.0, subst (λ (t : List ℕ). Compares name (trace_path c.in-Against.folder.now name) h.0 t told) c.text_in.ensures h.1)) c.compare.ensures.told
