use Rattle.std.proofs.Common.{refl}
use Rattle.lab_plays.specs.Plays.{TellsTrace, ends_well}
use Rattle.lab_streams.specs.declared.words.Telling.TheVariants.{Trace}
use Rattle.lab_plays.proofs.PlayLemmas.{told}
use Rattle.lab_plays.proofs.plays.tell_whole.Goals as goal

pub returns-clause-told : goal.returns-clause-told
returns-clause-told g c =
    told (TellsTrace Trace c.args.name.now c.args.trace.now) (ends_well c.args.name.now c.args.trace.now) _ _ _ _ refl c.in_ok-write_all.ensures.bytes c.in_ok-tell_done.ensures.line
