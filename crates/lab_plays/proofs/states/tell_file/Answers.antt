use Rattle.std.proofs.Common.{Ok, Err, map}
use Rattle.evl_plans.specs.Told.{handler_of}
use Rattle.lab_streams.specs.Readings.{unread_words}
use Rattle.lab_streams.proofs.OutputLemmas.{unread_is}
use Rattle.lab_plays.proofs.PlayLemmas.{each_file, each_one, ill_told, told_as}
use Rattle.lab_plays.specs.States.{IsTold, TellsFile, TellsGiven}
use Rattle.lab_plays.proofs.states.tell_file.Goals as goal

pub returns-in-Ok-clause-told : goal.returns-in-Ok-clause-told
returns-in-Ok-clause-told g c =
    let bank = map handler_of c.args.plans.now in
    let name = c.args.name.now in
    let text = c.in-Ok.text.items in
    each_file _ _ name (Ok text) _ _ _ _ _ c.tell_given.result c.in-Ok.ensures.input
    (told_as _ (TellsFile bank c.args.limit name (Ok text)) (TellsGiven bank c.args.limit name text) _ _ _ _ c.tell_given.result
    (λ told h. (c.in-Ok.ensures.bound, h)) c.tell_given.ensures.told)

pub returns-in_ok-tell_unread-in-Err-clause-told : goal.returns-in_ok-tell_unread-in-Err-clause-told
returns-in_ok-tell_unread-in-Err-clause-told g c =
    let bank = map handler_of c.args.plans.now in
    let name = c.args.name.now in
    let why = c.in-Err.why in
    each_one (IsTold bank c.args.limit) name (Err why) _ _ _ _ _ 2 (λ reads. unread_is _ why (λ is. c.in-Err.ensures.long is reads))
    (ill_told (TellsFile bank c.args.limit name (Err why)) name (unread_words why) _ _ _ (λ told h. h) c.in_ok-tell_unread-in-Err.ensures.line)
