use Rattle.evl_history.proofs.history.History.push_brief.Goals as goal

pub push_short-requires-clause-within : goal.push_short-requires-clause-within
push_short-requires-clause-within g c = λ wide bytes. (c.in-Some.ensures.row wide bytes).0
