use Rattle.std.proofs.Common.{◌≡◌, ◌∷◌, ◌++◌, ◌∙◌, [], ap}
use Rattle.evl_base.specs.declared.entry.Entry.{Entry}
use Rattle.evl_history.proofs.HistoryLaws.{made_by}
use Rattle.evl_history.proofs.history.History.push.Goals as goal

pub push_short-requires : goal.push_short-requires
push_short-requires g c = record { room = c.requires.room; within = λ wide bytes. (c.in-Some-number_row.ensures.row wide bytes).0 }

pub returns-in-Some-number_row : goal.returns-in-Some-number_row
returns-in-Some-number_row g c = record {
  entry =
      c.push_short.ensures.entry _ c.in-Some-number_row.ensures.row
      ∙ ap (λ (e : Entry). c.args.self.now.entries ++ e ∷ []) (made_by c.in-Some.head _ _ c.args.call _ _ c.in-Some.ensures.caller c.in-Some.ensures.plays c.in-Ok.is);
  room = c.push_short.ensures.room;
}
