use Rattle.std.proofs.Common.{◌∙◌}
use mathlib.Core.Option.{none}
use Rattle.atomic_table.specs.Table.{step}
use Rattle.evl_words.proofs.LookLaws.{looks_so}
use Rattle.evl_words.proofs.looks.look_together.Goals as goal

pub load-requires : goal.load-requires
load-requires g c = (
  c.join_seat.ensures.0 ∙ (c.split_seat-nobody.ensures.0 ∙ c.requires.table.0),
  c.requires.table.2,
  looks_so _ g.T.Together.together c.requires.tells _ _ _ (step c.args.table.now.shared.table_id.slots 0 0 0 none),
)
