use Rattle.lab_drawing.proofs.LaneLaws.{put_inserts, put_stays}
use Rattle.lab_drawing.proofs.lanes.add_lane.Goals as goal

pub returns-then-stands_at : goal.returns-then-stands_at
returns-then-stands_at c = put_stays c.args.lane _ _ _ _ _ c.as_slice.ensures.value c.as_slice-2.ensures.value c.index_for-at.ensures.index c.stands_at.ensures c.if-stands_at.true

pub returns : goal.returns
returns c = put_inserts c.args.lane _ _ _ _ _ _ c.as_slice.ensures.value c.as_slice-2.ensures.value c.index_for-at.ensures.index c.stands_at.ensures c.if-stands_at.false c.in_ok-insert.ensures.items
