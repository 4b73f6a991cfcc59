use Rattle.evl_c.proofs.pictures.draw_marks.Goals as goal

pub returns-in-Svg : goal.returns-in-Svg
returns-in-Svg c = rw c.in-Svg.is c.draw_svg.ensures

pub returns-in-Events : goal.returns-in-Events
returns-in-Events c = rw c.in-Events.is c.draw_events.ensures
