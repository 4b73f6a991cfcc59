-- Worked rows, computed from the definitions.
use Rattle.std.proofs.Common.{◌≡◌, codes, Some, None, refl}
use Rattle.evl_base.specs.declared.stage.Stage.TheVariants.{Oob}
use Rattle.lab_drawing.specs.Named.{entry_names, entry_shape, lane_named}
use Rattle.lab_drawing.specs.Standings.{before_done, moved_by}
use Rattle.lab_drawing.specs.Texts.{around_part, number_in, past_front}
use Rattle.lab_drawing.specs.declared.lanes.Lane.TheVariants.{Flags, Mutex, Stage}
use Rattle.lab_drawing.specs.declared.marks.Shape.TheVariants.{Answered, Ended, Refused}

-- ---- what a call names

flags_named : lane_named (codes "post_flags flags=3 bits=7") ≡ Some (Flags 3)
unfolding around_part past_front number_in
flags_named = refl

stage_named : lane_named (codes "request line=5 stage=oob callback=0 tag=7") ≡ Some (Stage Oob)
unfolding around_part past_front number_in
stage_named = refl

nothing_named : lane_named (codes "tick delta=5") ≡ None
unfolding around_part past_front number_in
nothing_named = refl

-- a pass names the mutex that is shown
shown_named : entry_names (codes "finish_lock_mutex as=m1") (codes "m1 | mutex 12: T1, claimed") ≡ Some (Mutex 12)
unfolding around_part past_front number_in
shown_named = refl

-- ---- how it looks

pass_answered : entry_shape (codes "try_lock_stax stax=0 as=Pass") (codes "Pass | stax 0: in-band, 1 holder") ≡ Answered
unfolding around_part past_front
pass_answered = refl

limit_refused : entry_shape (codes "try_lock_stax stax=0 as=p1") (codes "Limit | stax 0: in-band, 1 holder") ≡ Refused
unfolding around_part past_front
limit_refused = refl

wait_ended : entry_shape (codes "finish keep=true") (codes "done") ≡ Ended
unfolding around_part past_front
wait_ended = refl

-- ---- by how much a line moves the date

tick_moves : moved_by (codes "3 T0 tick delta=50 -> done") ≡ Some 50
unfolding around_part past_front number_in before_done
tick_moves = refl

refused_tick : moved_by (codes "3 T0 tick delta=50 -> Limit") ≡ None
unfolding around_part past_front number_in before_done
refused_tick = refl
