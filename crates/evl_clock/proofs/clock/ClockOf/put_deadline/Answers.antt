use Rattle.std.proofs.Common.{◌+◌, ◌<◌, length, vec_capacity, ◌∙◌, arith}
use Rattle.evl_clock.proofs.KeptLaws.{kept-ordered, kept-until, others-deadline, others-few, others-ordered, stands-deadline}
use Rattle.evl_clock.proofs.clock.ClockOf.put_deadline.Goals as goal

pub overflow_add-place : goal.overflow_add-place
overflow_add-place g c = omega (arith, c.if-n-len.true, c.len.ensures, c.self.invariant.sound.deadlines)

pub leave-requires : goal.leave-requires
leave-requires g c =
    let xs = c.self.inside.agenda.items in let room = vec_capacity c.self.inside.agenda in
    let inside : c.args.thread.0 < length c.self.inside.deadlines.items = omega (arith, c.if-n-len.true, c.len.ensures) in
    record { ordered = kept-ordered _ xs room c.self.invariant; stands = stands-deadline _ xs room c.args.thread.0 c.index.result.now c.self.invariant inside c.index.ensures }

pub enter-requires : goal.enter-requires
enter-requires g c =
    let xs = c.self.inside.agenda.items in let room = vec_capacity c.self.inside.agenda in let ys = c.leave.new.agenda.items in let n = c.args.thread.0 in
    let inside : c.args.thread.0 < length c.self.inside.deadlines.items = omega (arith, c.if-n-len.true, c.len.ensures) in
    let others = others-deadline _ xs room n c.index.result.now ys c.self.invariant inside c.index.ensures c.leave.ensures.left in
    record {
      ordered = others-ordered _ xs room (64 + n) ys c.self.invariant others;
      room = omega (arith, others-few _ xs room (64 + n) ys c.self.invariant (omega (arith, inside)) others, c.leave.ensures.room);
    }

pub invariant_of-self : goal.invariant_of-self
invariant_of-self g c =
    let xs = c.self.inside.agenda.items in let room = vec_capacity c.self.inside.agenda in let ys = c.leave.new.agenda.items in let n = c.args.thread.0 in
    let inside : c.args.thread.0 < length c.self.inside.deadlines.items = omega (arith, c.if-n-len.true, c.len.ensures) in
    kept-until _ xs ys c.enter.new.agenda.items room (vec_capacity c.enter.new.agenda) n c.args.until c.self.invariant inside
    (others-deadline _ xs room n c.index.result.now ys c.self.invariant inside c.index.ensures c.leave.ensures.left) c.enter.ensures.entered (c.enter.ensures.room ∙ c.leave.ensures.room)
