use Rattle.std.proofs.Common.{◌-◌, [], length, refl, sym, ap, ◌∙◌, vec_len, vec_capacity, arith}
use Rattle.evl_kernel.specs.histories.Histories.{History, IsLegal}
use Rattle.evl_kernel.specs.state.Callbacks.{callbacks_in, handlers_in}
use Rattle.evl_kernel.specs.state.Insides.{kernel_view}
use Rattle.evl_kernel.specs.state.Records.{state_of}
use Rattle.evl_kernel.proofs.histories.ShapeLaws.{shape_stays}
use Rattle.evl_kernel.proofs.state.CallbackLaws.{answers-kept}
use Rattle.evl_kernel.proofs.state.OnePlaceLaws.{are_in_one_place}
use Rattle.evl_kernel.proofs.state.OpeningLaws.{opening-handlers, handlers-filled}
use Rattle.evl_kernel.proofs.state.ResetLaws.{room_more}
use Rattle.evl_kernel.proofs.kernel.KernelOf.reset.Goals as goal

pub reset-requires : goal.reset-requires
reset-requires g c =
    let h = (kernel_view c.self.inside).history in
    record {
      shape = shape_stays h c.self.invariant.legal;
      by_plan = rw (← c.self.view_is) at c.requires.by_plan;
      places = are_in_one_place c.self.inside.records h c.self.invariant.legal refl refl;
    }

pub invariant_of-self : goal.invariant_of-self
invariant_of-self g c =
    let made = c.reset.ensures.opened in let r = c.reset.new.self in
    let handlers_are = opening-handlers g.C.Handler.declared g.C.Handler.plan c.self.inside.board (callbacks_in r.bank) r made in
    record {
      legal = rw (c.clear.ensures.empty, c.clear-2.ensures.items) (refl, made.state ∙ sym handlers_are);
      within = omega (arith, ap length c.clear.ensures.empty);
      limit = c.self.invariant.limit;
      fence = λ below. (omega (arith, below), omega (arith, below), omega (arith, below));
    }

pub returns : goal.returns
returns g c =
    let made = c.reset.ensures.opened in let r = c.reset.new.self in
    let handlers_are = opening-handlers g.C.Handler.declared g.C.Handler.plan c.self.inside.board (callbacks_in r.bank) r made in
    let h : History = record { board = c.self.inside.board; bank = handlers_in r.bank; entries = []; plays = []; state = state_of r } in
    let legal : IsLegal h = (refl, made.state ∙ sym handlers_are) in
    rw (← c.self.view_is) (record {
      opened = record {
        board_is = refl;
        bank_is = handlers-filled g.C.Handler.declared g.C.Handler.plan (callbacks_in r.bank) r.bank made.filled;
        state = made.state ∙ sym handlers_are;
        entries = c.clear.ensures.empty;
        plays = c.clear-2.ensures.items;
        limit_is = refl;
        filled = made.filled;
        nothing_out = made.nothing_out;
        no_timers = made.no_timers;
      };
      brings = c.reset.ensures.stands.brings;
      handlers = c.reset.ensures.stands.handlers_are;
      bank = c.reset.ensures.stands.handlers_are;
      by_plan = answers-kept g.C.Handler.declared g.C.Handler.plan c.self.inside.records r c.reset.ensures.stands (rw (← c.self.view_is) at c.requires.by_plan);
      places = are_in_one_place r h legal refl refl;
      room = room_more c.self.inside.history.room c.clear.new.self.room
          (vec_capacity c.self.inside.plays - vec_len c.self.inside.plays) (vec_capacity c.clear-2.new.self - vec_len c.clear-2.new.self) c.self.inside.spares
          c.clear.ensures.room (omega (arith, c.clear-2.ensures.capacity, c.clear-2.ensures.len));
      legal = rw (c.clear.ensures.empty, c.clear-2.ensures.items) legal;
    })
