-- The next play is of a due item or a line.
use Rattle.std.proofs.Common.{◌≡◌, ℕ, Bool, true, false, Option, Some, None, if◌then◌else◌, refl, ap, ◌∙◌, subst}
use Rattle.std.proofs.lemmas.Option.{none-some, same_Some}
use Rattle.evl_base.proofs.Plain.{some-none}
use Rattle.evl_base.specs.declared.numbers.TimerId.{TimerId}
use Rattle.evl_base.specs.declared.stage.Stage.{Stage}
use Rattle.evl_base.specs.declared.stage.Stage.TheVariants.{Oob}
use Rattle.evl_base.specs.declared.play.Play.{Play}
use Rattle.evl_clock.specs.declared.due.Item.{Item}
use Rattle.evl_clock.specs.declared.due.Item.TheVariants as item
use Rattle.evl_clock.specs.declared.timer.Timer.{Timer}
use Rattle.evl_clock.specs.Clocks.{Clock, timer_at}
use Rattle.evl_clock.specs.Dues.{next_due}
use Rattle.evl_clock.proofs.DueLaws.{not-empty}
use Rattle.evl_kernel.specs.settling.Settling.{Settling, item_played, item_touches, item_next, item_before, item_moves, line_next, move_of, moving, next_move, next_of, next_play, going_on, play_touches, pending_played}

-- what is looked for in the clock is what is due
pub item_due : (at : Settling) (found : Item) → item_next at ≡ Some found → next_due at.state.clock ≡ Some found
item_due at found = by at.in_clock
  where
    by : (b : Bool) → (if b then next_due at.state.clock else None) ≡ Some found → next_due at.state.clock ≡ Some found
    by true e = e
    by false e = absurd (none-some _ e)

-- a timer that is due is there
pub timer_found : {C : Type 0} (c : Clock C) (id : TimerId) → next_due c ≡ Some (item.Timer id) → (t : Timer C) × (timer_at c id.0 ≡ Some t)
timer_found {C} c id due = by (timer_at c id.0) refl
  where
    by : (o : Option (Timer C)) → timer_at c id.0 ≡ o → (t : Timer C) × (timer_at c id.0 ≡ Some t)
    by None none = absurd (not-empty c id.0 due none)
    by (Some t) is = (t, is)

-- a play is that of a due item, or of a line
pub one_played : (P : Play × Settling → Type 0) (at mid : Settling) (one : Play)
    → ((found : Item) → item_next at ≡ Some found → P (going_on at Oob (item_played at.state found)))
    → ((stage : Stage) (line : ℕ) → item_next at ≡ None → line_next at ≡ Some (stage, line) → P (going_on at stage (pending_played at.state stage line)))
    → next_play at ≡ Some (one, mid) → P (one, mid)
unfolding next_play
one_played P at mid one items each next = by (item_next at) refl next
  where
    by_line : item_next at ≡ None → (o : Option (Stage × ℕ)) → line_next at ≡ o → next_of at o ≡ Some (one, mid) → P (one, mid)
    by_line none None is e = absurd (none-some _ e)
    by_line none (Some (stage, line)) is e = subst P (same_Some _ _ e) (each stage line none is)

    by : (o : Option Item) → item_next at ≡ o → item_before at o ≡ Some (one, mid) → P (one, mid)
    by None is e = by_line is (line_next at) refl e
    by (Some found) is e = subst P (same_Some _ _ e) (items found is)

-- where nothing is played, nothing is due in the clock's play, and no line is playable
pub none_played : (at : Settling) → next_play at ≡ None → (item_next at ≡ None) × (line_next at ≡ None)
unfolding next_play
none_played at none = by (item_next at) refl none
  where
    by_line : item_next at ≡ None → (o : Option (Stage × ℕ)) → line_next at ≡ o → next_of at o ≡ None → (item_next at ≡ None) × (line_next at ≡ None)
    by_line no_item None is e = (no_item, is)
    by_line no_item (Some x) is e = absurd (some-none _ e)

    by : (o : Option Item) → item_next at ≡ o → item_before at o ≡ None → (item_next at ≡ None) × (line_next at ≡ None)
    by None is e = by_line is (line_next at) refl e
    by (Some found) is e = absurd (some-none _ e)

-- the same with the steps of elements
pub moves_item : (at : Settling) (found : Item) → item_next at ≡ Some found → next_move at ≡ Some (moving (item_touches at.state found) (going_on at Oob (item_played at.state found)))
unfolding next_move
moves_item at found is = ap (item_moves at) is

pub moves_line : (at : Settling) (stage : Stage) (line : ℕ) → item_next at ≡ None → line_next at ≡ Some (stage, line)
    → next_move at ≡ Some (moving (play_touches at.state stage line) (going_on at stage (pending_played at.state stage line)))
unfolding next_move
moves_line at stage line none is = ap (item_moves at) none ∙ ap (move_of at) is

pub moves_none : (at : Settling) → item_next at ≡ None → line_next at ≡ None → next_move at ≡ None
unfolding next_move
moves_none at none is = ap (item_moves at) none ∙ ap (move_of at) is
