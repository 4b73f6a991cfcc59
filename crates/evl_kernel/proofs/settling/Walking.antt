-- A path that ends where nothing comes next is what `walked` computes, and so is a step of the kernel.
use Rattle.std.proofs.Common.{◌≡◌, ℕ, zero, suc, ◌≤◌, List, [], ◌∷◌, ◌++◌, length, Option, Some, None, Result, Ok, Err, refl, sym, ap, ◌∙◌, subst, arith}
use Rattle.evl_base.specs.declared.call.Call.{Call}
use Rattle.evl_base.specs.declared.reply.Reply.{Reply}
use Rattle.evl_base.specs.declared.play.Play.{Play}
use Rattle.evl_base.specs.declared.refusal.Refusal.{Refusal}
use Rattle.evl_kernel.specs.state.Limits.{play_limit}
use Rattle.evl_kernel.specs.settling.Paths.{Along, walk_path}
use Rattle.evl_kernel.specs.state.States.{State}
use Rattle.evl_kernel.specs.calls.Effects.{Effect}
use Rattle.evl_kernel.specs.calls.Elements.{Touch}
use Rattle.evl_kernel.specs.calls.Serving.{answer, what_call_does}
use Rattle.evl_kernel.specs.settling.Settling.{Settling, Move, next_play, next_move, moving, item_touches, play_touches, after_call}
use Rattle.evl_kernel.specs.histories.Histories.{Follows, Step}
use Rattle.evl_kernel.specs.histories.Replays.{outcome_of, step_outcome, settled_moves, plays_in, touches_in}
use Rattle.evl_kernel.proofs.settling.DueLaws.{one_played, none_played, moves_item, moves_line, moves_none}

-- a walk that isn't longer than the steps that it may take
pub walked_along : {S P : Type 0} (next : S → Option (P × S)) (n : ℕ) (at : S) (outs : List P) (last : S)
    → Along next at outs last → next last ≡ None → length outs ≤ n → walk_path next n at ≡ (outs, last)
walked_along next zero at [] last p over few = rw p refl
walked_along {S} next (suc n) at [] last p over few =
    let none : next at ≡ None = subst (λ (s : S). next s ≡ None) p over in rw (none, p) refl
walked_along next zero at (one ∷ outs) last p over few = absurd (omega (arith, few))
walked_along {S} {P} next (suc n) at (one ∷ outs) last (mid, here, p) over few =
    let rest = walked_along next n mid outs last p over (omega (arith, few)) in
    rw (here, rest) refl

-- the plays of a path are those of a path of moves
record MovesAlong (at : Settling) (plays : List Play) (last : Settling) : Type 0 where
  path : List Move
  along : Along next_move at path last
  plays_are : plays_in path ≡ plays
  as_many : length path ≡ length plays

one_move : (at mid : Settling) (one : Play) → next_play at ≡ Some (one, mid) → (touches : List Touch) × (next_move at ≡ Some (record { play = one; touches = touches }, mid))
one_move at mid one next = one_played (λ (x : Play × Settling). (touches : List Touch) × (next_move at ≡ Some (moving touches x))) at mid one
    (λ found is. (item_touches at.state found, moves_item at found is))
    (λ stage line none is. (play_touches at.state stage line, moves_line at stage line none is)) next

no_move : (at : Settling) → next_play at ≡ None → next_move at ≡ None
no_move at none = let both = none_played at none in moves_none at both.0 both.1

moves_along : (at : Settling) (plays : List Play) (last : Settling) → Along next_play at plays last → MovesAlong at plays last
moves_along at [] last same = record { path = []; along = same; plays_are = refl; as_many = refl }
moves_along at (one ∷ plays) last (mid, next, path) =
    let first = one_move at mid one next in
    let rest = moves_along mid plays last path in
    record {
      path = record { play = one; touches = first.0 } ∷ rest.path;
      along = (mid, first.1, rest.along);
      plays_are = ap (λ (ps : List Play). one ∷ ps) rest.plays_are;
      as_many = ap suc rest.as_many;
    }

pub outcome_is : (old : State) (own : List Touch) (effect : Effect) (reply : Result Reply Refusal) (plays : List Play) (new : State)
    → Follows old effect reply plays new → length plays ≤ play_limit
    → outcome_of play_limit old own effect ≡ record { reply = reply; plays = plays; touches = (outcome_of play_limit old own effect).touches; after = new }
outcome_is old own (Err refusal) reply plays new p few = (λ i. record { reply = sym p.0 i; plays = sym p.1 i; touches = own; after = sym p.2 i })
outcome_is old own (Ok (given, changed)) reply plays new p few =
    let by = p.1 in
    let found = moves_along (after_call changed) plays by.last by.played in
    let over = no_move by.last by.ended in
    let walk = walked_along next_move play_limit (after_call changed) found.path by.last found.along over (subst (λ (n : ℕ). n ≤ play_limit) (sym found.as_many) few) in
    let plays_are : plays_in (settled_moves play_limit changed).0 ≡ plays = ap (λ (x : List Move × Settling). plays_in x.0) walk ∙ found.plays_are in
    let after_is : (settled_moves play_limit changed).1.state ≡ new = ap (λ (x : List Move × Settling). x.1.state) walk ∙ sym by.left in
    (λ i. record { reply = sym p.0 i; plays = plays_are i; touches = own ++ touches_in (settled_moves play_limit changed).0; after = after_is i })

-- a step of the kernel is computed
pub step_is_stepped : (old : State) (caller : ℕ) (asked : Call) (reply : Result Reply Refusal) (plays : List Play) (new : State)
    → Step old caller asked reply plays new → length plays ≤ play_limit
    → step_outcome old caller asked ≡ record { reply = reply; plays = plays; touches = (step_outcome old caller asked).touches; after = new }
step_is_stepped old caller asked reply plays new step few = outcome_is old (what_call_does old caller asked).touches (answer old caller asked) reply plays new step few
