-- All that the answers of allowed callbacks hold, and that each change keeps all callbacks allowed.
use Rattle.std.proofs.Common.{◌≡◌, ℕ, ◌≤◌, ◌<◌, ◌==◌, ◌||◌, nat_lt, bit_and, Bool, true, false, not, List, length, filter, Option, Some, None, is_some, slice_index_or, slice_set, if◌then◌else◌, refl, sym, ap, ◌∙◌, arith}
use Rattle.std.proofs.lemmas.Nat.{and_assoc}
use Rattle.std.proofs.lemmas.List.{get_or-set_same, get_or-set_other, length-map, length-set}
use Rattle.std.proofs.lemmas.List.Sums.{length-filter, count_by-le-length}
use Rattle.std.proofs.lemmas.List.Elements.{All-map, All-filter, All-weaker}
use Rattle.std.proofs.lemmas.Bool.{eqb-false, eqb-true}
use Rattle.evl_pipeline.specs.declared.action.Action.{Action}
use Rattle.evl_pipeline.specs.declared.plan.Plan.{Plan}
use Rattle.evl_base.specs.declared.refusal.Refusal.TheVariants.{Unknown, Invalid, Busy}
use Rattle.evl_base.specs.declared.stage.Stage.{Stage}
use Rattle.evl_base.specs.declared.stage.Stage.TheVariants.{Inband, Oob}
use Rattle.evl_pipeline.specs.Counts.{one_more, count_raised}
use Rattle.evl_pipeline.specs.Lines.{AreAllowed, Installed, Pipeline, Side, arrived, callback_on, cleared, freed, has_callback, installed_at, logged, opening, played, posted, request_refusal, requested, side, stalled, unstalled, with_side}
use Rattle.evl_pipeline.proofs.PortLaws.{at-none, none_there, within}
use Rattle.evl_pipeline.specs.Plans.{IsSound, PostsNoOob, answer_of, declares, divides, is_allowed, kind_of}
use Rattle.evl_pipeline.specs.Limits.{action_limit, line_count}

-- a callback answers at most as many actions as its plan has rows
pub few : (kinds : ℕ) (plan : Plan) (count : ℕ) → IsSound kinds plan → length (answer_of plan count).actions.items ≤ action_limit
few kinds plan count sound =
    let passing = filter (λ row. divides row.0 count) plan.rows.items in
    omega (
      arith,
      length-map passing (λ row. row.1),
      length-filter (λ row. divides row.0 count) plan.rows.items,
      count_by-le-length (λ row. divides row.0 count) plan.rows.items,
      sound.few,
    )

-- what is allowed out-of-band has no bit of a post
posts_not : (kinds : ℕ) → is_allowed Oob kinds ≡ true → declares kinds 8 ≡ true → ⊥
posts_not kinds allowed declared =
    let within : bit_and 23 kinds ≡ kinds = eqb-true (bit_and 23 kinds) kinds allowed in
    let posts : bit_and kinds 8 ≡ 8 = eqb-true (bit_and kinds 8) 8 declared in
    let none : bit_and 23 8 ≡ 8 = ap (bit_and 23) (sym posts) ∙ sym (and_assoc 8 23 kinds) ∙ ap (λ k. bit_and k 8) within ∙ posts in
    absurd (omega (arith, none))

other_kind : (kinds : ℕ) (action : Action) → is_allowed Oob kinds ≡ true → declares kinds (kind_of action) ≡ true → (kind_of action == 8) ≡ false
other_kind kinds action allowed declared =
    elim (kind_of action == 8) as (λ b. (kind_of action == 8) ≡ b → b ≡ false) [
      | true ↦ λ e.
          let is : kind_of action ≡ 8 = eqb-true (kind_of action) 8 e in
          absurd (posts_not kinds allowed (ap (declares kinds) (sym is) ∙ declared))
      | false ↦ λ _. refl
    ] refl

-- where the kinds are allowed out-of-band, no answer posts an out-of-band line
pub posts-no_oob : (kinds : ℕ) (plan : Plan) (count : ℕ) → IsSound kinds plan → is_allowed Oob kinds ≡ true → PostsNoOob (answer_of plan count).actions.items
posts-no_oob kinds plan count sound allowed =
    All-map (λ action. (kind_of action == 8) ≡ false) (λ row. row.1) (filter (λ row. divides row.0 count) plan.rows.items)
    (All-filter (λ row. divides row.0 count) (λ row. (kind_of row.1 == 8) ≡ false) plan.rows.items
    (All-weaker (λ row. declares kinds (kind_of row.1) ≡ true) (λ row. (kind_of row.1 == 8) ≡ false) (λ row declared. other_kind kinds row.1 allowed declared) plan.rows.items sound.declared))

allowed_by : (line : ℕ) (fits clock allowed there : Bool) → (if not fits then Some Unknown else (if clock || not allowed then Some Invalid else (if there then Some Busy else None))) ≡ None → allowed ≡ true
allowed_by line fits clock true there e = refl
allowed_by line true true false there e = absurd (none_there None Invalid refl (sym e))
allowed_by line true false false there e = absurd (none_there None Invalid refl (sym e))
allowed_by line false clock false there e = absurd (none_there None Unknown refl (sym e))

pub request-allowed : {C : Type 0} (p : Pipeline C) (line : ℕ) (stage : Stage) (kinds : ℕ) → request_refusal p line stage kinds ≡ None → is_allowed stage kinds ≡ true
request-allowed p line stage kinds e = allowed_by line (nat_lt line line_count) (line == 0) (is_allowed stage kinds) (is_some (installed_at p stage line)) e

module _ {C : Type 0} (declared : C → ℕ) where
  -- all callbacks of a stage declare only what the stage allows
  abbrev AreAllowedOn : Stage → Side C → Type 0
  AreAllowedOn stage s = (line : ℕ) (at : Installed C) → callback_on s line ≡ Some at → is_allowed stage (declared at.callback) ≡ true
