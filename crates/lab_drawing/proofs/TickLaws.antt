-- The line of a tick that is done moves the date.
use Rattle.std.proofs.Common.{arith, ◌≡◌, ◌<◌, ℕ, ◌+◌, ◌-◌, ◌^◌, min, nat_eq, true, List, ◌∷◌, ◌++◌, length, length-append, codes, decimal, Option, Some, None, Ok, option_map, option_and_then, unwrap_or, refl, ap, ◌∙◌}
use Rattle.std.proofs.Math.Seq.{take-append_seam}
use Rattle.std.proofs.lemmas.Bool.{eq-eqb, eqb-true}
use Rattle.std.proofs.lemmas.List.{append-nil}
use Rattle.std.proofs.lemmas.Slice.Eq.{ends_is}
use Rattle.std.specs.List.{ends_with}
use Rattle.evl_base.specs.declared.call.Call.TheVariants.{Tick}
use Rattle.evl_base.specs.declared.reply.Reply.TheVariants.{Done}
use Rattle.evl_scenario.specs.Lines.{number_text}
use Rattle.evl_scenario.specs.declared.steps.Step.{Step}
use Rattle.lab_traces.specs.Entries.{entry_text, step_parts}
use Rattle.lab_traces.specs.Parts.{Lacks, before_end}
use Rattle.lab_drawing.specs.Standings.{Told, before_done, date_after, delta_of, moved_by, told_after}
use Rattle.lab_drawing.specs.Texts.{around_part, number_in}
use Rattle.lab_drawing.proofs.KeyLaws.{apart, behind_here, behind_next, behind_part, head_of, looked_for, past_word, tail_of}
use Rattle.lab_drawing.proofs.TextLaws.{decimal_lacks, number_again}

before_at : (end front : List ℕ) → before_end end (front ++ end) ≡ Some front
before_at end front =
    let ends : ends_with nat_eq (front ++ end) end ≡ true = (ends_is (λ a b. (eqb-true a b, eq-eqb a b)) (front ++ end) end _ refl).1 front refl in
    let size : length (front ++ end) - length end ≡ length front = omega (arith, length-append front end) in
    rw (ends, size, take-append_seam front end)

done_at : (front : List ℕ) → before_done (front ++ codes " -> done") ≡ Some front
unfolding before_done
done_at front = before_at (codes " -> done") front

delta_by : (line : List ℕ) → delta_of line ≡ option_and_then before_done (behind_part (codes " tick delta=") line)
delta_by line = by (around_part (codes " tick delta=") line)
  where
    by : (o : Option (List ℕ × List ℕ)) → option_and_then (λ (cut : List ℕ × List ℕ). before_done cut.1) o ≡ option_and_then before_done (option_map (λ (cut : List ℕ × List ℕ). cut.1) o)
    by None = refl
    by (Some cut) = refl

number_lacks : (number : Option ℕ) → Lacks 32 (number_text number)
number_lacks None = refl
number_lacks (Some n) = decimal_lacks 32 n refl

-- after the key are the delta and the answer
tick_behind : (number : Option ℕ) (thread delta : ℕ)
    → behind_part (codes " tick delta=") (number_text number ++ (codes " T" ++ (decimal thread ++ (codes " tick delta=" ++ (decimal delta ++ codes " -> done")))))
    ≡ Some (decimal delta ++ codes " -> done")
tick_behind number thread delta =
    let key : List ℕ = codes "tick delta" in
    let told : List ℕ = decimal delta ++ codes " -> done" in
    let called : List ℕ = codes " tick delta=" ++ told in
    past_word key (number_text number) (codes " T" ++ (decimal thread ++ called)) (number_lacks number)
    ∙ behind_next (looked_for key) 32 (84 ∷ (decimal thread ++ called)) (λ r e. apart 84 116 refl (head_of (tail_of e)))
    ∙ past_word key (84 ∷ decimal thread) called (decimal_lacks 32 thread refl)
    ∙ behind_here (looked_for key) 32 (codes "tick delta=" ++ told) told refl

tick_moves : (number : Option ℕ) (who : ℕ) (delta : ℕ) → delta < 2 ^ 64
    → moved_by (number_text number ++ (codes " T" ++ (decimal who ++ (codes " tick delta=" ++ (decimal delta ++ codes " -> done"))))) ≡ Some delta
tick_moves number who delta small =
    ap (option_and_then (number_in 64)) (delta_by _ ∙ ap (option_and_then before_done) (tick_behind number who delta) ∙ done_at (decimal delta)) ∙ number_again 64 delta small small

pub tick_dates : (number : Option ℕ) (step : Step) (delta : ℕ) (before : Told) → step.call ≡ Tick delta → delta < 2 ^ 64
    → (told_after before (entry_text (step_parts number step (Ok Done)))).date ≡ min (before.date + delta) (2 ^ 64 - 1)
tick_dates number step delta before called small =
    let whole : entry_text (step_parts number step (Ok Done)) ≡ number_text number ++ (codes " T" ++ (decimal step.who.0 ++ (codes " tick delta=" ++ (decimal delta ++ codes " -> done")))) =
    ap (λ c. entry_text (step_parts number (record { who = step.who; call = c }) (Ok Done))) called
    ∙ ap (λ (x : List ℕ). number_text number ++ (codes " T" ++ (decimal step.who.0 ++ (codes " tick delta=" ++ (x ++ codes " -> done"))))) (append-nil (decimal delta)) in
    ap (λ (line : List ℕ). date_after line before.date) whole
    ∙ ap (λ (o : Option ℕ). min (before.date + unwrap_or o 0) (2 ^ 64 - 1)) (tick_moves number step.who.0 delta small)
