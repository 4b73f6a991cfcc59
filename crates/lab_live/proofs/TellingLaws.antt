-- The output of the newest entry of a history.
use Rattle.std.proofs.Common.{◌≡◌, ◌∙◌, ℕ, ◌-◌, List, [], ◌∷◌, ◌++◌, length, drop, Some, sym, ap, arith}
use Rattle.std.specs.List.{slice_get}
use Rattle.std.proofs.Math.Seq.{get_or-append_seam, drop-append_seam}
use Rattle.std.proofs.lemmas.List.{length-append}
use Rattle.std.proofs.lemmas.Option.{slice_get-get_or}
use Rattle.evl_base.specs.declared.entry.Entry.{Entry}
use Rattle.evl_base.specs.declared.play.Play.{Play}
use Rattle.evl_kernel.specs.histories.Histories.{History}
use Rattle.evl_scenario.specs.Traces.{entry_lines}
use Rattle.evl_scenario.specs.declared.steps.Step.{Step}
use Rattle.lab_live.specs.Sessions.{Enters, TellsEntry}

-- the last of a list that ends so
pub newest : (before : List Entry) (entry : Entry) → slice_get (before ++ entry ∷ []) (length (before ++ entry ∷ []) - 1) ≡ Some entry
newest before entry =
    let count = length-append before (entry ∷ []) in
    let at : length (before ++ entry ∷ []) - 1 ≡ length before = omega (arith, count) in
    ap (λ k. slice_get (before ++ entry ∷ []) k) at
    ∙ slice_get-get_or (before ++ entry ∷ []) (length before) entry (omega (arith, count))
    ∙ ap (λ (e : Entry). Some e) (get_or-append_seam before entry [] entry)

-- the lines of the last entry of a list are those of the entry that the list ends with
pub newest_told : (entries : List Entry) (last : Entry) (number : ℕ) (own plays : List Play) (told after : List ℕ)
    → number ≡ length entries → slice_get entries (length entries - 1) ≡ Some last → own ≡ plays → after ≡ told ++ entry_lines number last own
    → (before : List Entry) (entry : Entry) → entries ≡ before ++ entry ∷ [] → after ≡ told ++ entry_lines (length entries) entry plays
newest_told entries last number own plays told after n at same is before entry e =
    let here : Some last ≡ Some entry = sym at ∙ ap (λ (xs : List Entry). slice_get xs (length xs - 1)) e ∙ newest before entry in
    let one : last ≡ entry = cc in
    is ∙ (λ i. told ++ entry_lines (n i) (one i) (same i))

-- the lines of the newest entry, with the plays from an index on, are those of the step that was entered, with its own plays
pub tells : (old new : History) (step : Step) (from : ℕ) (before after : List ℕ) → Enters old step new → from ≡ length old.plays
    → ((b : List Entry) (e : Entry) → new.entries ≡ b ++ e ∷ [] → after ≡ before ++ entry_lines (length new.entries) e (drop from new.plays))
    → TellsEntry old new step before after
tells old new step from before after enters at told =
    let extends = enters.extends in
    record {
      entry = enters.entry;
      plays = enters.plays;
      asked = enters.asked;
      entries_are = extends.entries;
      plays_are = extends.plays_too;
      counted = extends.step.0;
      told = told old.entries enters.entry extends.entries
          ∙ ap (λ (own : List Play). before ++ entry_lines (length new.entries) enters.entry own)
          (ap (λ n. drop n new.plays) at ∙ ap (λ (all : List Play). drop (length old.plays) all) extends.plays_too ∙ drop-append_seam old.plays enters.plays);
    }
