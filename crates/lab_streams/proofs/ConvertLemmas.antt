-- All that `lab convert` prints of a text.
use Rattle.std.proofs.Common.{◌≡◌, ℕ, List, Bool, true, false, not, Option, None, Result, Ok, IfOk, OnOk, inl, inr, refl, subst, string_bytes}
use Rattle.std.specs.Prelude.{MatchBool, nat_lt}
use Rattle.std.specs.Io.KnownBytes.{Appends}
use Rattle.evl_scenario.specs.Scenarios.{Script, scenario_of}
use Rattle.lab_lines.specs.Kinds.{IsRead, is_lines}
use Rattle.lab_lines.specs.Tables.{unexpecting}
use Rattle.lab_lines.specs.Texts.{Means}
use Rattle.lab_lines.specs.declared.texts.Meant.{Meant}
use Rattle.lab_streams.specs.Lines.{Converts, ConvertsMeant, ConvertsText, IsForm}
use Rattle.lab_streams.specs.Outputs.{Writes}
use Rattle.lab_streams.specs.declared.words.Converting.{Converting}
use Rattle.lab_streams.proofs.OutputLemmas.{printed, written_as}

-- the one of two, by a test
pub is_first : (b : Bool) (A B : Type 0) → b ≡ true → A → MatchBool b A B
is_first true A B e a = a
is_first false A B e a = cc

pub is_second : (b : Bool) (A B : Type 0) → b ≡ false → B → MatchBool b A B
is_second true A B e a = cc
is_second false A B e a = a

-- a scenario in its form
pub form_printed : (E : Type 0) (as_lines : Bool) (name text : List ℕ) (script : Script) (form bytes : List ℕ) (old new quiet : Option (List ℕ)) (r : Result ℕ E)
    → scenario_of None text ≡ Ok script → IsForm as_lines script form → bytes ≡ form → OnOk r (Appends old new bytes) → IfOk r (λ s. s ≡ 0)
    → IfOk r (Writes (Converts as_lines name text) old new quiet quiet)
form_printed E as_lines name text script form bytes old new quiet r reads is same puts ends =
    printed E (Converts as_lines name text) old new quiet form r (inl (script, form, reads, is, refl)) (subst (λ (l : List ℕ). OnOk r (Appends old new l)) same puts) ends

-- of what is meant where no step is set up, its scenario
pub meant_converted : (E : Type 0) (as_lines : Bool) (name : List ℕ) (meant : Meant) (bytes : List ℕ) (old new quiet spoken : Option (List ℕ)) (r : Result ℕ E)
    → nat_lt 0 meant.setup ≡ false → bytes ≡ string_bytes meant.scenario → IfOk r (Writes (Converts as_lines name bytes) old new quiet spoken)
    → IfOk r (Writes (ConvertsMeant as_lines name meant) old new quiet spoken)
meant_converted E as_lines name meant bytes old new quiet spoken r none same writes =
    written_as E (ConvertsMeant as_lines name meant) old new quiet spoken (Converts as_lines name bytes) r
    (λ output h. is_second (nat_lt 0 meant.setup) _ _ none (subst (λ (l : List ℕ). Converts as_lines name l output) same h)) writes

-- of a text of lines, what it means
pub lines_converted : (E : Type 0) (asked : Converting) (name text : List ℕ) (meant : Meant) (old new quiet spoken : Option (List ℕ)) (r : Result ℕ E)
    → is_lines text ≡ true → Means text meant → IfOk r (Writes (ConvertsMeant asked.lines name meant) old new quiet spoken)
    → IfOk r (Writes (ConvertsText asked name text) old new quiet spoken)
lines_converted E asked name text meant old new quiet spoken r is means writes =
    let read : IsRead text meant = record { is = is; means = means } in
    written_as E (ConvertsText asked name text) old new quiet spoken (ConvertsMeant asked.lines name meant) r (λ output h. inr (inl (meant, read, h))) writes

-- of any other, the scenario in it
pub plain_converted : (E : Type 0) (asked : Converting) (name text plain : List ℕ) (old new quiet spoken : Option (List ℕ)) (r : Result ℕ E)
    → is_lines text ≡ false → plain ≡ unexpecting text → IfOk r (Writes (Converts (not asked.toml) name plain) old new quiet spoken)
    → IfOk r (Writes (ConvertsText asked name text) old new quiet spoken)
plain_converted E asked name text plain old new quiet spoken r none same writes =
    written_as E (ConvertsText asked name text) old new quiet spoken (Converts (not asked.toml) name plain) r
    (λ output h. inl (none, subst (λ (l : List ℕ). Converts (not asked.toml) name l output) same h)) writes
