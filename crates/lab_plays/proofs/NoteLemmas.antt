-- The lines written of texts that are checked, one after the other.
use Rattle.std.proofs.Common.{arith, ◌≡◌, ◌≢◌, ◌≤◌, ◌∙◌, ℕ, zero, suc, ◌==◌, List, [], ◌∷◌, ◌++◌, append-nil, Bool, true, false, flat_map, length, map, max, codes, Option, Some, None, Result, Ok, Err, IfOk, OnOk, refl, sym, ap, ap₂, subst, string_bytes}
use Rattle.std.specs.Prelude.{IsSomeAnd, if◌then◌else◌, is_ok, option_map, unwrap_or}
use Rattle.std.specs.List.{All, concat}
use Rattle.std.specs.Io.KnownBytes.{Appends}
use Rattle.std.proofs.KnownBytes.{Appends-nil, Appends-trans}
use Rattle.std.proofs.Math.Dec.{eqb-suc-zero}
use Rattle.std.proofs.lemmas.List.{map-append}
use Rattle.std.proofs.lemmas.List.Elements.{All-append, All-cons, All-nil}
use Rattle.std.proofs.lemmas.List.Folds.{concat-append}
use Rattle.evl_kernel.specs.state.States.{Handler}
use Rattle.evl_scenario.specs.Scenarios.{Script}
use Rattle.evl_scenario.specs.declared.faults.Fault.{Fault}
use Rattle.lab_faults.specs.Faults.{first_fault, refusal_in}
use Rattle.lab_faults.specs.Told.{fault_told}
use Rattle.lab_faults.specs.declared.found.Found.{Found}
use Rattle.lab_json.specs.Notices.{Said, fault_json, notice_json}
use Rattle.lab_json.specs.Warned.{judged_said}
use Rattle.lab_kinds.specs.Reports.{is_some_found}
use Rattle.lab_kinds.specs.declared.kinds.TextKind.{TextKind}
use Rattle.lab_lines.specs.declared.texts.LinesFault.{LinesFault}
use Rattle.lab_lines.specs.declared.texts.LinesFault.TheVariants as fault
use Rattle.lab_plays.specs.Notes.{IsNoted, Noted, NotesEach, NotesFile, found_notes, judged_notes, place_said, warned_notes}
use Rattle.lab_plays.specs.Plays.{worst}
use Rattle.lab_plays.specs.declared.expects.Judged.{Judged}
use Rattle.lab_streams.specs.Lines.{place_line, place_text}
use Rattle.lab_streams.specs.Readings.{Reading}

-- of a scenario none is found
pub none_of : (found : List Found) (r : Result Script Fault) → first_fault found ≡ refusal_in r → is_ok r ≡ true → map fault_told found ≡ []
none_of [] r e is = refl
none_of (one ∷ rest) (Ok script) e is = cc
none_of (one ∷ rest) (Err fault) e is = cc

-- ---- a text

-- what was found is written, or else the warnings
pub noted_faults : (bank : List Handler) (kind : TextKind) (name text : List ℕ) (found : List Found) (old new : List ℕ) → is_some_found found ≡ true
    → new ≡ old ++ flat_map (fault_json name) (map fault_told found) → new ≡ old ++ found_notes bank kind name text found
noted_faults bank kind name text found old new is told =
    told ∙ ap (λ (b : Bool). old ++ (if b then flat_map (fault_json name) (map fault_told found) else warned_notes bank kind name text)) (sym is)

pub noted_warnings : (bank : List Handler) (kind : TextKind) (name text : List ℕ) (found : List Found) (old new : List ℕ) → is_some_found found ≡ false
    → new ≡ old ++ warned_notes bank kind name text → new ≡ old ++ found_notes bank kind name text found
noted_warnings bank kind name text found old new isnt told =
    told ∙ ap (λ (b : Bool). old ++ (if b then flat_map (fault_json name) (map fault_told found) else warned_notes bank kind name text)) (sym isnt)

not_zero : (n : ℕ) → n ≢ 0 → (n == 0) ≡ false
not_zero zero some = absurd (some refl)
not_zero (suc n) some = eqb-suc-zero n

-- of what is judged otherwise than well there is a line
pub judged_told : {T E : Type 0} (r : Result T E) (name : List ℕ) (j : Judged) (old new : List ℕ) → j.status ≢ 0
    → OnOk r (new ≡ old ++ notice_json name (judged_said (j.status == 2) (string_bytes j.said))) → OnOk r (new ≡ old ++ judged_notes name j)
judged_told (Ok x) name j old new isnt told =
    told ∙ ap (λ (b : Bool). old ++ (if b then [] else notice_json name (judged_said (j.status == 2) (string_bytes j.said)))) (sym (not_zero j.status isnt))
judged_told (Err e) name j old new isnt told = tt

-- what is so of the one is so of the other
pub noted_as : {T E : Type 0} (Is Was : T → Type 0) (r : Result T E) → ((x : T) → Was x → Is x) → IfOk r Was → IfOk r Is
noted_as Is Was (Ok x) same h = same x h
noted_as Is Was (Err e) same h = tt

-- of an answer with what was written
pub noted_of : {T E : Type 0} (Is Answers : T → Type 0) (Written : Type 0) (r : Result T E) → ((x : T) → Answers x → Written → Is x)
    → IfOk r Answers → OnOk r Written → IfOk r Is
noted_of Is Answers Written (Ok x) is answers written = is x answers written
noted_of Is Answers Written (Err e) is answers written = tt

-- a text of lines that can't be read has the place and the words that it has as a line
abbrev pub line_said : List ℕ → Said → List ℕ
line_said name said = place_line name (unwrap_or said.line 0) (unwrap_or said.byte 0) said.says

pub same_place : (name : List ℕ) (e : LinesFault) → place_text name e ≡ option_map (line_said name) (place_said e)
same_place name fault.Text = refl
same_place name (fault.Line line unread) = refl
same_place name fault.Board = refl
same_place name fault.TooLong = refl
same_place name fault.Memory = refl

-- ---- several

module _ (bank : List Handler) where
  pub each_none : (old : Option (List ℕ)) → NotesEach bank [] old old 0
  each_none old = record { each = []; in_order = refl; are = All-nil (IsNoted bank); prints = Appends-nil old; ends = refl }

  max_zero : (n : ℕ) → n ≡ max n 0
  max_zero n = omega arith

  worst-append : (xs ys : List ℕ) → max (worst xs) (worst ys) ≡ worst (xs ++ ys)
  worst-append [] ys = omega arith
  worst-append (x ∷ xs) ys = let rest = worst-append xs ys in omega (arith, rest)

  -- a file, by what was read of it
  pub each_one : (name : List ℕ) (text : Reading) (printed : List ℕ) (old new : Option (List ℕ)) (status : ℕ) → NotesFile bank name text [] printed status
      → Appends old new printed → NotesEach bank (name ∷ []) old new status
  each_one name text printed old new status is prints = record {
    each = record { name = name; text = text; printed = printed; status = status } ∷ [];
    in_order = refl;
    are = All-cons (IsNoted bank) (record { name = name; text = text; printed = printed; status = status }) [] is (All-nil (IsNoted bank));
    prints = subst (Appends old new) (sym (append-nil printed)) prints;
    ends = max_zero status;
  }

  -- a further file after those that were checked
  pub each_next : (names : List (List ℕ)) (name : List ℕ) (old mid new : Option (List ℕ)) (status ended : ℕ)
      → NotesEach bank names old mid status → NotesEach bank (name ∷ []) mid new ended → NotesEach bank (names ++ name ∷ []) old new (max status ended)
  each_next names name old mid new status ended first second =
      let xs = first.each in
      let ys = second.each in
      let printed : Noted → List ℕ = λ n. n.printed in
      let own : Noted → ℕ = λ n. n.status in
      record {
        each = xs ++ ys;
        in_order = map-append (λ (n : Noted). n.name) xs ys ∙ ap₂ (λ (a b : List (List ℕ)). a ++ b) first.in_order second.in_order;
        are = All-append (IsNoted bank) xs ys first.are second.are;
        prints = subst (Appends old new) (sym (ap concat (map-append printed xs ys) ∙ concat-append (map printed xs) (map printed ys))) (Appends-trans old mid new _ _ first.prints second.prints);
        ends = ap₂ max first.ends second.ends ∙ worst-append (map own xs) (map own ys) ∙ sym (ap worst (map-append own xs ys));
      }
