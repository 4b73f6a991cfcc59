-- Texts of lines, and what they mean.
use Rattle.std.proofs.Common.{◌≡◌, ◌∙◌, ◌≢◌, ◌⊎◌, inl, inr, ◌++◌, List, ℕ, Bool, true, false, ◌&&◌, length, map, string_bytes, Option, Some, None, Result, Ok, Err, IfOk, IfErr, OnOk, sym, ap, ap₂, subst}
use Rattle.std.specs.Prelude.{unwrap_or}
use Rattle.std.specs.Str.{bytes_eq, is_utf8}
use Rattle.std.specs.Str.Lines.{lines}
use Rattle.std.proofs.lemmas.Bool.{false≢true}
use Rattle.std.proofs.lemmas.List.{length-map, map-append}
use Rattle.std.proofs.lemmas.Slice.Eq.{bytes_eq-Decides}
use Rattle.evl_base.specs.declared.board.Board.{Board}
use Rattle.evl_base.specs.declared.entry.Entry.{Entry}
use Rattle.evl_scenario.specs.Scenarios.{Script, scenario_of}
use Rattle.evl_scenario.specs.Writings.{scenario_text, script_of_history, step_of_entry}
use Rattle.evl_scenario.specs.declared.steps.Step.{Step}
use Rattle.evl_scenario.specs.declared.writing.Unwritten.TheVariants as unwritten
use Rattle.lab_lines.specs.Kinds.{IsOfCallers, IsPlain, IsUnread, begin_said, callers_text, is_lines}
use Rattle.lab_lines.specs.Texts.{IsRefused, IsRefusedLines, IsUnsaid, IsUnwrittenAs, Means, MeansAs, MeansLines, MeansSaid, gathered_in, scripted}
use Rattle.lab_lines.specs.Writings.{IsOtherwise, IsUnlinedOf, IsWritten, MeansText, lines_text}
use Rattle.lab_lines.specs.declared.texts.Gathering.{Gathering}
use Rattle.lab_lines.specs.declared.texts.LinesFault.{LinesFault}
use Rattle.lab_lines.specs.declared.texts.Meant.{Meant}
use Rattle.lab_lines.specs.declared.writing.Unlined.{Unlined}
use Rattle.lab_lines.specs.declared.writing.Unlined.TheVariants as unlined

-- ---- what lines have said

abbrev script_as : Board → ℕ → List Step → Script
script_as b l s = record { board = b; limit = l; steps = s }

-- first the steps that are set up
same_script : (opening : Board × ℕ) (own : Option ℕ) (first others entries : List Entry) (l : ℕ) → l ≡ unwrap_or own opening.1 → entries ≡ first ++ others
    → script_of_history opening.0 l entries ≡ scripted opening own first others
same_script opening own first others entries l is all =
    ap₂ (λ (n : ℕ) (s : List Step). script_as opening.0 n s) is (ap (map step_of_entry) all ∙ map-append step_of_entry first others)

pub all_meant : {E : Type 0} (r : Result Meant E) (opening : Board × ℕ) (own : Option ℕ) (first others entries : List Entry) (l count : ℕ) → l ≡ unwrap_or own opening.1
    → entries ≡ first ++ others → count ≡ length first
    → IfOk r (λ m. string_bytes m.scenario ≡ scenario_text (script_of_history opening.0 l entries))
    → IfOk r (λ m. scenario_of None (string_bytes m.scenario) ≡ Ok (script_of_history opening.0 l entries)) → IfOk r (λ m. m.setup ≡ count)
    → IfOk r (MeansAs (scripted opening own first others) (length first))
all_meant (Ok m) opening own first others entries l count is all counted text reads setup =
    let same = same_script opening own first others entries l is all in
    record { text = text ∙ ap scenario_text same; reads = reads ∙ ap (λ (s : Script). Ok s) same; setup_is = setup ∙ counted }
all_meant (Err e) opening own first others entries l count is all counted text reads setup = tt

pub all_unwritten : {T : Type 0} (r : Result T LinesFault) (opening : Board × ℕ) (own : Option ℕ) (first others entries : List Entry) (l : ℕ) → l ≡ unwrap_or own opening.1
    → entries ≡ first ++ others → IfErr r (IsUnwrittenAs (script_of_history opening.0 l entries)) → IfErr r (IsUnwrittenAs (scripted opening own first others))
all_unwritten r opening own first others entries l is all =
    subst (λ (s : Script). IfErr r (IsUnwrittenAs s)) (same_script opening own first others entries l is all)

pub said_meant : {E : Type 0} (r : Result Meant E) (g : Gathering) (opening : Board × ℕ) → g.opening ≡ Some opening
    → IfOk r (MeansAs (scripted opening g.limit g.setup.items g.steps.items) (length g.setup.items)) → IfOk r (MeansSaid (gathered_in g))
said_meant (Ok m) g opening is means = record {
  opening = opening;
  opens = is;
  means = record { text = means.text; reads = means.reads; setup_is = means.setup_is ∙ sym (length-map g.setup.items step_of_entry) };
}
said_meant (Err e) g opening is means = tt

pub said_unwritten : {T : Type 0} (r : Result T LinesFault) (g : Gathering) (opening : Board × ℕ) → g.opening ≡ Some opening
    → IfErr r (IsUnwrittenAs (scripted opening g.limit g.setup.items g.steps.items)) → IfErr r (IsUnsaid (gathered_in g))
said_unwritten (Ok x) g opening is why = tt
said_unwritten (Err e) g opening is why = inr (inr (opening, is, why))

-- ---- a text

pub text_means : {E : Type 0} (r : Result Meant E) (bytes text : List ℕ) → is_utf8 bytes ≡ true → text ≡ bytes → IfOk r (MeansLines (lines text)) → IfOk r (Means bytes)
text_means (Ok m) bytes text utf8 same means = record { is_text = utf8; means = subst (λ (l : List ℕ). MeansLines (lines l) m) same means }
text_means (Err e) bytes text utf8 same means = tt

pub text_refused : {T : Type 0} (r : Result T LinesFault) (bytes text : List ℕ) → is_utf8 bytes ≡ true → text ≡ bytes → IfErr r (IsRefusedLines (lines text))
    → IfErr r (IsRefused bytes)
text_refused (Ok x) bytes text utf8 same why = tt
text_refused (Err e) bytes text utf8 same why = inr (utf8, subst (λ (l : List ℕ). IsRefusedLines (lines l) e) same why)

-- ---- its kind

pub lines_begin : {E : Type 0} (r : Result Bool E) (bytes text : List ℕ) → is_utf8 bytes ≡ true → text ≡ bytes → IfOk r (λ is. is ≡ begin_said (lines text))
    → IfOk r (λ is. is ≡ is_lines bytes)
unfolding is_lines
lines_begin (Ok b) bytes text utf8 same told =
    told ∙ ap (λ (l : List ℕ). begin_said (lines l)) same ∙ ap (λ (u : Bool). u && begin_said (lines bytes)) (sym utf8)
lines_begin (Err e) bytes text utf8 same told = tt

pub no_lines : (bytes : List ℕ) → is_utf8 bytes ≡ false → false ≡ is_lines bytes
unfolding is_lines
no_lines bytes odd = ap (λ (u : Bool). u && begin_said (lines bytes)) (sym odd)

-- a text of lines that was read, and one that wasn't
pub meant_plain : (text plain : List ℕ) (meant : Meant) → is_lines text ≡ true → Means text meant → plain ≡ string_bytes meant.scenario → IsPlain text plain
meant_plain text plain meant is means made = inr (meant, record { is = is; means = means }, made)

pub meant_callers : (text plain : List ℕ) (meant : Meant) → is_lines text ≡ true → Means text meant → plain ≡ callers_text meant → IsOfCallers text plain
meant_callers text plain meant is means made = inr (meant, record { is = is; means = means }, made)

pub refused_lines : (text : List ℕ) (e : LinesFault) → is_lines text ≡ true → IsRefused text e → IsUnread text e
refused_lines text e is why = inr (is, why)

-- ---- what is written

pub means_same : {A E : Type 0} (P : A → Type 0) (r : Result A E) (taken : Bool) (own shown bytes text : List ℕ) (meant : Meant) → taken ≡ bytes_eq shown own
    → shown ≡ string_bytes meant.scenario → bytes ≡ text → Means bytes meant → IfOk r (λ new. (taken ≡ true) × P new) → OnOk r (MeansText own text)
means_same P (Ok new) taken own shown bytes text meant test is same means told =
    let equal : shown ≡ own = (bytes_eq-Decides shown own).0 (sym test ∙ told.0) in
    (meant, subst (λ (l : List ℕ). Means l meant) same means, sym is ∙ equal)
means_same P (Err e) taken own shown bytes text meant test is same means told = tt

pub means_other : {A : Type 0} (r : Result A Unlined) (taken : Bool) (own shown bytes text : List ℕ) (meant : Meant) → taken ≡ bytes_eq shown own
    → shown ≡ string_bytes meant.scenario → bytes ≡ text → Means bytes meant → IfErr r (λ e. (taken ≡ false) × (e ≡ unlined.Unlike)) → IfErr r (IsOtherwise own text)
means_other (Ok new) taken own shown bytes text meant test is same means told = tt
means_other (Err e) taken own shown bytes text meant test is same means told =
    let other : string_bytes meant.scenario ≢ own = λ equal. false≢true (sym told.0 ∙ test ∙ (bytes_eq-Decides shown own).1 (is ∙ equal)) in
    inr (told.1, inr (meant, subst (λ (l : List ℕ). Means l meant) same means, other))

pub unread_otherwise : (own bytes text : List ℕ) (f : LinesFault) (e : Unlined) → bytes ≡ text → IsRefused bytes f
    → (e ≡ unlined.Unwritten unwritten.Memory) ⊎ (e ≡ unlined.Unlike) → IsOtherwise own text e
unread_otherwise own bytes text f e same why (inl memory) = inl memory
unread_otherwise own bytes text f e same why (inr unlike) = inr (unlike, inl (f, subst (λ (l : List ℕ). IsRefused l f) same why))

pub written_so : {A E : Type 0} (items : A → List ℕ) (r : Result A E) (script : Script) (own text : List ℕ) → text ≡ lines_text script → scenario_of None own ≡ Ok script
    → IfOk r (λ new. items new ≡ text) → OnOk r (MeansText own text) → IfOk r (λ new. IsWritten script (items new))
written_so items (Ok new) script own text is reads same means = record {
  is_text = same ∙ is;
  reads_back = (means.0, subst (λ (l : List ℕ). Means l means.0) (sym same) means.1, ap (λ (l : List ℕ). scenario_of None l) means.2 ∙ reads);
}
written_so items (Err e) script own text is reads same means = tt

unlined_by : (e : Unlined) (script : Script) (own text : List ℕ) → text ≡ lines_text script → own ≡ scenario_text script → IsOtherwise own text e → IsUnlinedOf script e
unlined_by e script own text is written (inl memory) = inl (unwritten.Memory, memory, tt)
unlined_by e script own text is written (inr (unlike, inl (f, why))) = inr (unlike, inl (f, subst (λ (l : List ℕ). IsRefused l f) is why))
unlined_by e script own text is written (inr (unlike, inr (meant, means, other))) =
    inr (unlike, inr (meant, subst (λ (l : List ℕ). Means l meant) is means, λ equal. other (equal ∙ sym written)))

pub unlined_so : {A : Type 0} (r : Result A Unlined) (script : Script) (own text : List ℕ) → text ≡ lines_text script → own ≡ scenario_text script
    → IfErr r (IsOtherwise own text) → IfErr r (IsUnlinedOf script)
unlined_so (Ok new) script own text is written why = tt
unlined_so (Err e) script own text is written why = unlined_by e script own text is written why
