-- The drawing of a text, by what each call of the body draws.
use Rattle.std.proofs.Common.{◌≡◌, ◌∙◌, ◌⊎◌, inl, inr, ℕ, ◌-◌, ◌++◌, List, Bool, true, false, codes, Option, Result, Ok, Err, IfOk, OnOk, decimal, map, refl, sym, ap, append_assoc, string_bytes, subst}
use Rattle.std.specs.Prelude.{IsSomeAnd, None, Some, is_some}
use Rattle.std.specs.List.{All}
use Rattle.std.specs.Option.{option_map_or}
use Rattle.std.specs.Str.{is_utf8}
use Rattle.std.specs.Io.KnownBytes.{Appends}
use Rattle.std.proofs.KnownBytes.{Appends-trans}
use Rattle.evl_scenario.specs.declared.faults.Fault.{Fault}
use Rattle.evl_scenario.specs.declared.faults.Fault.TheVariants.{Text, Board, Step, Memory, Write}
use Rattle.evl_kernel.specs.state.States.{Handler}
use Rattle.evl_plans.specs.Traces.{Refuses}
use Rattle.lab_traces.specs.Says.{IsLine, IsMisread, read_of, says_some, text_of, whole_lines}
use Rattle.lab_traces.specs.declared.traces.Misread.TheVariants as misread
use Rattle.lab_traces.specs.declared.traces.TraceLine.{TraceLine}
use Rattle.lab_drawing.specs.declared.frames.Goes.{Goes}
use Rattle.lab_drawing.specs.declared.marks.Mark.{Mark}
use Rattle.lab_reports.specs.Events.{events_text}
use Rattle.lab_caller_pictures.specs.Drawings.{IsPicture, Origin, callers, threads}
use Rattle.lab_draws.specs.Draws.{AreLinesOf, DrawsCallers, DrawsIf, DrawsKind, DrawsMade, DrawsPage, DrawsPlayed, DrawsRun, DrawsSome, SaysFirst, events_of, fault_words, goes_asked, undrawn_text, page_text}
use Rattle.lab_caller_pictures.specs.declared.plays.CallersRun.{CallersRun}
use Rattle.lab_caller_pictures.specs.declared.plays.Entered.{Entered}
use Rattle.lab_kinds.specs.Kinds.{kind_of}
use Rattle.lab_kinds.specs.declared.kinds.TextKind.{TextKind}
use Rattle.lab_kinds.specs.declared.kinds.TextKind.TheVariants as kinds
use Rattle.lab_streams.specs.Endings.{kinded_words, line_about}
use Rattle.lab_streams.specs.Outputs.{Output, Writes, refuses}
use Rattle.lab_streams.specs.declared.words.Drawing.{Drawing}
use Rattle.lab_streams.proofs.OutputLemmas.{said, said_of, written_as}

pub events_is : (marks : List Mark) → events_text marks ≡ events_of marks
unfolding events_of
events_is marks = refl

-- ---- a page

pub is_page : (drawing : Drawing) (origin : Origin) (marks : List Mark) (asked : Option Goes) (before all : ℕ) (text printed : List ℕ) → asked ≡ goes_asked drawing.way → before ≡ drawing.page - 1
    → printed ≡ text → IsPicture origin asked marks before text → DrawsPage drawing origin marks all (record { printed = printed; said = page_text drawing.page all; status = 0 })
is_page drawing origin marks asked before all text printed way is same h = (
  printed,
  subst (λ (t : List ℕ). IsPicture origin (goes_asked drawing.way) marks (drawing.page - 1) t) (sym same)
      (subst (λ (n : ℕ). IsPicture origin (goes_asked drawing.way) marks n text) is
      (subst (λ (g : Option Goes). IsPicture origin g marks before text) way h)),
  refl,
)

-- ---- a text

-- what is written after what was said before it
pub says_first : (E : Type 0) (note : List ℕ) (Is : Output → Type 0) (old new quiet mid spoken : Option (List ℕ)) (r : Result ℕ E) → Appends quiet mid note
    → IfOk r (Writes Is old new mid spoken) → IfOk r (Writes (SaysFirst note Is) old new quiet spoken)
says_first E note Is old new quiet mid spoken (Ok s) says w = record {
  output = record { printed = w.output.printed; said = note ++ w.output.said; status = w.output.status };
  is = (w.output, w.is, refl);
  printed = w.printed;
  said = Appends-trans quiet mid spoken note w.output.said says w.said;
  ended = w.ended;
}
says_first E note Is old new quiet mid spoken (Err e) says w = tt

pub lines_are : (text read : List ℕ) (lines items : List TraceLine) → lines ≡ items → read ≡ text → map read_of items ≡ map says_some items → whole_lines (map text_of items) ≡ read
    → All (λ line. IsLine (text_of line)) items → AreLinesOf text lines
lines_are text read lines items same is reads whole alone =
    subst (λ (l : List TraceLine). AreLinesOf text l) (sym same) (record { read = reads; whole = whole ∙ is; alone = alone })

pub line_of_misread : (text : List ℕ) (m : ℕ) → (misread.Line m ≡ misread.Memory) ⊎ ((n : ℕ) × (misread.Line m ≡ misread.Line n) × IsMisread text n) → IsMisread text m
line_of_misread text m (inl h) = cc
line_of_misread text m (inr h) = let same : m ≡ h.0 = cc (h.1) in subst (λ (n : ℕ). IsMisread text n) (sym same) h.2

-- a fault for which a text isn't played
pub unplayed : (E : Type 0) (bank : List Handler) (drawing : Drawing) (text : List ℕ) (line : ℕ) (made : Result (List ℕ) Fault) (e : Fault) (old new quiet spoken : Option (List ℕ)) (r : Result ℕ E)
    → Refuses made e → IfOk r (Writes (λ output. IsSomeAnd (fault_words e) (λ words. DrawsKind (kind_of text) bank drawing text line words output)) old new quiet spoken)
    → IfOk r (Writes (DrawsPlayed bank drawing text line made) old new quiet spoken)
unplayed E bank drawing text line made e old new quiet spoken r is w = written_as E (DrawsPlayed bank drawing text line made) old new quiet spoken (instead e) r (by e is) w
  where
    instead : Fault → Output → Type 0
    instead f output = IsSomeAnd (fault_words f) (λ words. DrawsKind (kind_of text) bank drawing text line words output)

    by : (f : Fault) → Refuses made f → (output : Output) → instead f output → DrawsPlayed bank drawing text line made output
    by Text h output o = rw h o
    by Board h output o = rw h o
    by (Step n) h output o = rw h o
    by Memory h output o = absurd o
    by Write h output o = absurd o

-- the number of a step and why it can't be made, in a line
pub step_line : (words said : List ℕ) (number : ℕ) → said ≡ words
    → codes "lab: bad step " ++ (decimal number ++ (codes ": " ++ (said ++ codes "\n"))) ≡ line_about (codes "lab") (codes "bad step " ++ (decimal number ++ (codes ": " ++ words)))
step_line words said number same =
    ap (λ (w : List ℕ). codes "lab: bad step " ++ (decimal number ++ (codes ": " ++ (w ++ codes "\n")))) same
    ∙ ap (λ (rest : List ℕ). codes "lab: bad step " ++ rest) (sym (append_assoc (decimal number) (codes ": " ++ words) (codes "\n")))

-- of a fault that has words
all_some : (words : Option (List ℕ)) (P : List ℕ → Type 0) → is_some words ≡ true → ((w : List ℕ) → P w) → IsSomeAnd words P
all_some (Some w) P some each = each w
all_some None P some each = let no = some in cc

each_some : (words : Option (List ℕ)) (P Q : List ℕ → Type 0) → ((w : List ℕ) → P w → Q w) → IsSomeAnd words P → IsSomeAnd words Q
each_some (Some w) P Q each h = each w h
each_some None P Q each h = absurd h

-- a run, by what is known of its calls
pub run_drawn : (bank : List Handler) (drawing : Drawing) (run : CallersRun) (known : Option Entered) (lines : List ℕ) (output : Output) → run.entered ≡ known → lines ≡ string_bytes run.lines
    → DrawsMade bank drawing (option_map_or (λ (k : Entered). threads bank (string_bytes k.scenario) k.counts.items) known callers) lines output → DrawsRun bank drawing run output
run_drawn bank drawing run known lines output is same h =
    subst (λ (o : Option Entered). DrawsMade bank drawing (option_map_or (λ (k : Entered). threads bank (string_bytes k.scenario) k.counts.items) o callers) (string_bytes run.lines) output) (sym is)
    (subst (λ (l : List ℕ). DrawsMade bank drawing (option_map_or (λ (k : Entered). threads bank (string_bytes k.scenario) k.counts.items) known callers) l output) same h)

-- callers are drawn
pub callers_drawn : (E : Type 0) (bank : List Handler) (drawing : Drawing) (text : List ℕ) (line : ℕ) (kind : TextKind) (e : Fault) (old new quiet spoken : Option (List ℕ)) (r : Result ℕ E)
    → is_some (fault_words e) ≡ true → kind ≡ kind_of text → kind ≡ kinds.Callers → IfOk r (Writes (DrawsCallers bank drawing text) old new quiet spoken)
    → IfOk r (Writes (λ output. IsSomeAnd (fault_words e) (λ words. DrawsKind (kind_of text) bank drawing text line words output)) old new quiet spoken)
callers_drawn E bank drawing text line kind e old new quiet spoken r some same is w =
    written_as E (λ output. IsSomeAnd (fault_words e) (λ words. DrawsKind (kind_of text) bank drawing text line words output)) old new quiet spoken (DrawsCallers bank drawing text) r
    (λ output h. all_some (fault_words e) (λ words. DrawsKind (kind_of text) bank drawing text line words output) some
    (λ words. subst (λ (k : TextKind). DrawsKind k bank drawing text line words output) (sym is ∙ same) h)) w

-- of another kind it is said what it is
said_other : (kind : TextKind) (bank : List Handler) (drawing : Drawing) (text : List ℕ) (line : ℕ) (words : List ℕ) (output : Output) → (kind ≡ kinds.Callers → ⊥)
    → output ≡ refuses 2 (undrawn_text kind line words) → DrawsKind kind bank drawing text line words output
said_other kinds.Callers bank drawing text line words output other is = absurd (other refl)
said_other kinds.Scenario bank drawing text line words output other is = is
said_other kinds.Orders bank drawing text line words output other is = is
said_other kinds.Bank bank drawing text line words output other is = is

pub others_said : (E : Type 0) (bank : List Handler) (drawing : Drawing) (text : List ℕ) (line : ℕ) (kind : TextKind) (e : Fault) (old quiet spoken : Option (List ℕ)) (r : Result ℕ E)
    → kind ≡ kind_of text → (kind ≡ kinds.Callers → ⊥) → OnOk r (IsSomeAnd (fault_words e) (λ words. Appends quiet spoken (undrawn_text kind line words))) → IfOk r (λ s. s ≡ 2)
    → IfOk r (Writes (λ output. IsSomeAnd (fault_words e) (λ words. DrawsKind (kind_of text) bank drawing text line words output)) old old quiet spoken)
others_said E bank drawing text line kind e old quiet spoken r same other says ends =
    said_of E (λ output. IsSomeAnd (fault_words e) (λ words. DrawsKind (kind_of text) bank drawing text line words output)) old quiet spoken (undrawn_text kind line) (fault_words e) r
    (λ output h. each_some (fault_words e) (λ words. output ≡ refuses 2 (undrawn_text kind line words)) (λ words. DrawsKind (kind_of text) bank drawing text line words output)
    (λ words is. subst (λ (k : TextKind). DrawsKind k bank drawing text line words output) same (said_other kind bank drawing text line words output other is)) h) says ends

-- for which part a text is
pub other_told : (kind : TextKind) (line : ℕ) (e : Fault) (quiet spoken : Option (List ℕ)) → (kind ≡ kinds.Scenario → ⊥)
    → IsSomeAnd (kinded_words kind e) (λ words. Appends quiet spoken (line_about (codes "lab") words)) → IsSomeAnd (fault_words e) (λ words. Appends quiet spoken (undrawn_text kind line words))
other_told kinds.Scenario line e quiet spoken other says = absurd (other refl)
other_told kinds.Orders line Text quiet spoken other says = says
other_told kinds.Orders line Board quiet spoken other says = says
other_told kinds.Orders line (Step n) quiet spoken other says = says
other_told kinds.Orders line Memory quiet spoken other says = says
other_told kinds.Orders line Write quiet spoken other says = says
other_told kinds.Callers line Text quiet spoken other says = says
other_told kinds.Callers line Board quiet spoken other says = says
other_told kinds.Callers line (Step n) quiet spoken other says = says
other_told kinds.Callers line Memory quiet spoken other says = says
other_told kinds.Callers line Write quiet spoken other says = says
other_told kinds.Bank line Text quiet spoken other says = says
other_told kinds.Bank line Board quiet spoken other says = says
other_told kinds.Bank line (Step n) quiet spoken other says = says
other_told kinds.Bank line Memory quiet spoken other says = says
other_told kinds.Bank line Write quiet spoken other says = says

pub others_told : {E : Type 0} (kind : TextKind) (line : ℕ) (e : Fault) (quiet spoken : Option (List ℕ)) (r : Result ℕ E) → (kind ≡ kinds.Scenario → ⊥)
    → OnOk r (IsSomeAnd (kinded_words kind e) (λ words. Appends quiet spoken (line_about (codes "lab") words)))
    → OnOk r (IsSomeAnd (fault_words e) (λ words. Appends quiet spoken (undrawn_text kind line words)))
others_told kind line e quiet spoken (Ok s) other says = other_told kind line e quiet spoken other says
others_told kind line e quiet spoken (Err x) other says = tt

-- a text in UTF-8, and another
pub of_text : (E : Type 0) (bank : List Handler) (drawing : Drawing) (bytes text : List ℕ) (old new quiet spoken : Option (List ℕ)) (r : Result ℕ E) → text ≡ bytes → is_utf8 bytes ≡ true
    → IfOk r (Writes (DrawsSome bank drawing text) old new quiet spoken) → IfOk r (Writes (DrawsIf bank (is_utf8 bytes) drawing bytes) old new quiet spoken)
of_text E bank drawing bytes text old new quiet spoken r same utf8 w =
    written_as E (DrawsIf bank (is_utf8 bytes) drawing bytes) old new quiet spoken (DrawsSome bank drawing text) r
    (λ output h. subst (λ (b : Bool). DrawsIf bank b drawing bytes output) (sym utf8) (subst (λ (t : List ℕ). DrawsSome bank drawing t output) same h)) w

pub of_no_text : (E : Type 0) (bank : List Handler) (drawing : Drawing) (bytes : List ℕ) (old quiet spoken : Option (List ℕ)) (r : Result ℕ E) → is_utf8 bytes ≡ false
    → OnOk r (Appends quiet spoken (codes "lab: the text is no UTF-8\n")) → IfOk r (λ s. s ≡ 2) → IfOk r (Writes (DrawsIf bank (is_utf8 bytes) drawing bytes) old old quiet spoken)
of_no_text E bank drawing bytes old quiet spoken r utf8 says ends =
    let text = codes "lab: the text is no UTF-8\n" in
    said E (DrawsIf bank (is_utf8 bytes) drawing bytes) old quiet spoken 2 text r (subst (λ (b : Bool). DrawsIf bank b drawing bytes (refuses 2 text)) (sym utf8) refl) says ends
