-- The answers of a driven machine, line by line and part by part of the input.
use Rattle.std.proofs.Common.{◌≡◌, ◌∙◌, ◌⊎◌, inl, inr, ℕ, ◌≤◌, List, [], ◌∷◌, ◌++◌, append-nil, append_assoc, length, Bool, true, false, Option, Some, None, Result, Ok, Err, IfOk, OnOk, option_map, refl, sym, ap, subst}
use Rattle.std.specs.Prelude.{IsSomeAnd, codes, is_ok}
use Rattle.std.specs.Io.KnownBytes.{Appends}
use Rattle.std.proofs.KnownBytes.{Appends-trans}
use Rattle.std.proofs.lemmas.List.{append_cancel_left}
use Rattle.std.proofs.lemmas.List.Elements.{All-append, All-cons, All-nil}
use Rattle.evl_kernel.specs.histories.Histories.{History}
use Rattle.evl_kernel.specs.state.States.{Handler}
use Rattle.evl_scenario.specs.Lines.{line_feed}
use Rattle.evl_scenario.specs.Scenarios.{Script, scenario_of}
use Rattle.evl_scenario.specs.Traces.{history_trace}
use Rattle.evl_scenario.specs.Writings.{script_of_history}
use Rattle.evl_scenario.specs.declared.faults.Fault.{Fault}
use Rattle.evl_scenario.specs.declared.faults.Fault.TheVariants.{Memory}
use Rattle.evl_scenario.specs.declared.steps.Step.{Step}
use Rattle.lab_traces.specs.Parts.{Lacks}
use Rattle.lab_traces.specs.Says.{whole_lines}
use Rattle.lab_faults.specs.Steps.{as_text}
use Rattle.lab_live.specs.Answers.{Answers, Does, TellsScenario, TellsUnwritten, Undoes, comment_text, may_call, may_change, path_behind, script_of, trimmed}
use Rattle.lab_live.specs.Helps.{help_text, word_help}
use Rattle.lab_lines.specs.Lines.{step_of_line}
use Rattle.lab_live.specs.Sessions.{Driven, TellsEntry, TellsFull, all_but_last}
use Rattle.lab_live.specs.States.{state_text}
use Rattle.lab_live.specs.Wholes.{whole_text}
use Rattle.lab_kinds.specs.Kinds.{kind_of}
use Rattle.lab_kinds.specs.declared.kinds.TextKind.{TextKind}
use Rattle.lab_streams.specs.Endings.{kinded_words, line_about}
use Rattle.lab_lines.specs.Kinds.{IsPlain}
use Rattle.lab_drives.specs.Writings.{AnswersLine, AnswersOther, DrawsOr, WritesFile, WritesPicture, unwritten_text, written_text}
use Rattle.lab_drives.specs.Lives.{AnswersAll, AnswersEach, AnswersInput, Drives, DrivesGiven, DrivesText, DrivesUnlessRefused, Hears, Lives, SaysUndriven, SaysUnopened, default_text}
use Rattle.lab_streams.specs.Readings.{most_bytes}
use Rattle.lab_streams.specs.declared.texts.Unread.{Unread}
use Rattle.lab_streams.specs.declared.words.Driving.{Driving}
use Rattle.lab_streams.specs.Outputs.{Output, Writes, prints, refuses}
use Rattle.lab_streams.specs.Texts.{IsAllOf}
use Rattle.lab_streams.proofs.OutputLemmas.{told_kinded}

-- ---- what holds where all went well

pub on_ok : {T E : Type 0} (r : Result T E) (P Q : Type 0) → (P → Q) → OnOk r P → OnOk r Q
on_ok (Ok x) P Q f p = f p
on_ok (Err e) P Q f p = tt

-- ---- what is printed after a text, by itself

entry_behind : (old new : History) (step : Step) (before after answer : List ℕ) → after ≡ before ++ answer → TellsEntry old new step before after → TellsEntry old new step [] answer
entry_behind old new step before after answer is t = record {
  entry = t.entry;
  plays = t.plays;
  asked = t.asked;
  entries_are = t.entries_are;
  plays_are = t.plays_are;
  counted = t.counted;
  told = append_cancel_left before answer _ (sym is ∙ t.told);
}

full_behind : (old new : Driven) (step : Step) (before after answer : List ℕ) → after ≡ before ++ answer → TellsFull old new step before after → TellsFull old new step [] answer
full_behind old new step before after answer is t = record { same = t.same; told = append_cancel_left before answer _ (sym is ∙ t.told) }

does_behind : (old new : Driven) (step : Option Step) (before after answer : List ℕ) → after ≡ before ++ answer → Does old new step before after → Does old new step [] answer
does_behind old new (Some step) before after answer is m = record {
  entry = λ more. entry_behind old.history new.history step before after answer is (m.entry more);
  full = λ full. full_behind old new step before after answer is (m.full full);
}
does_behind old new None before after answer is same = same

unwritten_behind : (script : Script) (before after answer : List ℕ) → after ≡ before ++ answer → TellsUnwritten script before after → TellsUnwritten script [] answer
unwritten_behind script before after answer is (inl long) = inl (long.0, append_cancel_left before answer _ (sym is ∙ long.1))
unwritten_behind script before after answer is (inr none) = inr (none.0, append_cancel_left before answer _ (sym is ∙ none.1))

scenario_behind : (script : Script) (before after answer : List ℕ) → after ≡ before ++ answer → TellsScenario script before after → TellsScenario script [] answer
scenario_behind script before after answer is (inl told) = inl (append_cancel_left before answer _ (sym is ∙ told))
scenario_behind script before after answer is (inr why) = inr (unwritten_behind script before after answer is why)

undoes_behind : (old new : Driven) (before after answer : List ℕ) → after ≡ before ++ answer → Undoes old new before after → Undoes old new [] answer
undoes_behind old new before after answer is (inl (back, told)) = inl (back, append_cancel_left before answer _ (sym is ∙ told))
undoes_behind old new before after answer is (inr (same, inl (none, told))) = inr (same, inl (none, append_cancel_left before answer _ (sym is ∙ told)))
undoes_behind old new before after answer is (inr (same, inr why)) = inr (same, inr (unwritten_behind (script_of_history old.board old.limit (all_but_last old.history.entries)) before after answer is why))

-- a line that was answered after other answers
pub line_answered : (line : List ℕ) (old new : Driven) (before after : List ℕ) (a : Answers old new before after)
    → (may_call (trimmed line) ≡ true → Does old new (step_of_line (trimmed line)) before after) → (may_change (trimmed line) ≡ false → new ≡ old)
    → (trimmed line ≡ codes "undo" → Undoes old new before after)
    → (trimmed line ≡ [] → after ≡ before) → ((rest : List ℕ) → trimmed line ≡ 35 ∷ rest → after ≡ before ++ comment_text (trimmed line))
    → (trimmed line ≡ codes "scenario" → TellsScenario (script_of old) before after) → (trimmed line ≡ codes "ps" → after ≡ before ++ state_text old)
    → (trimmed line ≡ codes "ps all" → after ≡ before ++ whole_text old) → (trimmed line ≡ codes "?" → after ≡ before ++ help_text)
    → (trimmed line ≡ codes "help" → after ≡ before ++ help_text)
    → ((word : List ℕ) → trimmed line ≡ 63 ∷ 32 ∷ word → after ≡ before ++ word_help (as_text word))
    → AnswersOther line old new a.lines
line_answered line old new before after a asked stays undone none comment scenario state whole sign help word_is =
    let own : (text : List ℕ) → after ≡ before ++ text → a.lines ≡ text = λ text is. append_cancel_left before a.lines text (sym a.told ∙ is) in
    record {
      goes_on = a.goes_on;
      asked = λ may. does_behind old new _ before after a.lines a.told (asked may);
      stays = stays;
      undone = λ is. undoes_behind old new before after a.lines a.told (undone is);
      none = λ is. own [] (none is ∙ sym (append-nil before));
      comment = λ rest is. own _ (comment rest is);
      scenario = λ is. scenario_behind (script_of old) before after a.lines a.told (scenario is);
      state = λ is. own _ (state is);
      whole = λ is. own _ (whole is);
      sign = λ is. own _ (sign is);
      help = λ is. own _ (help is);
      word = λ word is. own _ (word_is word is);
    }

-- ---- lines that write a file

unwritten_told : (script : Script) (before after : List ℕ) → TellsUnwritten script before after → (answer : List ℕ) × TellsUnwritten script [] answer × (after ≡ before ++ answer)
unwritten_told script before after (inl (long, told)) = (_, inl (long, refl), told)
unwritten_told script before after (inr (none, told)) = (_, inr (none, refl), told)

file_told : (path : List ℕ) (pages : ℕ) (before after : List ℕ) → WritesFile path pages before after → (answer : List ℕ) × WritesFile path pages [] answer × (after ≡ before ++ answer)
file_told path pages before after (inl told) = (written_text path pages, inl refl, told)
file_told path pages before after (inr told) = (unwritten_text path, inr refl, told)

picture_told : (bank : List Handler) (script : Script) (path before after : List ℕ) → WritesPicture bank script path before after
    → (answer : List ℕ) × WritesPicture bank script path [] answer × (after ≡ before ++ answer)
picture_told bank script path before after (inl (pictured, is, file)) =
    let (answer, writes, told) = file_told path pictured.pages before after file in (answer, inl (pictured, is, writes), told)
picture_told bank script path before after (inr why) = let (answer, writes, told) = unwritten_told script before after why in (answer, inr writes, told)

-- a line by which a picture is drawn
pub drawn_answered : (line : List ℕ) (s : Driven) (path before after : List ℕ) → path_behind (codes "draw ") (trimmed line) ≡ Some path
    → WritesPicture s.history.bank (script_of s) path before after → (answer : List ℕ) × AnswersLine line s s answer × (after ≡ before ++ answer)
drawn_answered line s path before after is writes =
    let (answer, own, told) = picture_told s.history.bank (script_of s) path before after writes in
    (answer, subst (λ (o : Option (List ℕ)). DrawsOr o line s s answer) (sym is) (refl, own), told)

-- ---- lines

whole_more : (xs ys : List (List ℕ)) → whole_lines (xs ++ ys) ≡ whole_lines xs ++ whole_lines ys
whole_more [] ys = refl
whole_more (x ∷ xs) ys =
    ap (λ (l : List ℕ). x ++ (line_feed ++ l)) (whole_more xs ys) ∙ sym (append_assoc x (line_feed ++ whole_lines xs) (whole_lines ys))

each_append : (xs ys : List (List ℕ)) (old mid new : Driven) (a b : List ℕ) → AnswersEach xs old mid a → AnswersEach ys mid new b → AnswersEach (xs ++ ys) old new (a ++ b)
each_append [] ys old mid new a b h k = rw h.1 (subst (λ (s : Driven). AnswersEach ys s new b) h.0 k)
each_append (x ∷ xs) ys old mid new a b h k =
    (h.0, h.1, h.2 ++ b, h.3, each_append xs ys h.0 mid new h.2 b h.4 k, ap (λ (l : List ℕ). l ++ b) h.5 ∙ append_assoc h.1 h.2 b)

each_one : (line : List ℕ) (old new : Driven) (answer : List ℕ) → AnswersLine line old new answer → AnswersEach (line ∷ []) old new answer
each_one line old new answer h = (new, answer, [], h, (refl, refl), sym (append-nil answer))

-- ---- bytes

-- a line feed after the line that waits, which is answered
pub heard_line : (line : List ℕ) (byte : ℕ) (old new : Driven) (answer : List ℕ) → Lacks 10 line → byte ≡ 10 → AnswersLine line old new answer → Hears (byte ∷ []) line [] old new answer
heard_line line byte old new answer lacks is h = record {
  lines = line ∷ [];
  whole = rw is (append-nil (line ++ line_feed));
  alone = All-cons (Lacks 10) line [] lacks (All-nil (Lacks 10));
  answered = each_one line old new answer h;
}

-- no bytes, and bytes after others
pub heard_none : (line : List ℕ) (s : Driven) → Hears [] line line s s []
heard_none line s = record { lines = []; whole = sym (append-nil line); alone = All-nil (Lacks 10); answered = (refl, refl) }

pub heard_more : (a b before mid after : List ℕ) (old s new : Driven) (x y : List ℕ) → Hears a before mid old s x → Hears b mid after s new y
    → Hears (a ++ b) before after old new (x ++ y)
heard_more a b before mid after old s new x y first second =
    let one = whole_lines first.lines in
    record {
      lines = first.lines ++ second.lines;
      whole = ap (λ (l : List ℕ). l ++ after) (whole_more first.lines second.lines) ∙ append_assoc one (whole_lines second.lines) after ∙ ap (λ (l : List ℕ). one ++ l) second.whole
          ∙ sym (append_assoc one mid b) ∙ ap (λ (l : List ℕ). l ++ b) first.whole ∙ append_assoc before a b;
      alone = All-append (Lacks 10) first.lines second.lines first.alone second.alone;
      answered = each_append first.lines second.lines old s new x y first.answered second.answered;
    }

-- ---- the input

-- all lines, with the last one
pub all_answered : (bytes waiting : List ℕ) (old mid new : Driven) (x y : List ℕ) → Hears bytes [] waiting old mid x → Lacks 10 waiting → AnswersLine waiting mid new y
    → AnswersAll bytes old new (x ++ y)
all_answered bytes waiting old mid new x y h lacks line = record {
  lines = h.lines;
  last = waiting;
  whole = h.whole;
  alone = All-append (Lacks 10) h.lines (waiting ∷ []) h.alone (All-cons (Lacks 10) waiting [] lacks (All-nil (Lacks 10)));
  answered = each_append h.lines (waiting ∷ []) old mid new x y h.answered (each_one waiting mid new y line);
}

-- the last line after the others
pub input_answered : (known : Option (List ℕ)) (bytes waiting line : List ℕ) (old mid new : Driven) (x : List ℕ) (start between end : Option (List ℕ)) → line ≡ waiting
    → IsAllOf known bytes → Hears bytes [] waiting old mid x → Lacks 10 waiting → Appends start between x
    → ((answer : List ℕ) × AnswersLine line mid new answer × Appends between end answer) → (answers : List ℕ) × AnswersInput known old new answers × Appends start end answers
input_answered known bytes waiting line old mid new x start between end same all h lacks first last =
    let answered : AnswersLine waiting mid new last.0 = subst (λ (l : List ℕ). AnswersLine l mid new last.0) same last.1 in (
      x ++ last.0,
      record { bytes = bytes; all_of = all; all = all_answered bytes waiting old mid new x last.0 h lacks answered },
      Appends-trans start between end x last.0 first last.2,
    )

-- the answers after the trace
pub machine_driven : (known : Option (List ℕ)) (start end : Driven) (old mid new : Option (List ℕ))
    → Appends old mid (history_trace start.board start.limit start.history.entries start.history.plays)
    → ((answers : List ℕ) × AnswersInput known start end answers × Appends mid new answers) → (output : Output) × Drives known start output × Appends old new output.printed
machine_driven known start end old mid new first h =
    let trace = history_trace start.board start.limit start.history.entries start.history.plays in
    (prints (trace ++ h.0), record { end = end; answers = h.0; answered = h.1; output_is = refl }, Appends-trans old mid new trace h.0 first h.2)

-- a text for which there is no machine
pub undriven : (E : Type 0) (bank : List Handler) (limit : Option ℕ) (known : Option (List ℕ)) (text : List ℕ) (kind : TextKind) (fault : Fault) (old quiet spoken : Option (List ℕ)) (was : Result Bool E)
    (r : Result ℕ E) → kind ≡ kind_of text → (fault ≡ Memory) ⊎ (scenario_of limit text ≡ Err fault)
    → OnOk was (IsSomeAnd (kinded_words kind fault) (λ words. Appends quiet spoken (line_about (codes "lab") words))) → IfOk r (λ s. (s ≡ 2) × (is_ok was ≡ true))
    → IfOk r (Writes (DrivesText bank limit known text) old old quiet spoken)
undriven E bank limit known text kind fault old quiet spoken was r same is says ends =
    told_kinded E (DrivesText bank limit known text) old quiet spoken (codes "lab") kind (kind_of text) fault was r same (λ output h. by is output h) says ends
  where
    by : (fault ≡ Memory) ⊎ (scenario_of limit text ≡ Err fault) → (output : Output) → IsSomeAnd (kinded_words (kind_of text) fault) (λ words. output ≡ refuses 2 (line_about (codes "lab") words))
        → DrivesText bank limit known text output
    by (inl is) output h = absurd (subst (λ (f : Fault). IsSomeAnd (kinded_words (kind_of text) f) (λ words. output ≡ refuses 2 (line_about (codes "lab") words))) is h)
    by (inr is) output h = inr (fault, is, h)

-- ---- what is given for a text

pub given_read : (E : Type 0) (driving : Driving) (given plain : List ℕ) (known old new quiet spoken : Option (List ℕ)) (r : Result ℕ E) → IsPlain given plain
    → IfOk r (DrivesUnlessRefused driving plain known old new quiet spoken) → IfOk r (DrivesGiven driving given known old new quiet spoken)
given_read E driving given plain known old new quiet spoken (Ok s) is drives = inl (plain, is, drives)
given_read E driving given plain known old new quiet spoken (Err e) is drives = tt

pub given_unread : (E : Type 0) (driving : Driving) (given : List ℕ) (known old new quiet spoken : Option (List ℕ)) (r : Result ℕ E)
    → IfOk r (Writes (SaysUndriven given) old new quiet spoken) → IfOk r (DrivesGiven driving given known old new quiet spoken)
given_unread E driving given known old new quiet spoken (Ok s) says = inr says
given_unread E driving given known old new quiet spoken (Err e) says = tt

-- of a file
of_plain : (driving : Driving) (path given plain : List ℕ) (known old new quiet spoken : Option (List ℕ)) (s : ℕ) → length given ≤ most_bytes → IsPlain given plain
    → DrivesUnlessRefused driving plain known old new quiet spoken s → Lives (option_map (λ file. file.now) driving.bank) (Some path) driving.limit known old new quiet spoken s
of_plain driving path given plain known old new quiet spoken s few is (inl refuses) = inl refuses
of_plain driving path given plain known old new quiet spoken s few is (inr drives) = inr (inl (plain, (given, few, is), drives))

of_given : (driving : Driving) (path given : List ℕ) (known old new quiet spoken : Option (List ℕ)) (s : ℕ) → length given ≤ most_bytes → DrivesGiven driving given known old new quiet spoken s
    → Lives (option_map (λ file. file.now) driving.bank) (Some path) driving.limit known old new quiet spoken s
of_given driving path given known old new quiet spoken s few (inl d) = of_plain driving path given d.0 known old new quiet spoken s few d.1 d.2
of_given driving path given known old new quiet spoken s few (inr says) = inr (inr (inr (refl, given, few, says)))

pub file_given : (E : Type 0) (driving : Driving) (path given : List ℕ) (known old new quiet spoken : Option (List ℕ)) (r : Result ℕ E) → length given ≤ most_bytes
    → IfOk r (DrivesGiven driving given known old new quiet spoken)
    → IfOk r (Lives (option_map (λ file. file.now) driving.bank) (Some path) driving.limit known old new quiet spoken)
file_given E driving path given known old new quiet spoken (Ok s) few drives = of_given driving path given known old new quiet spoken s few drives
file_given E driving path given known old new quiet spoken (Err e) few drives = tt

-- of a file that isn't read
pub file_unread : (E : Type 0) (driving : Driving) (path : List ℕ) (why : Unread) (known old new quiet spoken : Option (List ℕ)) (r : Result ℕ E)
    → IfOk r (Writes (SaysUnopened path why) old new quiet spoken)
    → IfOk r (Lives (option_map (λ file. file.now) driving.bank) (Some path) driving.limit known old new quiet spoken)
file_unread E driving path why known old new quiet spoken (Ok s) says = inr (inr (inl (path, refl, why, says)))
file_unread E driving path why known old new quiet spoken (Err e) says = tt

-- without a file
of_default : (driving : Driving) (text : List ℕ) (known old new quiet spoken : Option (List ℕ)) (s : ℕ) → text ≡ default_text
    → DrivesUnlessRefused driving text known old new quiet spoken s → Lives (option_map (λ file. file.now) driving.bank) None driving.limit known old new quiet spoken s
of_default driving text known old new quiet spoken s is (inl refuses) = inl refuses
of_default driving text known old new quiet spoken s is (inr drives) = inr (inl (text, is, drives))

pub no_file : (E : Type 0) (driving : Driving) (text : List ℕ) (known old new quiet spoken : Option (List ℕ)) (r : Result ℕ E) → text ≡ default_text
    → IfOk r (DrivesUnlessRefused driving text known old new quiet spoken)
    → IfOk r (Lives (option_map (λ file. file.now) driving.bank) None driving.limit known old new quiet spoken)
no_file E driving text known old new quiet spoken (Ok s) is drives = of_default driving text known old new quiet spoken s is drives
no_file E driving text known old new quiet spoken (Err e) is drives = tt
