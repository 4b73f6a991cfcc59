-- The report of a scenario, and of several one after the other.
use Rattle.std.proofs.Common.{arith, Bor, length, ◌==◌, ◌≢◌, ◌≡◌, ◌∙◌, ◌⊎◌, inl, inr, ℕ, List, [], ◌∷◌, ◌++◌, append-nil, Bool, true, false, max, if◌then◌else◌, Option, Some, None, Result, Ok, Err, IfOk, OnOk, IfSome, map, find, codes, decimal, refl, sym, ap, ap₂, subst, string_bytes}
use Rattle.std.specs.Prelude.{IsSomeAnd}
use Rattle.std.specs.List.{All, concat}
use Rattle.std.specs.Option.{option_or}
use Rattle.std.specs.Io.KnownBytes.{Appends}
use Rattle.std.proofs.KnownBytes.{Appends-nil, Appends-trans}
use Rattle.std.proofs.lemmas.Bool.Decides.{eqb_tells}
use Rattle.std.proofs.lemmas.List.{map-append}
use Rattle.std.proofs.lemmas.List.Elements.{All-append, All-cons, All-map, All-nil}
use Rattle.std.proofs.lemmas.List.Folds.{concat-append, find-append}
use Rattle.evl_kernel.specs.state.States.{Handler}
use Rattle.evl_scenario.specs.declared.faults.Fault.{Fault}
use Rattle.evl_scenario.specs.declared.faults.Fault.TheVariants.{Text, Board, Step, Memory, Write}
use Rattle.evl_plans.specs.Traces.{Refuses}
use Rattle.lab_traces.specs.Lines.{Said, line_read}
use Rattle.lab_traces.specs.Says.{IsLine, IsMisread, read_of, says_of, says_some, text_of, whole_lines}
use Rattle.lab_traces.specs.declared.traces.Misread.TheVariants as misread
use Rattle.lab_traces.specs.declared.traces.TraceLine.{TraceLine}
use Rattle.lab_reports.specs.Json.{trace_json}
use Rattle.lab_kinds.specs.declared.kinds.TextKind.{TextKind}
use Rattle.lab_streams.specs.Endings.{kinded_words, line_about, words_by}
use Rattle.lab_plays.specs.Expects.{JudgesText}
use Rattle.lab_streams.specs.Readings.{IsReadOf, Reading}
use Rattle.lab_streams.specs.Texts.{is_input, names_or_input}
use Rattle.lab_plays.specs.Plays.{IsJsonOf, IsReadFrom, IsTrace, Played, PlaysEach, Tells, TellsPlayed, Told, ends_ill, says_ill, worst, TellsGiven, TellsJudged, with_judged}
use Rattle.lab_plays.specs.declared.expects.Judged.{Judged}
use Rattle.lab_streams.specs.declared.words.Telling.{Telling}

-- the texts of lines, and what they say
mapped : {X Y Z : Type 0} (g : Y → Z) (f : X → Y) (xs : List X) → map g (map f xs) ≡ map (λ x. g (f x)) xs
mapped g f [] = refl
mapped g f (x ∷ xs) = ap (λ l. g (f x) ∷ l) (mapped g f xs)

-- ---- one

-- what is reported of the one is reported of the other
pub told_as : (E : Type 0) (Is Was : Told → Type 0) (old new quiet spoken : Option (List ℕ)) (r : Result ℕ E)
    → ((told : Told) → Was told → Is told) → IfOk r (Tells Was old new quiet spoken) → IfOk r (Tells Is old new quiet spoken)
told_as E Is Was old new quiet spoken (Ok s) same t = record { told = t.told; is = same t.told t.is; prints = t.prints; says = t.says; ends = t.ends }
told_as E Is Was old new quiet spoken (Err e) same t = tt

module _ (Is : Told → Type 0) where
  -- this is printed, and this is said
  pub told : (t : Told) (old new quiet spoken : Option (List ℕ)) → Is t → Appends old new t.printed → Appends quiet spoken t.said → Tells Is old new quiet spoken t.status
  told t old new quiet spoken is prints says = record { told = t; is = is; prints = prints; says = says; ends = refl }

  -- nothing is printed
  pub only_said : (t : Told) (old quiet spoken : Option (List ℕ)) → t.printed ≡ [] → Is t → Appends quiet spoken t.said → Tells Is old old quiet spoken t.status
  only_said t old quiet spoken none is says = told t old old quiet spoken is (subst (Appends old old) (sym none) (Appends-nil old)) says

  -- of what has words, just that is said
  pub ill_told : (name : List ℕ) (words : Option (List ℕ)) (old quiet spoken : Option (List ℕ)) → ((t : Told) → IsSomeAnd words (λ w. t ≡ ends_ill name w) → Is t)
      → IsSomeAnd words (λ w. Appends quiet spoken (line_about name w)) → Tells Is old old quiet spoken 2
  ill_told name (Some w) old quiet spoken is says = only_said (ends_ill name w) old quiet spoken refl (is _ refl) says
  ill_told name None old quiet spoken is says = absurd says

  -- of a fault that has a line, just that is said
  pub told_of_line : (line : Option (List ℕ)) (old quiet spoken : Option (List ℕ)) → ((said : List ℕ) → IsSomeAnd line (λ l. said ≡ l) → Is (says_ill said))
      → IsSomeAnd line (λ l. Appends quiet spoken l) → Tells Is old old quiet spoken 2
  told_of_line (Some l) old quiet spoken is says = only_said (says_ill l) old quiet spoken refl (is l refl) says
  told_of_line None old quiet spoken is says = absurd says

-- what is judged of a text is said after it
pub judged_told : (E : Type 0) (telling : Telling) (bank : List Handler) (limit : Option ℕ) (name text : List ℕ) (old new quiet between spoken : Option (List ℕ)) (status : ℕ) (j : Judged)
    (r : Result ℕ E) → Tells (TellsGiven telling bank limit name text) old new quiet between status → JudgesText bank limit name text j → IfOk r (λ s. s ≡ max status j.status)
    → OnOk r (Appends between spoken (string_bytes j.said)) → IfOk r (Tells (TellsJudged telling bank limit name text) old new quiet spoken)
judged_told E telling bank limit name text old new quiet between spoken status j (Ok s) t judges ends says = record {
  told = with_judged t.told j;
  is = (t.told, j, t.is, judges, refl);
  prints = t.prints;
  says = Appends-trans quiet between spoken _ _ t.says says;
  ends = ends ∙ ap (λ (n : ℕ). max n j.status) t.ends;
}
judged_told E telling bank limit name text old new quiet between spoken status j (Err e) t judges ends says = tt

-- ---- several

module _ (Is : Played → Type 0) where
  pub each_none : (known old quiet : Option (List ℕ)) → PlaysEach Is [] known old old quiet quiet 0
  each_none known old quiet = record { each = []; in_order = refl; are = All-nil Is; read = tt; prints = Appends-nil old; says = Appends-nil quiet; ends = refl }

  read_one : (b : Bool) (p : Played) (known : Option (List ℕ)) → (b ≡ true → IsReadOf known p.text) → IfSome (if b then Some p else None) (λ q. IsReadOf known q.text)
  read_one true p known h = h refl
  read_one false p known h = tt

  max_zero : (n : ℕ) → n ≡ max n 0
  max_zero n = omega arith

  worst-append : (xs ys : List ℕ) → max (worst xs) (worst ys) ≡ worst (xs ++ ys)
  worst-append [] ys = omega arith
  worst-append (x ∷ xs) ys = let rest = worst-append xs ys in omega (arith, rest)

  pub each_one : (name : List ℕ) (text : Reading) (known old new quiet spoken : Option (List ℕ)) (answer : ℕ)
      → (is_input name ≡ true → IsReadOf known text) → Tells (λ told. Is (record { name = name; text = text; told = told })) old new quiet spoken answer
      → PlaysEach Is (name ∷ []) known old new quiet spoken answer
  each_one name text known old new quiet spoken answer read t =
      let p : Played = record { name = name; text = text; told = t.told } in
      record {
        each = p ∷ [];
        in_order = refl;
        are = All-cons Is p [] t.is (All-nil Is);
        read = read_one (is_input name) p known read;
        prints = subst (Appends old new) (sym (append-nil t.told.printed)) t.prints;
        says = subst (Appends quiet spoken) (sym (append-nil t.told.said)) t.says;
        ends = t.ends ∙ max_zero t.told.status;
      }

  read_more : (first second : Option Played) (known later : Option (List ℕ)) → IfSome first (λ p. IsReadOf known p.text)
      → (first ≡ None → later ≡ known) → IfSome second (λ p. IsReadOf later p.text) → IfSome (option_or first second) (λ p. IsReadOf known p.text)
  read_more (Some p) second known later h same k = h
  read_more None second known later h same k = subst (λ (o : Option (List ℕ)). IfSome second (λ p. IsReadOf o p.text)) (same refl) k

  none_both : {X : Type 0} (a b : Option X) → option_or a b ≡ None → (a ≡ None) × (b ≡ None)
  none_both None b h = (refl, h)
  none_both (Some x) b h = cc

  abbrev first_name : List (List ℕ) → List ℕ
  first_name [] = []
  first_name (name ∷ names) = name

  unfound : (b : Bool) (p : Played) (o : Option Played) → (if b then Some p else o) ≡ None → b ≡ false
  unfound true p o h = cc
  unfound false p o h = refl

  one_name : (ys : List Played) (name : List ℕ) → map (λ p. p.name) ys ≡ name ∷ [] → find (λ p. is_input p.name) ys ≡ None → is_input name ≡ false
  one_name [] name e h = cc
  one_name (y ∷ ys) name e h = subst (λ (n : List ℕ). is_input n ≡ false) (ap first_name e) (unfound (is_input y.name) y _ h)

  -- a further file after those that were played
  pub each_next : (names : List (List ℕ)) (name : List ℕ) (known later last old mid new quiet between spoken : Option (List ℕ)) (bad is_bad : ℕ)
      → (first : PlaysEach Is names known old mid quiet between bad) → (find (λ p. is_input p.name) first.each ≡ None → later ≡ known)
      → (second : PlaysEach Is (name ∷ []) later mid new between spoken is_bad) → (is_input name ≡ false → last ≡ later)
      → (all : PlaysEach Is (names ++ name ∷ []) known old new quiet spoken (max bad is_bad)) × (find (λ p. is_input p.name) all.each ≡ None → last ≡ known)
  each_next names name known later last old mid new quiet between spoken bad is_bad first same second kept =
      let xs = first.each in
      let ys = second.each in
      let found = find-append (λ (p : Played). is_input p.name) xs ys in
      let printed : Played → List ℕ = λ p. p.told.printed in
      let said : Played → List ℕ = λ p. p.told.said in
      let status : Played → ℕ = λ p. p.told.status in (
        record {
          each = xs ++ ys;
          in_order = map-append (λ (p : Played). p.name) xs ys ∙ ap₂ (λ (a b : List (List ℕ)). a ++ b) first.in_order second.in_order;
          are = All-append Is xs ys first.are second.are;
          read = subst (λ (o : Option Played). IfSome o (λ p. IsReadOf known p.text)) (sym found) (read_more _ _ known later first.read same second.read);
          prints = subst (Appends old new) (sym (ap concat (map-append printed xs ys) ∙ concat-append (map printed xs) (map printed ys))) (Appends-trans old mid new _ _ first.prints second.prints);
          says = subst (Appends quiet spoken) (sym (ap concat (map-append said xs ys) ∙ concat-append (map said xs) (map said ys))) (Appends-trans quiet between spoken _ _ first.says second.says);
          ends = ap₂ max first.ends second.ends ∙ worst-append (map status xs) (map status ys) ∙ sym (ap worst (map-append status xs ys));
        },
        λ none. let both = none_both _ _ (sym found ∙ none) in kept (one_name ys name second.in_order both.1) ∙ same both.0,
      )

  -- of a result
  pub each_file : (E : Type 0) (name : List ℕ) (text : Reading) (known old new quiet spoken : Option (List ℕ)) (r : Result ℕ E)
      → (is_input name ≡ true → IsReadOf known text) → IfOk r (Tells (λ told. Is (record { name = name; text = text; told = told })) old new quiet spoken)
      → IfOk r (PlaysEach Is (name ∷ []) known old new quiet spoken)
  each_file E name text known old new quiet spoken (Ok s) read t = each_one name text known old new quiet spoken s read t
  each_file E name text known old new quiet spoken (Err e) read t = tt

-- ---- JSON, and faults

-- what lines say that were read
pub is_trace : (text : List ℕ) (ls : List TraceLine) → map read_of ls ≡ map says_some ls → whole_lines (map text_of ls) ≡ text
    → All (λ l. IsLine (text_of l)) ls → IsTrace text (map (λ l. says_of l.says) ls)
is_trace text ls read whole apart = record {
  lines = map text_of ls;
  whole = whole;
  alone = All-map IsLine text_of ls apart;
  read = mapped line_read text_of ls ∙ read ∙ sym (mapped Some (λ l. says_of l.says) ls);
}

pub json_put : (E : Type 0) (name text : List ℕ) (said : List Said) (old new : Option (List ℕ)) (r : Result (Unit {0}) E)
    → IsTrace text said → OnOk r (Appends old new (trace_json name said)) → OnOk r ((json : List ℕ) × IsJsonOf name text json × Appends old new json)
json_put E name text said old new (Ok done) is puts = (trace_json name said, inl (said, is, refl), puts)
json_put E name text said old new (Err e) is puts = tt

pub no_json : (name text : List ℕ) (m : ℕ) (old : Option (List ℕ)) → (misread.Line m ≡ misread.Memory) ⊎ ((n : ℕ) × (misread.Line m ≡ misread.Line n) × IsMisread text n)
    → (json : List ℕ) × IsJsonOf name text json × Appends old old json
no_json name text m old (inl h) = cc
no_json name text m old (inr h) = ([], inr (h.0, h.2, refl), Appends-nil old)

-- a fault for which a text is refused
pub fault_told : (telling : Telling) (name : List ℕ) (kind : TextKind) (trace : Result (List ℕ) Fault) (e : Fault) (old quiet spoken : Option (List ℕ))
    → Refuses trace e → IsSomeAnd (kinded_words kind e) (λ words. Appends quiet spoken (line_about name words)) → Tells (TellsPlayed telling name kind trace) old old quiet spoken 2
fault_told telling name kind trace Text old quiet spoken refuses says =
    rw refuses (only_said (TellsPlayed telling name kind (Err Text)) (ends_ill name (words_by kind (codes "bad text"))) old quiet spoken refl refl says)
fault_told telling name kind trace Board old quiet spoken refuses says =
    rw refuses (only_said (TellsPlayed telling name kind (Err Board)) (ends_ill name (words_by kind (codes "bad board"))) old quiet spoken refl refl says)
fault_told telling name kind trace (Step n) old quiet spoken refuses says =
    rw refuses (only_said (TellsPlayed telling name kind (Err (Step n))) (ends_ill name (words_by kind (codes "bad step " ++ decimal n))) old quiet spoken refl refl says)
fault_told telling name kind trace Memory old quiet spoken refuses says = absurd says
fault_told telling name kind trace Write old quiet spoken refuses says = absurd refuses

-- ---- names

pub is_zero : (n : ℕ) → true ≡ (n == 0) → n ≡ 0
is_zero n h = by (eqb_tells n 0)
  where
    by : ((n == 0) ≡ true) × (n ≡ 0) ⊎ ((n == 0) ≡ false) × (n ≢ 0) → n ≡ 0
    by (inl t) = t.1
    by (inr f) = let both : true ≡ false = h ∙ f.0 in cc

pub isnt_zero : (n : ℕ) → false ≡ (n == 0) → n ≢ 0
isnt_zero n h = by (eqb_tells n 0)
  where
    by : ((n == 0) ≡ true) × (n ≡ 0) ⊎ ((n == 0) ≡ false) × (n ≢ 0) → n ≢ 0
    by (inl t) = let both : false ≡ true = h ∙ t.0 in absurd (cc)
    by (inr f) = f.1

pub no_names : (files : List (Bor (List ℕ))) → true ≡ (length files == 0) → names_or_input (map (λ file. file.now) files) ≡ codes "-" ∷ []
no_names [] h = refl
no_names (file ∷ files) h = let none : length (file ∷ files) ≡ 0 = is_zero _ h in absurd (omega (arith, none))

pub some_names : (files : List (Bor (List ℕ))) → false ≡ (length files == 0) → names_or_input (map (λ file. file.now) files) ≡ map (λ file. file.now) files
some_names [] h = absurd (isnt_zero _ h refl)
some_names (file ∷ files) h = refl
