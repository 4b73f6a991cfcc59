-- Texts with others between them, what lines ask, and why one asks nothing.
use Rattle.std.proofs.Common.{All, Bor, Result, Ok, Err, IfOk, IfErr, append_assoc, inl, inr, ◌≡◌, ◌⊎◌, ℕ, Bool, true, false, ◌&&◌, List, [], ◌∷◌, ◌++◌, length, drop, get_or, zero, suc, ◌+◌, ◌-◌, ◌<◌, ◌≤◌, map, Option, Some, None, option_map, refl, sym, ◌∙◌, ap, subst, arith, add-one, append-nil}
use Rattle.std.specs.Prelude.{IsSomeAnd, codes, is_some, slice_get, string_bytes, unwrap_or}
use Rattle.std.proofs.lemmas.List.{append_cancel_left, append_cancel_right, drop_all, map-append}
use Rattle.std.proofs.lemmas.List.Elements.{All-push, All-same}
use Rattle.std.proofs.lemmas.List.Folds.{list_all-append}
use Rattle.evl_base.specs.declared.board.Board.{Board}
use Rattle.lab_scenario_orders.specs.declared.asks.AskFault.{AskFault}
use Rattle.lab_scenario_orders.specs.declared.asks.AskFault.TheVariants as ask
use Rattle.lab_scenario_orders.specs.declared.watches.Watch.{Watch}
use Rattle.lab_scenario_orders.specs.declared.watches.When.{When}
use Rattle.lab_scenario_orders.specs.Splits.{is_asked}
use Rattle.lab_step_orders.specs.declared.watches.StepWatch.{StepWatch}
use Rattle.lab_step_texts.specs.Asks.{IsUnaskedFor, IsWhyJoined, are_none}
use Rattle.lab_step_texts.specs.Questions.{AreAsked, AreOn, IsLineFault, IsListed, IsNoFacts, IsOne, IsParted, IsUnasked, IsUnlisted, IsUnread, IsUnreadAt, IsUnreadIn, IsUnreadOf, IsWithout, LineAsks, are_there, joined_by, line_fault, names_there, unasked_part, value_set, when_asked, when_set}
use Rattle.lab_step_texts.specs.declared.faults.StepsFault.{StepsFault}
use Rattle.lab_step_texts.specs.declared.faults.StepsFault.TheVariants.{Text, Mixed, Mutex, Limit, Step, WhatIf, Lasts, Question, Facts, Lacking}
use Rattle.lab_step_texts.specs.Near.{near_word}
use Rattle.lab_step_texts.specs.declared.questions.NotAsked.{NotAsked}
use Rattle.lab_step_texts.specs.declared.questions.NotAsked.TheVariants as not_asked

joined_more : (between : List ℕ) (done : List (List ℕ)) (one rest : List ℕ) → joined_by between (done ++ one ∷ (rest ∷ [])) ≡ joined_by between (done ++ (one ++ (between ++ rest)) ∷ [])
joined_more between [] one rest = refl
joined_more between (first ∷ []) one rest = refl
joined_more between (first ∷ (next ∷ done)) one rest = ap (λ text. first ++ (between ++ text)) (joined_more between (next ∷ done) one rest)

-- the parts that a loop has, and one more
pub parts_more : (between : List ℕ) (done all : List (Bor (List ℕ))) (one : Bor (List ℕ)) (rest behind text : List ℕ) → all ≡ done ++ one ∷ [] → rest ≡ one.now ++ (between ++ behind)
    → joined_by between (map (λ one. one.now) done ++ rest ∷ []) ≡ text → joined_by between (map (λ one. one.now) all ++ behind ∷ []) ≡ text
parts_more between done all one rest behind text more split before =
    let texts : List (Bor (List ℕ)) → List (List ℕ) = λ l. map (λ (one : Bor (List ℕ)). one.now) l in
    ap (λ (l : List (Bor (List ℕ))). joined_by between (texts l ++ behind ∷ [])) more
    ∙ (ap (λ (l : List (List ℕ)). joined_by between (l ++ behind ∷ [])) (map-append (λ (one : Bor (List ℕ)). one.now) done (one ∷ []))
    ∙ (ap (λ (l : List (List ℕ)). joined_by between l) (append_assoc (texts done) (one.now ∷ []) (behind ∷ []))
    ∙ (joined_more between (texts done) one.now behind
    ∙ (ap (λ (t : List ℕ). joined_by between (texts done ++ t ∷ [])) (sym split) ∙ before))))

pub without_more : (between : List ℕ) (done all : List (Bor (List ℕ))) (one : Bor (List ℕ)) → all ≡ done ++ one ∷ [] → IsWithout between one.now
    → All (IsWithout between) (map (λ one. one.now) done) → All (IsWithout between) (map (λ one. one.now) all)
without_more between done all one more single before =
    All-same (IsWithout between) (map (λ (one : Bor (List ℕ)). one.now) all) (map (λ (one : Bor (List ℕ)). one.now) done ++ one.now ∷ [])
    (ap (λ (l : List (Bor (List ℕ))). map (λ one. one.now) l) more ∙ map-append (λ (one : Bor (List ℕ)). one.now) done (one ∷ []))
    (All-push (IsWithout between) (map (λ one. one.now) done) one.now before single)

pub parted_at_last : (between text : List ℕ) (done all : List (Bor (List ℕ))) (rest : Bor (List ℕ)) → all ≡ done ++ rest ∷ []
    → joined_by between (map (λ one. one.now) done ++ rest.now ∷ []) ≡ text → All (IsWithout between) (map (λ one. one.now) done) → IsWithout between rest.now
    → IsParted between text (map (λ one. one.now) all)
parted_at_last between text done all rest more written before single = record {
  written = ap (λ (l : List (Bor (List ℕ))). joined_by between (map (λ one. one.now) l)) more
      ∙ (ap (λ (l : List (List ℕ)). joined_by between l) (map-append (λ (one : Bor (List ℕ)). one.now) done (rest ∷ [])) ∙ written);
  single = without_more between done all rest more single before;
}

-- what a line asks more
pub asked_more : (was : Bool) (line : List ℕ) (rest whole : List (List ℕ)) (all next now : List StepWatch) → next ≡ all ++ now → LineAsks (when_asked (is_asked was line) line) line now
    → ((later : List StepWatch) → AreAsked was (line ∷ rest) later → AreAsked false whole (all ++ later))
    → (later : List StepWatch) → AreAsked (is_asked was line) rest later → AreAsked false whole (next ++ later)
asked_more was line rest whole all next now more asks before later behind =
    subst (λ (l : List StepWatch). AreAsked false whole l) (sym (ap (λ (l : List StepWatch). l ++ later) more ∙ append_assoc all now later))
    (before (now ++ later) (now, later, refl, asks, behind))

drop_one : {A : Type 0} (xs : List A) (i : ℕ) (d : A) → i < length xs → drop i xs ≡ get_or xs i d ∷ drop (suc i) xs
drop_one [] i d lt = absurd (omega arith)
drop_one (x ∷ xs) zero d lt = refl
drop_one (x ∷ xs) (suc i) d lt = drop_one xs i d (omega arith)

-- what a loop asks, and its next line more
pub asked_next : {A : Type 0} (f : A → List ℕ) (lines : List A) (i : ℕ) (d : A) (was is : Bool) (o : Option When) (all next : List StepWatch) → i < length lines
    → is ≡ is_asked was (f (get_or lines i d)) → o ≡ when_asked is (f (get_or lines i d)) → (now : List StepWatch) × (next ≡ all ++ now) × LineAsks o (f (get_or lines i d)) now
    → ((later : List StepWatch) → AreAsked was (map f (drop i lines)) later → AreAsked false (map f lines) (all ++ later))
    → (later : List StepWatch) → AreAsked is (map f (drop (i + 1) lines)) later → AreAsked false (map f lines) (next ++ later)
asked_next {A} f lines i d was is o all next lt same at line before later behind =
    let x = get_or lines i d in
    let rest = drop (suc i) lines in
    let asks = subst (λ (b : Bool). LineAsks (when_asked b (f x)) (f x) line.0) same (subst (λ (w : Option When). LineAsks w (f x) line.0) at line.2) in
    let here = subst (λ (l : List A). (later : List StepWatch) → AreAsked was (map f l) later → AreAsked false (map f lines) (all ++ later)) (drop_one lines i d lt) before in
    let more = subst (λ (n : ℕ). AreAsked is (map f (drop n lines)) later) (add-one i) behind in
    asked_more was (f x) (map f rest) (map f lines) all next line.0 line.1 asks here later (subst (λ (b : Bool). AreAsked b (map f rest) later) same more)

pub asked_whole : {A : Type 0} (f : A → List ℕ) (lines : List A) (i : ℕ) (is : Bool) (all : List StepWatch) → length lines ≤ i
    → ((later : List StepWatch) → AreAsked is (map f (drop i lines)) later → AreAsked false (map f lines) (all ++ later)) → AreAsked false (map f lines) all
asked_whole {A} f lines i is all le before =
    subst (λ (l : List StepWatch). AreAsked false (map f lines) l) (append-nil all)
    (before [] (subst (λ (l : List A). AreAsked is (map f l) []) (sym (drop_all i lines le)) refl))

-- the board has what these name, and what those do
pub there_next : (board : Board) (all next now : List StepWatch) → next ≡ all ++ now → are_there board all ≡ true → are_there board now ≡ true → are_there board next ≡ true
there_next board all next now more there here =
    ap (λ (l : List StepWatch). are_there board l) more
    ∙ (list_all-append (names_there board) all now
    ∙ (ap (λ (b : Bool). b && are_there board now) there ∙ here))

-- ---- why a line asks nothing

no_way : {A : Type 0} → false ≡ true → A
no_way e = cc

one_at : {A : Type 0} (f : A → List ℕ) (lines : List A) (i : ℕ) (d : A) → i < length lines → slice_get (map f lines) i ≡ Some (f (get_or lines i d))
one_at f [] i d lt = absurd (omega arith)
one_at f (x ∷ xs) zero d lt = refl
one_at f (x ∷ xs) (suc i) d lt = one_at f xs i d (omega arith)

line_at : {A : Type 0} (f : A → List ℕ) (lines : List A) (i : ℕ) (d : A) (n : ℕ) → i < length lines → n ≡ i + 1 → slice_get (map f lines) (n - 1) ≡ Some (f (get_or lines i d))
line_at f lines i d n lt is =
    let at : n - 1 ≡ i = omega (arith, is) in
    ap (λ (k : ℕ). slice_get (map f lines) k) at ∙ one_at f lines i d lt

set_so : (is : Bool) (line : List ℕ) (o : Option When) → o ≡ when_asked is line → is_some o ≡ true → is_some (when_set line) ≡ true
set_so true line o at some = subst (λ (w : Option When). is_some w ≡ true) at some
set_so false line o at some = no_way (subst (λ (w : Option When). is_some w ≡ true) at some)

lacks_so : (is : Bool) (line : List ℕ) (o : Option When) (board : Board) (watches : List StepWatch) → o ≡ when_asked is line → LineAsks o line watches → are_there board watches ≡ false
    → LineAsks (when_set line) line watches
lacks_so true line o board watches at asks lacks = subst (λ (w : Option When). LineAsks w line watches) at asks
lacks_so false line o board watches at asks lacks =
    let none : watches ≡ [] = subst (λ (w : Option When). LineAsks w line watches) at asks in
    no_way (sym (subst (λ (l : List StepWatch). are_there board l ≡ false) none lacks))

when_so : (is : Bool) (line : List ℕ) (o : Option When) (when : When) → o ≡ when_asked is line → o ≡ Some when → when_set line ≡ Some when
when_so true line o when at e = sym at ∙ e
when_so false line o when at e = no_way (ap (λ (w : Option When). is_some w) (sym at ∙ e))

-- so of the text in a loop
pub unread_at : {A : Type 0} (f : A → List ℕ) (texts : List A) (i : ℕ) (d : A) (why : NotAsked) → i < length texts → IsUnread (i + 1) (f (get_or texts i d)) why → IsUnreadOf (map f texts) why
unread_at f texts i d not_asked.Value lt h = absurd h
unread_at f texts i d (not_asked.Text n meant) lt h =
    subst (λ (l : Option (List ℕ)). IsSomeAnd l (λ text. IsNoFacts text × (option_map (λ word. word.now) meant ≡ near_word text))) (sym (line_at f texts i d n lt h.0)) (h.1, h.2)
unread_at f texts i d not_asked.Memory lt h = tt

-- texts in a list
pub listed_asked : {A E : Type 0} (r : Result A E) (items : A → List StepWatch) (when : When) (texts : List (List ℕ)) (text : List ℕ) → joined_by (codes "\", \"") texts ≡ text
    → IfOk r (λ a. map (λ watch. string_bytes watch.text) (items a) ≡ texts) → IfOk r (λ a. All (IsOne when) (items a))
    → IfOk r (λ a. (joined_by (codes "\", \"") (map (λ watch. string_bytes watch.text) (items a)) ≡ text) × All (IsOne when) (items a))
listed_asked (Ok a) items when texts text joined same are = (ap (λ (l : List (List ℕ)). joined_by (codes "\", \"") l) same ∙ joined, are)
listed_asked (Err e) items when texts text joined same are = tt

unread_in : (texts : List (List ℕ)) (text : List ℕ) → IsParted (codes "\", \"") text texts → (why : NotAsked) → IsUnreadOf texts why → IsUnreadIn text why
unread_in texts text parted not_asked.Value h = absurd h
unread_in texts text parted (not_asked.Text n meant) h = (texts, parted, h)
unread_in texts text parted not_asked.Memory h = tt

pub listed_unread : {A : Type 0} (r : Result A NotAsked) (texts : List (List ℕ)) (text : List ℕ) → IsParted (codes "\", \"") text texts → IfErr r (IsUnreadOf texts) → IfErr r (IsUnreadIn text)
listed_unread (Ok a) texts text parted h = tt
listed_unread (Err why) texts text parted h = unread_in texts text parted why h

-- one text is between brackets and quotes
pub one_listed : (value quoted one other : List ℕ) → value ≡ codes "[\"" ++ quoted → quoted ≡ one ++ codes "\"]" → value ≡ codes "[\"" ++ (other ++ codes "\"]") → other ≡ one
one_listed value quoted one other front end is =
    append_cancel_right other one (codes "\"]") (sym (append_cancel_left (codes "[\"") quoted (other ++ codes "\"]") (sym front ∙ is)) ∙ end)

-- in brackets
pub value_asked : {A E : Type 0} (r : Result A E) (items : A → List StepWatch) (when : When) (value text : List ℕ) → value ≡ codes "[\"" ++ (text ++ codes "\"]")
    → IfOk r (λ a. (joined_by (codes "\", \"") (map (λ watch. string_bytes watch.text) (items a)) ≡ text) × All (IsOne when) (items a)) → IfOk r (λ a. AreOn when value (items a))
value_asked (Ok a) items when value text is h = record { written = is ∙ ap (λ (t : List ℕ). codes "[\"" ++ (t ++ codes "\"]")) (sym h.0); are = h.1 }
value_asked (Err e) items when value text is h = tt

unlisted : (value text : List ℕ) → IsListed value text → (why : NotAsked) → IsUnreadIn text why → IsUnlisted value why
unlisted value text is not_asked.Value h = absurd h
unlisted value text is (not_asked.Text n meant) h = (text, is, h)
unlisted value text is not_asked.Memory h = tt

pub value_unread : {A : Type 0} (r : Result A NotAsked) (value text : List ℕ) → IsListed value text → IfErr r (IsUnreadIn text) → IfErr r (IsUnlisted value)
value_unread (Ok a) value text is h = tt
value_unread (Err why) value text is h = unlisted value text is why h

-- to which a line sets its key
pub none_set : {A : Type 0} (value : List ℕ) → None ≡ Some value → A
none_set value e = no_way (ap (λ (o : Option (List ℕ)). is_some o) e)

pub line_asked : {A E : Type 0} (r : Result A E) (items : A → List StepWatch) (when : When) (line value : List ℕ) → Some value ≡ value_set line → IfOk r (λ a. AreOn when value (items a))
    → IfOk r (λ a. LineAsks (Some when) line (items a))
line_asked (Ok a) items when line value at h = (value, sym at, h)
line_asked (Err e) items when line value at h = tt

unread_on : (line value : List ℕ) → Some value ≡ value_set line → (why : NotAsked) → IsUnlisted value why → IsUnreadAt line why
unread_on line value at not_asked.Value h = λ other is. subst (λ (v : List ℕ). IsUnlisted v not_asked.Value) (ap (λ (o : Option (List ℕ)). unwrap_or o []) (at ∙ is)) h
unread_on line value at (not_asked.Text n meant) h = (value, sym at, h)
unread_on line value at not_asked.Memory h = tt

pub line_unread : {A : Type 0} (r : Result A NotAsked) (line value : List ℕ) → Some value ≡ value_set line → IfErr r (IsUnlisted value) → IfErr r (IsUnreadAt line)
line_unread (Ok a) line value at h = tt
line_unread (Err why) line value at h = unread_on line value at why h

-- a line with such a text
pub line_refused : (board : Board) (when : When) (line : List ℕ) (number : ℕ) (why : NotAsked) → IsUnreadAt line why → IsLineFault board (Some when) line number (line_fault when number why)
line_refused board when line number not_asked.Value h = (refl, refl, h)
line_refused board when line number (not_asked.Text n meant) h = (refl, refl, h)
line_refused board when line number not_asked.Memory h = refl

-- and of the line in a loop
pub unasked_at : {A : Type 0} (f : A → List ℕ) (lines : List A) (i : ℕ) (d : A) (board : Board) (is : Bool) (o : Option When) (fault : StepsFault) → i < length lines
    → o ≡ when_asked is (f (get_or lines i d)) → IsLineFault board o (f (get_or lines i d)) (i + 1) fault → IsUnasked board (map f lines) fault
unasked_at f lines i d board is o (Text fault) lt at h = h
unasked_at f lines i d board is o Mixed lt at h = absurd h
unasked_at f lines i d board is o Mutex lt at h = absurd h
unasked_at f lines i d board is o Limit lt at h = absurd h
unasked_at f lines i d board is o (WhatIf n) lt at h = absurd h
unasked_at f lines i d board is o (Lasts n) lt at h = absurd h
unasked_at f lines i d board is o (Step n fault) lt at h = absurd h
unasked_at f lines i d board is o (Question n) lt at h =
    subst (λ (l : Option (List ℕ)). IsSomeAnd l (λ line. (is_some (when_set line) ≡ true) × IsUnreadAt line not_asked.Value)) (sym (line_at f lines i d n lt h.0)) (set_so is (f (get_or lines i d)) o at h.1, h.2)
unasked_at f lines i d board is o (Facts n unread) lt at h =
    subst (λ (l : Option (List ℕ)). IsSomeAnd l (λ line. (when_set line ≡ Some unread.when) × IsUnreadAt line (not_asked.Text unread.number unread.meant))) (sym (line_at f lines i d n lt h.0))
    (when_so is (f (get_or lines i d)) o unread.when at h.1, h.2)
unasked_at f lines i d board is o (Lacking n) lt at h =
    subst (λ (l : Option (List ℕ)). IsSomeAnd l (λ line. (watches : List StepWatch) × LineAsks (when_set line) line watches × (are_there board watches ≡ false))) (sym (line_at f lines i d n lt h.0))
    (h.1.0, lacks_so is (f (get_or lines i d)) o board h.1.0 at h.1.1 h.1.2, h.1.2)

-- no questions
pub none_there : (watches : List Watch) → are_none watches ≡ true → watches ≡ []
none_there [] e = refl
none_there (one ∷ rest) e = no_way e

-- why a text's plain part asks nothing, the text asks nothing
unasked_as : (plain text : List ℕ) → plain ≡ unasked_part text → (e : AskFault) → (e ≡ ask.Memory) ⊎ IsWhyJoined plain e → IsUnaskedFor text e
unasked_as plain text same e (inl memory) = inl memory
unasked_as plain text same e (inr why) = inr (inr (subst (λ (t : List ℕ). IsWhyJoined t e) same why))

pub unasked_for : {A : Type 0} (r : Result A AskFault) (text plain : List ℕ) → plain ≡ unasked_part text → IfErr r (λ e. (e ≡ ask.Memory) ⊎ IsWhyJoined plain e) → IfErr r (IsUnaskedFor text)
unasked_for (Ok a) text plain same h = tt
unasked_for (Err e) text plain same h = unasked_as plain text same e h
