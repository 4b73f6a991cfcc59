-- Which texts are gone through step by step, and what is read of one, or why it isn't.
use Rattle.std.proofs.Common.{◌≡◌, ℕ, ◌&&◌, Bool, true, false, List, None, Some, Result, Ok, Err, IfOk, IfErr, inl, inr, sym, ap, ◌∙◌, subst}
use Rattle.std.specs.Str.{is_utf8}
use Rattle.std.specs.Str.Lines.{lines}
use Rattle.evl_base.specs.declared.board.Board.{Board}
use Rattle.lab_callers_text.specs.Readings.{IsRead}
use Rattle.lab_callers_text.specs.declared.reading.CallersText.{CallersText}
use Rattle.lab_kinds.specs.Kinds.{kind_of}
use Rattle.lab_scenario_orders.specs.Splits.{is_mixed, scenario_part, setup_count}
use Rattle.lab_step_orders.specs.declared.crews.Crew.{Crew}
use Rattle.lab_step_texts.specs.Crews.{AreExtras, IsCrewOf, IsKept, IsReadAs, IsReadOf, IsRefused, IsStopped, IsUnplain, set_up}
use Rattle.lab_step_texts.specs.Extras.{plain_part, strange_line, stray_line}
use Rattle.lab_step_texts.specs.Kinds.{asks_steps, is_of_callers}
use Rattle.lab_step_texts.specs.Questions.{AreAsked, IsUnasked, are_there}
use Rattle.lab_step_orders.specs.declared.watches.StepWatch.{StepWatch}
use Rattle.lab_step_texts.specs.declared.extras.Extras.{Extras}
use Rattle.lab_step_texts.specs.declared.faults.StepsFault.{StepsFault}
use Rattle.lab_step_texts.specs.declared.faults.StepsFault.TheVariants.{Text, Mixed, Mutex, Limit, Step, WhatIf, Lasts, Question, Facts, Lacking}

-- a text that is UTF-8, by the scenario in it
pub asks_as : (E : Type 0) (r : Result Bool E) (bytes text scenario : List ℕ) → is_utf8 bytes ≡ true → text ≡ bytes → scenario ≡ scenario_part (plain_part text)
    → IfOk r (λ is. is ≡ is_of_callers (kind_of scenario)) → IfOk r (λ asks. asks ≡ asks_steps bytes)
unfolding asks_steps
asks_as E (Ok b) bytes text scenario known same part is =
    is ∙ (ap (λ (s : List ℕ). is_of_callers (kind_of s)) (part ∙ ap (λ (t : List ℕ). scenario_part (plain_part t)) same)
    ∙ sym (ap (λ (u : Bool). u && is_of_callers (kind_of (scenario_part (plain_part bytes)))) known))
asks_as E (Err e) bytes text scenario known same part is = tt

-- the callers of a scenario that was read
pub crew_read : (r : Result Crew StepsFault) (extras : Extras) (scenario text : List ℕ) (count n : ℕ) (read : CallersText) → text ≡ scenario → IsRead None text read → n ≡ set_up count read
    → IfOk r (IsCrewOf extras read n) → IfOk r (IsReadOf extras scenario count)
crew_read (Ok crew) extras scenario text count n read same is all h =
    record { read = read; is_read = subst (λ (t : List ℕ). IsRead None t read) same is; crew_of = subst (λ (m : ℕ). IsCrewOf extras read m crew) all h }
crew_read (Err e) extras scenario text count n read same is all h = tt

-- those of a text that was split
pub crew_split : (r : Result Crew StepsFault) (extras : Extras) (bytes text plain scenario : List ℕ) (count : ℕ) → text ≡ bytes → strange_line text ≡ None → stray_line text ≡ None → AreExtras text extras
    → plain ≡ plain_part text → is_mixed (lines plain) ≡ false → scenario ≡ scenario_part plain → count ≡ setup_count plain
    → IfOk r (λ crew. AreAsked false (lines text) crew.watches.items) → IfOk r (λ crew. are_there crew.board crew.watches.items ≡ true)
    → IfOk r (IsReadOf extras scenario count) → IfOk r (IsReadAs bytes)
crew_split (Ok crew) extras bytes text plain scenario count same clear lasts are whole unmixed part all asked there h =
    subst (λ (b : List ℕ). IsReadAs b crew) same (record {
      clear = clear;
      lasts = lasts;
      unmixed = subst (λ (p : List ℕ). is_mixed (lines p) ≡ false) whole unmixed;
      extras = extras;
      are = are;
      is_of = subst (λ (p : List ℕ). IsReadOf extras (scenario_part p) (setup_count p) crew) whole
          (subst (λ (s : List ℕ). IsReadOf extras s (setup_count plain) crew) part (subst (λ (m : ℕ). IsReadOf extras scenario m crew) all h));
      asked = asked;
      there = there;
    })
crew_split (Err e) extras bytes text plain scenario count same clear lasts are whole unmixed part all asked there h = tt

-- what they are asked of moments
pub crew_asked : (r : Result Crew StepsFault) (lined : List (List ℕ)) (watches : List StepWatch) → AreAsked false lined watches → IfOk r (λ crew. crew.watches.items ≡ watches)
    → IfOk r (λ crew. AreAsked false lined crew.watches.items)
crew_asked (Ok crew) lined watches asked kept = subst (λ (l : List StepWatch). AreAsked false lined l) (sym kept) asked
crew_asked (Err e) lined watches asked kept = tt

pub crew_there : (r : Result Crew StepsFault) (extras : Extras) (read : CallersText) (n : ℕ) (watches : List StepWatch) → are_there read.board watches ≡ true
    → IfOk r (λ crew. crew.watches.items ≡ watches) → IfOk r (IsCrewOf extras read n) → IfOk r (λ crew. are_there crew.board crew.watches.items ≡ true)
crew_there (Ok crew) extras read n watches there kept is =
    ap (λ (b : Board). are_there b crew.watches.items) is.board ∙ (ap (λ (l : List StepWatch). are_there read.board l) kept ∙ there)
crew_there (Err e) extras read n watches there kept is = tt

-- or why there are none
kept_for : (lined : List (List ℕ)) (scenario text : List ℕ) (count n : ℕ) (read : CallersText) → text ≡ scenario → IsRead None text read → n ≡ set_up count read → (fault : StepsFault)
    → IsKept read n fault → IsStopped lined scenario count fault
kept_for lined scenario text count n read same is all (Text fault) h = inl h
kept_for lined scenario text count n read same is all Mixed h = absurd h
kept_for lined scenario text count n read same is all (WhatIf line) h = absurd h
kept_for lined scenario text count n read same is all (Lasts line) h = absurd h
kept_for lined scenario text count n read same is all (Question line) h = absurd h
kept_for lined scenario text count n read same is all (Facts line unread) h = absurd h
kept_for lined scenario text count n read same is all (Lacking line) h = absurd h
kept_for lined scenario text count n read same is all Mutex h =
    (read, subst (λ (t : List ℕ). IsRead None t read) same is, h)
kept_for lined scenario text count n read same is all Limit h =
    (read, subst (λ (t : List ℕ). IsRead None t read) same is, h)
kept_for lined scenario text count n read same is all (Step k fault) h =
    (read, subst (λ (t : List ℕ). IsRead None t read) same is, subst (λ (m : ℕ). IsKept read m (Step k fault)) all h)

pub kept_read : (r : Result Crew StepsFault) (lined : List (List ℕ)) (scenario text : List ℕ) (count n : ℕ) (read : CallersText) → text ≡ scenario → IsRead None text read → n ≡ set_up count read
    → IfErr r (IsKept read n) → IfErr r (IsStopped lined scenario count)
kept_read (Ok crew) lined scenario text count n read same is all h = tt
kept_read (Err fault) lined scenario text count n read same is all h = kept_for lined scenario text count n read same is all fault h

pub unasked_read : (lined : List (List ℕ)) (scenario text : List ℕ) (count : ℕ) (read : CallersText) → text ≡ scenario → IsRead None text read → (fault : StepsFault)
    → IsUnasked read.board lined fault → IsStopped lined scenario count fault
unasked_read lined scenario text count read same is (Text fault) h = inl h
unasked_read lined scenario text count read same is Mixed h = absurd h
unasked_read lined scenario text count read same is Mutex h = absurd h
unasked_read lined scenario text count read same is Limit h = absurd h
unasked_read lined scenario text count read same is (WhatIf line) h = absurd h
unasked_read lined scenario text count read same is (Lasts line) h = absurd h
unasked_read lined scenario text count read same is (Step k fault) h = absurd h
unasked_read lined scenario text count read same is (Question line) h = (read, subst (λ (t : List ℕ). IsRead None t read) same is, h)
unasked_read lined scenario text count read same is (Facts line unread) h = (read, subst (λ (t : List ℕ). IsRead None t read) same is, h)
unasked_read lined scenario text count read same is (Lacking line) h = (read, subst (λ (t : List ℕ). IsRead None t read) same is, h)

-- so of a text that was split
stopped_in : (bytes text plain scenario : List ℕ) (count : ℕ) (fault : StepsFault) → text ≡ bytes → plain ≡ plain_part text → scenario ≡ scenario_part plain → count ≡ setup_count plain
    → IsStopped (lines text) scenario count fault → IsStopped (lines bytes) (scenario_part (plain_part bytes)) (setup_count (plain_part bytes)) fault
stopped_in bytes text plain scenario count fault same whole part all h =
    subst (λ (b : List ℕ). IsStopped (lines b) (scenario_part (plain_part b)) (setup_count (plain_part b)) fault) same
    (subst (λ (p : List ℕ). IsStopped (lines text) (scenario_part p) (setup_count p) fault) whole
    (subst (λ (s : List ℕ). IsStopped (lines text) s (setup_count plain) fault) part (subst (λ (m : ℕ). IsStopped (lines text) scenario m fault) all h)))

refused_for : (bytes text plain scenario : List ℕ) (count : ℕ) → text ≡ bytes → plain ≡ plain_part text → scenario ≡ scenario_part plain → count ≡ setup_count plain → (fault : StepsFault)
    → IsStopped (lines text) scenario count fault → IsRefused bytes fault
refused_for bytes text plain scenario count same whole part all (Text fault) h = inr (inr (stopped_in bytes text plain scenario count (Text fault) same whole part all h))
refused_for bytes text plain scenario count same whole part all Mixed h = absurd h.2
refused_for bytes text plain scenario count same whole part all (WhatIf line) h = absurd h.2
refused_for bytes text plain scenario count same whole part all (Lasts line) h = absurd h.2
refused_for bytes text plain scenario count same whole part all (Question line) h = stopped_in bytes text plain scenario count (Question line) same whole part all h
refused_for bytes text plain scenario count same whole part all (Facts line unread) h = stopped_in bytes text plain scenario count (Facts line unread) same whole part all h
refused_for bytes text plain scenario count same whole part all (Lacking line) h = stopped_in bytes text plain scenario count (Lacking line) same whole part all h
refused_for bytes text plain scenario count same whole part all Mutex h = stopped_in bytes text plain scenario count Mutex same whole part all h
refused_for bytes text plain scenario count same whole part all Limit h = stopped_in bytes text plain scenario count Limit same whole part all h
refused_for bytes text plain scenario count same whole part all (Step k fault) h = stopped_in bytes text plain scenario count (Step k fault) same whole part all h

pub refused_read : (r : Result Crew StepsFault) (bytes text plain scenario : List ℕ) (count : ℕ) → text ≡ bytes → plain ≡ plain_part text → scenario ≡ scenario_part plain → count ≡ setup_count plain
    → IfErr r (IsStopped (lines text) scenario count) → IfErr r (IsRefused bytes)
refused_read (Ok crew) bytes text plain scenario count same whole part all h = tt
refused_read (Err fault) bytes text plain scenario count same whole part all h = refused_for bytes text plain scenario count same whole part all fault h

-- or for a line of its own
pub unplain_refused : (bytes text : List ℕ) (extras : Extras) → text ≡ bytes → extras.strange ≡ strange_line text → extras.stray ≡ stray_line text → (fault : StepsFault)
    → IsUnplain extras fault → IsRefused bytes fault
unplain_refused bytes text extras same strange stray (Text fault) h = absurd h
unplain_refused bytes text extras same strange stray Mixed h = absurd h
unplain_refused bytes text extras same strange stray Mutex h = absurd h
unplain_refused bytes text extras same strange stray Limit h = absurd h
unplain_refused bytes text extras same strange stray (WhatIf line) h = subst (λ (b : List ℕ). strange_line b ≡ Some line) same (sym strange ∙ h)
unplain_refused bytes text extras same strange stray (Lasts line) h = subst (λ (b : List ℕ). stray_line b ≡ Some line) same (sym stray ∙ h)
unplain_refused bytes text extras same strange stray (Question line) h = absurd h
unplain_refused bytes text extras same strange stray (Facts line unread) h = absurd h
unplain_refused bytes text extras same strange stray (Lacking line) h = absurd h
unplain_refused bytes text extras same strange stray (Step k fault) h = absurd h
