-- The text of a play is read as that play, and no other text is.
use Rattle.std.proofs.Common.{arith, ◌≡◌, ℕ, ◌<◌, ◌^◌, Bool, true, false, List, [], ◌∷◌, ◌++◌, codes, decimal, if◌then◌else◌, Some, None, option_and_then, refl, sym, ap, ◌∙◌, append_assoc}
use Rattle.std.proofs.lemmas.Slice.Eq.{bytes_eq-Decides}
use Rattle.std.specs.Str.{bytes_eq}
use Rattle.evl_base.specs.Play.{play_text, handled_text}
use Rattle.evl_base.specs.Stage.{stage_text}
use Rattle.evl_base.specs.declared.play.Play.{Play}
use Rattle.evl_base.specs.declared.play.Play.TheVariants.{Clock, Timer, Deadline, Line}
use Rattle.evl_base.specs.declared.stage.Stage.{Stage}
use Rattle.evl_base.specs.declared.stage.Stage.TheVariants.{Inband, Oob}
use Rattle.evl_scenario.specs.Values.{around_space, past_front, stage_of, text_number}
use Rattle.lab_traces.specs.Parts.{Lacks}
use Rattle.lab_traces.specs.Plays.{PlayFits, counted_read, deadline_read, fire_read, handled_read, line_read, named_read, play_read, small_read, timer_read}
use Rattle.lab_traces.proofs.NumberLaws.{decimal-lacks, number-at, number-whole, small-at, small-whole}
use Rattle.lab_traces.proofs.OptionLaws.{and_then_some, map_some}
use Rattle.lab_traces.proofs.PartLaws.{around-at, around-whole, past-at, past-whole}

-- ---- what is written is read

pub counted-back : (word : List ℕ) (n : ℕ) (rest : List ℕ) → n < 2 ^ 64 → counted_read word (word ++ (decimal n ++ 32 ∷ rest)) ≡ Some (n, rest)
counted-back word n rest small =
    rw (past-at word (decimal n ++ 32 ∷ rest), around-at 32 (decimal n) rest (decimal-lacks 32 n refl small), number-at n small) refl

handled_word : Bool → List ℕ
handled_word true = codes "handled"
handled_word false = codes "none"

handled_back : (handled : Bool) → handled_read (handled_word handled) ≡ Some handled
unfolding handled_word
handled_back true = refl
handled_back false = refl

handled_spaced : (handled : Bool) → handled_text handled ≡ 32 ∷ handled_word handled
unfolding handled_word
handled_spaced true = refl
handled_spaced false = refl

seven : (a b c d e f g : List ℕ) → (((((a ++ b) ++ c) ++ d) ++ e) ++ f) ++ g ≡ a ++ (b ++ (c ++ (d ++ (e ++ (f ++ g)))))
seven a b c d e f g = simp append_assoc

timer_spelled : (timer count missed : ℕ) (handled : Bool)
    → play_text (Timer (record { 0 = timer }) count missed handled)
    ≡ codes "timer" ++ 32 ∷ (decimal timer ++ 32 ∷ (codes "count " ++ (decimal count ++ 32 ∷ (codes "missed " ++ (decimal missed ++ 32 ∷ handled_word handled)))))
timer_spelled timer count missed handled =
    seven (codes "timer ") (decimal timer) (codes " count ") (decimal count) (codes " missed ") (decimal missed) (handled_text handled)
    ∙ rw (handled_spaced handled) refl

line_spelled : (line count : ℕ) (stage : Stage) (handled : Bool)
    → play_text (Line (record { 0 = line }) stage count handled)
    ≡ codes "line" ++ 32 ∷ (decimal line ++ 32 ∷ (stage_text stage ++ 32 ∷ (codes "count " ++ (decimal count ++ 32 ∷ handled_word handled))))
line_spelled line count stage handled =
    seven (codes "line ") (decimal line) (codes " ") (stage_text stage) (codes " count ") (decimal count) (handled_text handled)
    ∙ rw (handled_spaced handled) refl

stage_lacks : (stage : Stage) → Lacks 32 (stage_text stage)
stage_lacks Inband = refl
stage_lacks Oob = refl

stage_back : (stage : Stage) → stage_of (stage_text stage) ≡ Some stage
stage_back Inband = refl
stage_back Oob = refl

timer_back : (timer count missed : ℕ) (handled : Bool) → timer < 2 ^ 16 → count < 2 ^ 64 → missed < 2 ^ 64
    → play_read (codes "timer" ++ 32 ∷ (decimal timer ++ 32 ∷ (codes "count " ++ (decimal count ++ 32 ∷ (codes "missed " ++ (decimal missed ++ 32 ∷ handled_word handled))))))
    ≡ Some (Timer (record { 0 = timer }) count missed handled)
timer_back timer count missed handled small wide wider =
    let rest : List ℕ = codes "missed " ++ (decimal missed ++ 32 ∷ handled_word handled) in
    let fits : timer < 2 ^ 64 = omega arith in
    rw (
      around-at 32 (codes "timer") (decimal timer ++ 32 ∷ (codes "count " ++ (decimal count ++ 32 ∷ rest))) refl,
      around-at 32 (decimal timer) (codes "count " ++ (decimal count ++ 32 ∷ rest)) (decimal-lacks 32 timer refl fits),
      small-at (2 ^ 16) timer small (omega arith),
      counted-back (codes "count ") count rest wide,
      counted-back (codes "missed ") missed (handled_word handled) wider,
      handled_back handled,
    ) refl

line_back : (line count : ℕ) (stage : Stage) (handled : Bool) → line < 2 ^ 16 → count < 2 ^ 64
    → play_read (codes "line" ++ 32 ∷ (decimal line ++ 32 ∷ (stage_text stage ++ 32 ∷ (codes "count " ++ (decimal count ++ 32 ∷ handled_word handled)))))
    ≡ Some (Line (record { 0 = line }) stage count handled)
line_back line count stage handled small wide =
    let rest : List ℕ = codes "count " ++ (decimal count ++ 32 ∷ handled_word handled) in
    let fits : line < 2 ^ 64 = omega arith in
    rw (
      around-at 32 (codes "line") (decimal line ++ 32 ∷ (stage_text stage ++ 32 ∷ rest)) refl,
      around-at 32 (decimal line) (stage_text stage ++ 32 ∷ rest) (decimal-lacks 32 line refl fits),
      small-at (2 ^ 16) line small (omega arith),
      around-at 32 (stage_text stage) rest (stage_lacks stage),
      stage_back stage,
      counted-back (codes "count ") count (handled_word handled) wide,
      handled_back handled,
    ) refl

deadline_back : (thread : ℕ) → thread < 2 ^ 16 → play_read (codes "deadline T" ++ decimal thread) ≡ Some (Deadline (record { 0 = thread }))
deadline_back thread small =
    rw (around-at 32 (codes "deadline") (84 ∷ decimal thread) refl, small-at (2 ^ 16) thread small (omega arith)) refl

pub play-back : (play : Play) → PlayFits play → play_read (play_text play) ≡ Some play
play-back Clock fits = refl
play-back (Timer timer count missed handled) fits = ap play_read (timer_spelled timer.0 count missed handled) ∙ timer_back timer.0 count missed handled fits.0 fits.1 fits.2
play-back (Deadline thread) fits = deadline_back thread.0 fits
play-back (Line line stage count handled) fits = ap play_read (line_spelled line.0 count stage handled) ∙ line_back line.0 count stage handled fits.0 fits.1

-- ---- what is read was written so

counted_join : (word t behind a b : List ℕ) (m n : ℕ) (rest : List ℕ) → t ≡ word ++ behind → behind ≡ a ++ 32 ∷ b → a ≡ decimal m → m ≡ n → b ≡ rest
    → t ≡ word ++ (decimal n ++ 32 ∷ rest)
counted_join word t behind a b m n rest one two three first second = one ∙ rw (two, three, first, second) refl

handled_cases : (t : List ℕ) (handled yes other : Bool) → bytes_eq t (codes "handled") ≡ yes → bytes_eq t (codes "none") ≡ other
    → (if yes then Some true else if other then Some false else None) ≡ Some handled → t ≡ handled_word handled
unfolding handled_word
handled_cases t handled true other e f h = let is : true ≡ handled = cc in (bytes_eq-Decides t (codes "handled")).0 e ∙ ap handled_word is
handled_cases t handled false true e f h = let is : false ≡ handled = cc in (bytes_eq-Decides t (codes "none")).0 f ∙ ap handled_word is
handled_cases t handled false false e f h = absurd (cc)

handled_whole : (t : List ℕ) (handled : Bool) → handled_read t ≡ Some handled → t ≡ handled_word handled
handled_whole t handled h = handled_cases t handled _ _ refl refl h

stage_cases : (t : List ℕ) (stage : Stage) (yes other : Bool) → bytes_eq t (codes "inband") ≡ yes → bytes_eq t (codes "oob") ≡ other
    → (if yes then Some Inband else if other then Some Oob else None) ≡ Some stage → t ≡ stage_text stage
stage_cases t stage true other e f h = let is : Inband ≡ stage = cc in (bytes_eq-Decides t (codes "inband")).0 e ∙ ap stage_text is
stage_cases t stage false true e f h = let is : Oob ≡ stage = cc in (bytes_eq-Decides t (codes "oob")).0 f ∙ ap stage_text is
stage_cases t stage false false e f h = absurd (cc)

stage_whole : (t : List ℕ) (stage : Stage) → stage_of t ≡ Some stage → t ≡ stage_text stage
stage_whole t stage h = stage_cases t stage _ _ refl refl h

pub counted-whole : (word t : List ℕ) (n : ℕ) (rest : List ℕ) → counted_read word t ≡ Some (n, rest) → t ≡ word ++ (decimal n ++ 32 ∷ rest)
counted-whole word t n rest h =
    let (behind, one, h1) = and_then_some _ (past_front word t) _ h in
    let (cut, two, h2) = and_then_some _ (around_space behind) _ h1 in
    let (m, three, same) = map_some _ (text_number cut.0) _ h2 in
    counted_join word t behind cut.0 cut.1 m n rest (past-whole word t behind one) (around-whole 32 behind cut.0 cut.1 two) (number-whole cut.0 m three)
    (ap (λ (p : ℕ × List ℕ). p.0) same) (ap (λ (p : ℕ × List ℕ). p.1) same)

timer_join : (a b c d e : List ℕ) (timer count missed : ℕ) (handled : Bool) → a ≡ decimal timer → b ≡ codes "count " ++ (decimal count ++ 32 ∷ c)
    → c ≡ codes "missed " ++ (decimal missed ++ 32 ∷ d) → d ≡ handled_word handled
    → codes "timer" ++ 32 ∷ (a ++ 32 ∷ b) ≡ play_text (Timer (record { 0 = timer }) count missed handled)
timer_join a b c d e timer count missed handled one two three four = rw (one, two, three, four) (sym (timer_spelled timer count missed handled))

timer_whole : (p : List ℕ × List ℕ) (play : Play) → timer_read p ≡ Some play → codes "timer" ++ 32 ∷ (p.0 ++ 32 ∷ p.1) ≡ play_text play
timer_whole p play h =
    let (timer, one, h1) = and_then_some _ (small_read p.0) play h in
    let (counted, two, h2) = and_then_some _ (counted_read (codes "count ") p.1) play h1 in
    let (missed, three, h3) = and_then_some _ (counted_read (codes "missed ") counted.1) play h2 in
    let (handled, four, same) = map_some _ (handled_read missed.1) play h3 in
    timer_join p.0 p.1 counted.1 missed.1 [] timer counted.0 missed.0 handled (small-whole (2 ^ 16) timer p.0 one) (counted-whole (codes "count ") p.1 counted.0 counted.1 two)
    (counted-whole (codes "missed ") counted.1 missed.0 missed.1 three) (handled_whole missed.1 handled four)
    ∙ ap play_text same

line_join : (a b c d e : List ℕ) (line count : ℕ) (stage : Stage) (handled : Bool) → a ≡ decimal line → b ≡ c ++ 32 ∷ d → c ≡ stage_text stage
    → d ≡ codes "count " ++ (decimal count ++ 32 ∷ e) → e ≡ handled_word handled
    → codes "line" ++ 32 ∷ (a ++ 32 ∷ b) ≡ play_text (Line (record { 0 = line }) stage count handled)
line_join a b c d e line count stage handled one two three four five = rw (one, two, three, four, five) (sym (line_spelled line count stage handled))

line_whole : (p : List ℕ × List ℕ) (play : Play) → line_read p ≡ Some play → codes "line" ++ 32 ∷ (p.0 ++ 32 ∷ p.1) ≡ play_text play
line_whole p play h =
    let (line, one, h1) = and_then_some _ (small_read p.0) play h in
    let (cut, two, h2) = and_then_some (fire_read line) (around_space p.1) play h1 in
    let (stage, three, h3) = and_then_some _ (stage_of cut.0) play h2 in
    let (counted, four, h4) = and_then_some _ (counted_read (codes "count ") cut.1) play h3 in
    let (handled, five, same) = map_some _ (handled_read counted.1) play h4 in
    line_join p.0 p.1 cut.0 cut.1 counted.1 line counted.0 stage handled (small-whole (2 ^ 16) line p.0 one) (around-whole 32 p.1 cut.0 cut.1 two) (stage_whole cut.0 stage three)
    (counted-whole (codes "count ") cut.1 counted.0 counted.1 four) (handled_whole counted.1 handled five)
    ∙ ap play_text same

deadline_whole : (t : List ℕ) (play : Play) → deadline_read t ≡ Some play → codes "deadline" ++ 32 ∷ t ≡ play_text play
deadline_whole t play h =
    let (thread, one, same) = map_some _ (option_and_then small_read (past_front (codes "T") t)) play h in
    let (digits, two, h2) = and_then_some small_read (past_front (codes "T") t) thread one in
    let digits_are = small-whole (2 ^ 16) thread digits h2 in
    ap (λ (x : List ℕ). codes "deadline" ++ 32 ∷ x) (past-whole (codes "T") t digits two ∙ ap (λ (x : List ℕ). 84 ∷ x) digits_are) ∙ ap play_text same

word_join : (a word b c d : List ℕ) → a ≡ word → b ≡ c ++ 32 ∷ d → a ++ 32 ∷ b ≡ word ++ 32 ∷ (c ++ 32 ∷ d)
word_join a word b c d one two = rw (one, two) refl

named_cases : (p : List ℕ × List ℕ) (play : Play) (a b c : Bool) → bytes_eq p.0 (codes "timer") ≡ a → bytes_eq p.0 (codes "deadline") ≡ b → bytes_eq p.0 (codes "line") ≡ c
    → (if a then option_and_then timer_read (around_space p.1) else if b then deadline_read p.1 else if c then option_and_then line_read (around_space p.1) else None) ≡ Some play
    → p.0 ++ 32 ∷ p.1 ≡ play_text play
named_cases p play true b c e f g h =
    let (cut, one, h1) = and_then_some timer_read (around_space p.1) play h in
    word_join p.0 (codes "timer") p.1 cut.0 cut.1 ((bytes_eq-Decides p.0 (codes "timer")).0 e) (around-whole 32 p.1 cut.0 cut.1 one) ∙ timer_whole cut play h1
named_cases p play false true c e f g h =
    ap (λ (x : List ℕ). x ++ 32 ∷ p.1) ((bytes_eq-Decides p.0 (codes "deadline")).0 f) ∙ deadline_whole p.1 play h
named_cases p play false false true e f g h =
    let (cut, one, h1) = and_then_some line_read (around_space p.1) play h in
    word_join p.0 (codes "line") p.1 cut.0 cut.1 ((bytes_eq-Decides p.0 (codes "line")).0 g) (around-whole 32 p.1 cut.0 cut.1 one) ∙ line_whole cut play h1
named_cases p play false false false e f g h = absurd (cc)

play_cases : (t : List ℕ) (play : Play) (v : Bool) → bytes_eq t (codes "clock") ≡ v → (if v then Some Clock else option_and_then named_read (around_space t)) ≡ Some play → t ≡ play_text play
play_cases t play true e h = let is : Clock ≡ play = cc in (bytes_eq-Decides t (codes "clock")).0 e ∙ ap play_text is
play_cases t play false e h =
    let (cut, one, h1) = and_then_some named_read (around_space t) play h in
    around-whole 32 t cut.0 cut.1 one ∙ named_cases cut play _ _ _ refl refl refl h1

pub play-whole : (t : List ℕ) (play : Play) → play_read t ≡ Some play → t ≡ play_text play
play-whole t play h = play_cases t play _ refl h
