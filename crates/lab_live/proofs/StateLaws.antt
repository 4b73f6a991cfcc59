-- Texts of a machine's state, piece by piece.
use Rattle.std.proofs.Common.{◌≡◌, ◌∙◌, ◌++◌, ◌∷◌, ◌+◌, ℕ, Bool, true, false, cond, List, [], codes, decimal, filter, flat_map, length, not, append-nil, append_assoc, add-one, refl, sym, ap}
use Rattle.std.specs.List.{join_by}
use Rattle.std.proofs.lemmas.Grind.{flat_map-append}
use Rattle.std.proofs.lemmas.List.Elements.{filter-append}
use Rattle.evl_base.specs.declared.stage.Stage.TheVariants.{Inband, Oob}
use Rattle.evl_clock.specs.Limits.{timer_count}
use Rattle.evl_kernel.specs.histories.Histories.{History}
use Rattle.evl_scenario.specs.Lines.{line_feed}
use Rattle.lab_live.specs.Sessions.{Driven}
use Rattle.lab_live.specs.States.{numbers_below, is_none, mutex_line, pending_end, pending_next, pending_so_far, pending_text, rest_text, stage_line, state_text, thread_line, timer_line}
use Rattle.lab_live.specs.Wholes.{date_line, flags_line, sem_line, whole_text, whole_thread, xbuf_line}

-- what is printed after what was printed after a text
pub behind : (before mid after xs ys : List ℕ) → mid ≡ before ++ xs → after ≡ mid ++ ys → after ≡ before ++ (xs ++ ys)
behind before mid after xs ys first more = more ∙ ap (λ (m : List ℕ). m ++ ys) first ∙ append_assoc before xs ys

-- what is printed in four parts
pub behind_three : (text first second third all a b c d : List ℕ) → first ≡ text ++ a → second ≡ first ++ b → third ≡ second ++ c → all ≡ third ++ d
    → all ≡ text ++ (a ++ (b ++ (c ++ d)))
behind_three text first second third all a b c d one two three four =
    behind text first all a (b ++ (c ++ d)) one (behind first second all b (c ++ d) two (behind second third all c d three four))

-- and in six
pub behind_five : (text first second third fourth fifth all a b c d e f : List ℕ) → first ≡ text ++ a → second ≡ first ++ b → third ≡ second ++ c → fourth ≡ third ++ d
    → fifth ≡ fourth ++ e → all ≡ fifth ++ f → all ≡ text ++ (a ++ (b ++ (c ++ (d ++ (e ++ f)))))
behind_five text first second third fourth fifth all a b c d e f one two three four five six =
    behind text first all a (b ++ (c ++ (d ++ (e ++ f)))) one
    (behind first second all b (c ++ (d ++ (e ++ f))) two (behind_three second third fourth fifth all c d e f three four five six))

-- ---- lines of all numbers below one

pub lines_none : (line : ℕ → List ℕ) (text : List ℕ) → text ≡ text ++ flat_map line (numbers_below 0)
unfolding numbers_below
lines_none line text = sym (append-nil text)

lines_next : (line : ℕ → List ℕ) (n : ℕ) → flat_map line (numbers_below (n + 1)) ≡ flat_map line (numbers_below n) ++ line n
unfolding numbers_below
lines_next line n =
    ap (λ (k : ℕ). flat_map line (numbers_below k)) (add-one n) ∙ flat_map-append line (numbers_below n) (n ∷ []) ∙ ap (λ (l : List ℕ). flat_map line (numbers_below n) ++ l) (append-nil (line n))

pub lines_more : (line : ℕ → List ℕ) (n : ℕ) (first now next : List ℕ) → now ≡ first ++ flat_map line (numbers_below n) → next ≡ now ++ line n
    → next ≡ first ++ flat_map line (numbers_below (n + 1))
lines_more line n first now next so more =
    more ∙ ap (λ (text : List ℕ). text ++ line n) so ∙ append_assoc first (flat_map line (numbers_below n)) (line n) ∙ ap (λ (text : List ℕ). first ++ text) (sym (lines_next line n))

-- ---- lines that are pending

-- of the lines below one
pub pending_none : (passes : ℕ → Bool) → filter passes (numbers_below 0) ≡ []
unfolding numbers_below
pending_none passes = refl

kept_more : (passes : ℕ → Bool) (line : ℕ) → filter passes (numbers_below (line + 1)) ≡ filter passes (numbers_below line) ++ filter passes (line ∷ [])
unfolding numbers_below
kept_more passes line = ap (λ (k : ℕ). filter passes (numbers_below k)) (add-one line) ∙ filter-append passes (numbers_below line) (line ∷ [])

one_kept : (passes : ℕ → Bool) (line : ℕ) → passes line ≡ true → filter passes (line ∷ []) ≡ line ∷ []
one_kept passes line is = ap (λ (b : Bool). cond b (line ∷ []) []) is

none_kept : (passes : ℕ → Bool) (line : ℕ) → passes line ≡ false → filter passes (line ∷ []) ≡ []
none_kept passes line not = ap (λ (b : Bool). cond b (line ∷ []) []) not

-- one that passes, and one that doesn't
pub pending_more : (passes : ℕ → Bool) (line : ℕ) → passes line ≡ true → filter passes (numbers_below (line + 1)) ≡ filter passes (numbers_below line) ++ line ∷ []
pending_more passes line is = kept_more passes line ∙ ap (λ (ls : List ℕ). filter passes (numbers_below line) ++ ls) (one_kept passes line is)

pub pending_same : (passes : ℕ → Bool) (line : ℕ) → passes line ≡ false → filter passes (numbers_below (line + 1)) ≡ filter passes (numbers_below line)
pending_same passes line not =
    kept_more passes line ∙ ap (λ (ls : List ℕ). filter passes (numbers_below line) ++ ls) (none_kept passes line not) ∙ append-nil (filter passes (numbers_below line))

-- what is printed with one line more
pub so_far_more : (lines : List ℕ) (line : ℕ) → pending_so_far (lines ++ line ∷ []) ≡ pending_so_far lines ++ pending_next (is_none lines) line
so_far_more [] line = ap (λ (t : List ℕ). codes ", pending " ++ t) (append-nil (decimal line))
so_far_more (first ∷ others) line =
    let more = flat_map-append (λ (n : ℕ). codes " " ++ decimal n) others (line ∷ []) in
    let last = append-nil (codes " " ++ decimal line) in
    let rest = flat_map (λ (n : ℕ). codes " " ++ decimal n) others in
    ap (λ (t : List ℕ). codes ", pending " ++ (decimal first ++ t)) (more ∙ ap (λ (t : List ℕ). rest ++ t) last)
    ∙ ap (λ (t : List ℕ). codes ", pending " ++ t) (sym (append_assoc (decimal first) rest (codes " " ++ decimal line)))
    ∙ sym (append_assoc (codes ", pending ") (decimal first ++ rest) (codes " " ++ decimal line))

pub none_more : (lines : List ℕ) (line : ℕ) → is_none (lines ++ line ∷ []) ≡ false
none_more [] line = refl
none_more (first ∷ others) line = refl

-- all of them
pub pending_all : (lines : List ℕ) → pending_so_far lines ++ pending_end (is_none lines) ≡ pending_text lines
pending_all [] = refl
pending_all (first ∷ others) = append_assoc (codes ", pending ") (join_by decimal (codes " ") (first ∷ others)) line_feed

-- a line that is pending was printed
pub told_more : (passes : ℕ → Bool) (line : ℕ) (quiet : Bool) (first now next : List ℕ) → passes line ≡ true
    → now ≡ first ++ pending_so_far (filter passes (numbers_below line)) → quiet ≡ is_none (filter passes (numbers_below line))
    → next ≡ now ++ pending_next quiet line → next ≡ first ++ pending_so_far (filter passes (numbers_below (line + 1)))
told_more passes line quiet first now next is so none more =
    let lines = filter passes (numbers_below line) in
    more ∙ (λ i. so i ++ pending_next (none i) line) ∙ append_assoc first (pending_so_far lines) (pending_next (is_none lines) line)
    ∙ ap (λ (t : List ℕ). first ++ t) (sym (so_far_more lines line))
    ∙ ap (λ (ls : List ℕ). first ++ pending_so_far ls) (sym (pending_more passes line is))

-- all but the threads of a machine, by its kernel's history
pub rest_told : (driven : Driven) (h : History) (mutexes : ℕ) (before after : List ℕ) → h ≡ driven.history → mutexes ≡ length driven.board.mutexes.items
    → after ≡ before ++ (flat_map (mutex_line h.state) (numbers_below mutexes)
    ++ (stage_line h.state Oob ++ (stage_line h.state Inband ++ flat_map (timer_line h.state) (numbers_below timer_count))))
    → after ≡ before ++ rest_text driven
unfolding rest_text
rest_told driven h mutexes before after own m told =
    told ∙ (λ i. before ++ (flat_map (mutex_line (own i).state) (numbers_below (m i))
    ++ (stage_line (own i).state Oob ++ (stage_line (own i).state Inband ++ flat_map (timer_line (own i).state) (numbers_below timer_count)))))

-- and with them
pub state_told : (driven : Driven) (h : History) (threads : ℕ) (before mid after : List ℕ) → h ≡ driven.history → threads ≡ driven.board.threads
    → mid ≡ before ++ flat_map (thread_line h) (numbers_below threads) → after ≡ mid ++ rest_text driven → after ≡ before ++ state_text driven
unfolding state_text
state_told driven h threads before mid after own t first more =
    behind before mid after (flat_map (thread_line h) (numbers_below threads)) (rest_text driven) first more
    ∙ (λ i. before ++ (flat_map (thread_line (own i)) (numbers_below (t i)) ++ rest_text driven))

-- all that a machine shows, by its kernel's history
pub whole_told : (driven : Driven) (h : History) (threads sems flags xbufs : ℕ) (before after : List ℕ) → h ≡ driven.history → threads ≡ driven.board.threads
    → sems ≡ length driven.board.sems.items → flags ≡ length driven.board.flags.items → xbufs ≡ length driven.board.xbufs.items
    → after ≡ before ++ (date_line h.state ++ (flat_map (whole_thread h) (numbers_below threads) ++ (flat_map (sem_line h.state) (numbers_below sems)
    ++ (flat_map (flags_line h.state) (numbers_below flags) ++ (flat_map (xbuf_line h.state) (numbers_below xbufs) ++ rest_text driven)))))
    → after ≡ before ++ whole_text driven
unfolding whole_text
whole_told driven h threads sems flags xbufs before after own t m f x told =
    told ∙ (λ i. before ++ (date_line (own i).state ++ (flat_map (whole_thread (own i)) (numbers_below (t i)) ++ (flat_map (sem_line (own i).state) (numbers_below (m i))
    ++ (flat_map (flags_line (own i).state) (numbers_below (f i)) ++ (flat_map (xbuf_line (own i).state) (numbers_below (x i)) ++ rest_text driven))))))
