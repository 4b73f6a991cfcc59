-- The line of a board is read as that board's, and no other line is.
use Rattle.std.proofs.Common.{arith, ◌≡◌, ℕ, ◌<◌, ◌^◌, List, ◌∷◌, ◌++◌, codes, decimal, Some, option_and_then, refl, sym, ap, ◌∙◌, append_assoc}
use Rattle.std.proofs.lemmas.Option.{same_Some}
use Rattle.evl_scenario.specs.declared.lines.BoardLine.{BoardLine}
use Rattle.evl_scenario.specs.Values.{number_below, past_front}
use Rattle.lab_traces.specs.Lines.{BoardFits, board_read, board_text, limit_read}
use Rattle.lab_traces.specs.Plays.{counted_read}
use Rattle.lab_traces.proofs.NumberLaws.{below-at, below-whole, small-at, small-whole}
use Rattle.lab_traces.proofs.OptionLaws.{and_then_some, map_some}
use Rattle.lab_traces.proofs.PartLaws.{past-whole}
use Rattle.lab_traces.proofs.PlayLaws.{counted-back, counted-whole}

abbrev counts : ℕ → ℕ → ℕ → ℕ → ℕ → ℕ → ℕ → BoardLine
counts threads sems flags xbufs mutexes groups limit =
    record { threads = threads; elements = record { sems = sems; flags = flags; xbufs = xbufs }; owners = record { mutexes = mutexes; groups = groups }; limit = limit }

abbrev spelled : ℕ → ℕ → ℕ → ℕ → ℕ → ℕ → ℕ → List ℕ
spelled threads sems flags xbufs mutexes groups limit =
    codes "board threads=" ++ (decimal threads ++ 32 ∷ (codes "sems=" ++ (decimal sems ++ 32 ∷ (codes "flags=" ++ (decimal flags
    ++ 32 ∷ (codes "xbufs=" ++ (decimal xbufs ++ 32 ∷ (codes "mutexes=" ++ (decimal mutexes ++ 32 ∷ (codes "groups=" ++ (decimal groups ++ 32 ∷ (codes "limit=" ++ decimal limit))))))))))))

six : (a b c d e f y : List ℕ) → (a ++ (b ++ (c ++ (d ++ (e ++ f))))) ++ y ≡ a ++ (b ++ (c ++ (d ++ (e ++ (f ++ y)))))
six a b c d e f y = simp append_assoc

four : (a b c d y : List ℕ) → (a ++ (b ++ (c ++ d))) ++ y ≡ a ++ (b ++ (c ++ (d ++ y)))
four a b c d y = simp append_assoc

board_spelled : (threads sems flags xbufs mutexes groups limit : ℕ)
    → board_text (counts threads sems flags xbufs mutexes groups limit) ≡ spelled threads sems flags xbufs mutexes groups limit
board_spelled threads sems flags xbufs mutexes groups limit =
    ap (λ (x : List ℕ). codes "board threads=" ++ (decimal threads ++ 32 ∷ x))
    (six (codes "sems=") (decimal sems) (codes " flags=") (decimal flags) (codes " xbufs=") (decimal xbufs) _
    ∙ ap (λ (x : List ℕ). codes "sems=" ++ (decimal sems ++ 32 ∷ (codes "flags=" ++ (decimal flags ++ 32 ∷ (codes "xbufs=" ++ (decimal xbufs ++ 32 ∷ x))))))
    (four (codes "mutexes=") (decimal mutexes) (codes " groups=") (decimal groups) (codes " limit=" ++ decimal limit)))

-- ---- what is written is read

spelled_back : (threads sems flags xbufs mutexes groups limit : ℕ) → threads < 2 ^ 16 → sems < 2 ^ 64 → flags < 2 ^ 64 → xbufs < 2 ^ 64
    → mutexes < 2 ^ 64 → groups < 2 ^ 64 → limit < 2 ^ 32
    → board_read (spelled threads sems flags xbufs mutexes groups limit) ≡ Some (counts threads sems flags xbufs mutexes groups limit)
spelled_back threads sems flags xbufs mutexes groups limit h0 h1 h2 h3 h4 h5 h6 =
    let wide : threads < 2 ^ 64 = omega arith in
    rw (
      counted-back (codes "board threads=") threads _ wide,
      below-at (2 ^ 16) threads h0,
      counted-back (codes "sems=") sems _ h1,
      counted-back (codes "flags=") flags _ h2,
      counted-back (codes "xbufs=") xbufs _ h3,
      counted-back (codes "mutexes=") mutexes _ h4,
      counted-back (codes "groups=") groups (codes "limit=" ++ decimal limit) h5,
      small-at (2 ^ 32) limit h6 (omega arith),
    ) refl

pub board-back : (line : BoardLine) → BoardFits line → board_read (board_text line) ≡ Some line
board-back line fits =
    ap board_read (board_spelled line.threads line.elements.sems line.elements.flags line.elements.xbufs line.owners.mutexes line.owners.groups line.limit)
    ∙ spelled_back line.threads line.elements.sems line.elements.flags line.elements.xbufs line.owners.mutexes line.owners.groups line.limit
    fits.threads fits.sems fits.flags fits.xbufs fits.mutexes fits.groups fits.limit

-- ---- what is read was written so

limit_whole : (threads : ℕ) (elements : ℕ × ℕ × ℕ) (owners : ℕ × ℕ) (t : List ℕ) (line : BoardLine) → limit_read threads elements owners t ≡ Some line
    → (limit : ℕ) × (t ≡ codes "limit=" ++ decimal limit) × (counts threads elements.0 elements.1 elements.2 owners.0 owners.1 limit ≡ line)
limit_whole threads elements owners t line h =
    let (limit, one, same) = map_some _ (option_and_then _ (past_front (codes "limit=") t)) line h in
    let (digits, two, read) = and_then_some _ (past_front (codes "limit=") t) limit one in
    (limit, past-whole (codes "limit=") t digits two ∙ ap (λ (x : List ℕ). codes "limit=" ++ x) (small-whole (2 ^ 32) limit digits read), same)

join : (a b c d e f g : List ℕ) (threads sems flags xbufs mutexes groups limit : ℕ)
    → a ≡ codes "board threads=" ++ (decimal threads ++ 32 ∷ b) → b ≡ codes "sems=" ++ (decimal sems ++ 32 ∷ c) → c ≡ codes "flags=" ++ (decimal flags ++ 32 ∷ d)
    → d ≡ codes "xbufs=" ++ (decimal xbufs ++ 32 ∷ e) → e ≡ codes "mutexes=" ++ (decimal mutexes ++ 32 ∷ f) → f ≡ codes "groups=" ++ (decimal groups ++ 32 ∷ g)
    → g ≡ codes "limit=" ++ decimal limit → a ≡ board_text (counts threads sems flags xbufs mutexes groups limit)
join a b c d e f g threads sems flags xbufs mutexes groups limit h1 h2 h3 h4 h5 h6 h7 =
    h1 ∙ rw (h2, h3, h4, h5, h6, h7) (sym (board_spelled threads sems flags xbufs mutexes groups limit))

pub board-whole : (t : List ℕ) (line : BoardLine) → board_read t ≡ Some line → t ≡ board_text line
board-whole t line h =
    let (first, one, h1) = and_then_some _ (counted_read (codes "board threads=") t) line h in
    let (threads, fits, h2) = and_then_some _ (number_below (2 ^ 16) (Some first.0)) line h1 in
    let (second, two, h3) = and_then_some _ (counted_read (codes "sems=") first.1) line h2 in
    let (third, three, h4) = and_then_some _ (counted_read (codes "flags=") second.1) line h3 in
    let (fourth, four, h5) = and_then_some _ (counted_read (codes "xbufs=") third.1) line h4 in
    let (fifth, five, h6) = and_then_some _ (counted_read (codes "mutexes=") fourth.1) line h5 in
    let (sixth, six, h7) = and_then_some _ (counted_read (codes "groups=") fifth.1) line h6 in
    let (limit, seven, same) = limit_whole threads (second.0, third.0, fourth.0) (fifth.0, sixth.0) sixth.1 line h7 in
    let given : first.0 ≡ threads = same_Some first.0 threads (below-whole (2 ^ 16) threads (Some first.0) fits) in
    join t first.1 second.1 third.1 fourth.1 fifth.1 sixth.1 threads second.0 third.0 fourth.0 fifth.0 sixth.0 limit
    (counted-whole (codes "board threads=") t first.0 first.1 one ∙ ap (λ (n : ℕ). codes "board threads=" ++ (decimal n ++ 32 ∷ first.1)) given)
    (counted-whole (codes "sems=") first.1 second.0 second.1 two) (counted-whole (codes "flags=") second.1 third.0 third.1 three)
    (counted-whole (codes "xbufs=") third.1 fourth.0 fourth.1 four) (counted-whole (codes "mutexes=") fourth.1 fifth.0 fifth.1 five)
    (counted-whole (codes "groups=") fifth.1 sixth.0 sixth.1 six) seven
    ∙ ap board_text same
