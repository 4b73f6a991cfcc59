-- While no other thread has the kernel, none loses a take: whatever a thread may come to know instead, it has lost no take more.
use Rattle.std.proofs.Common.{◌≡◌, ◌≢◌, ◌⊎◌, inl, inr, eq-eqb, ne_eqb, ℕ, zero, suc, ◌<◌, ◌≤◌, true, true≢false, List, [], ◌∷◌, ◌++◌, length, map, set, refl, sym, ap, ◌∙◌, subst, ⊎_elim, append_assoc, append-nil, arith}
use mathlib.Core.List.{IsPrefix}
use mathlib.Core.Logic.{dite}
use mathlib.Core.Option as maybe
use mathlib.Core.Option.{some, none}
use native.Mathlib.Decide.{ℕ_discrete}
use lib.ListN.{get_elem?}
use Rattle.atomic_table.proofs.Lists.{at_map, set_else, set_here}
use Rattle.evl_words.specs.Machine.{Run}
use Rattle.evl_words.specs.History.{Fits, History, entries_of}
use Rattle.evl_words.proofs.Histories.{AllBy, entries_of-append}
use Rattle.evl_words.proofs.LookLaws.{beginnings}
use Rattle.evl_words.proofs.Machines.{run_same, run_split}
use Rattle.evl_words.proofs.Sequences.{append_same, at_below, map-set, nil_is, prefix_more}
use Rattle.evl_core.specs.declared.views.CorePart.{CorePart}
use Rattle.evl_core.specs.declared.views.LockCall.{LockCall}
use Rattle.evl_core.specs.declared.views.LockCall.TheVariants.{Take, Give}
use Rattle.evl_core.specs.declared.views.LockReply.{LockReply}
use Rattle.evl_core.specs.lock.Lock.{IsLockWorld, LockEntry, LockKept, LockState, LockStep, LockTie, LockView, busy, count_replies, has_it, idle, is_lost, lock_answer, lock_author, lock_change, lock_machine, lock_may, lock_of, lock_word}
use Rattle.evl_core.proofs.lock.LockSteps.{counted-append}

-- the kernel lies in the slot, or this thread has it
abbrev pub IsOurs : ℕ → LockState → Type 0
IsOurs k idle = Unit {0}
IsOurs k (busy j) = j ≡ k

ours_step : (k : ℕ) (s : LockState) (call : LockCall) (reply : LockReply) (t : LockState) → IsOurs k s → lock_may s k call → reply ≡ lock_answer s k call → t ≡ lock_change s k call → (is_lost reply ≡ 0) × IsOurs k t
ours_step k idle Take reply t ours may answered after = (ap is_lost answered, subst (IsOurs k) (sym after) refl)
ours_step k idle Give reply t ours may answered after = absurd (true≢false (sym may))
ours_step k (busy j) Take reply t ours may answered after = absurd (true≢false (sym (eq-eqb j k ours) ∙ may))
ours_step k (busy j) Give reply t ours may answered after = (ap is_lost answered, subst (IsOurs k) (sym after) tt)

-- the steps of one thread alone, from there on, lose no take
ours_run : (k : ℕ) (s t : LockState) (es : List LockEntry) → AllBy lock_author k es → IsOurs k s → Run LockStep s es t → count_replies is_lost es ≡ 0
ours_run k s t [] own ours run = refl
ours_run k s t (e ∷ es) own ours (u, one, rest) =
    let step = ours_step k s e.call e.reply u ours (subst (λ i. lock_may s i e.call) own.0 one.may) (one.answered ∙ ap (λ i. lock_answer s i e.call) own.0) (one.after ∙ ap (λ i. lock_change s i e.call) own.0) in
    omega (arith, step.0, ours_run k u t es own.1 step.1 rest)

-- while another thread has the kernel, this one's steps change nothing
theirs_step : (k m : ℕ) (call : LockCall) (t : LockState) → m ≢ k → lock_may (busy m) k call → t ≡ lock_change (busy m) k call → t ≡ busy m
theirs_step k m Take t ne may after = after
theirs_step k m Give t ne may after = absurd (true≢false (sym may ∙ ne_eqb m k ne))

theirs_run : (k m : ℕ) (s t : LockState) (es : List LockEntry) → AllBy lock_author k es → m ≢ k → s ≡ busy m → Run LockStep s es t → t ≡ busy m
theirs_run k m s t [] own ne is run = sym run ∙ is
theirs_run k m s t (e ∷ es) own ne is (u, one, rest) =
    let may = subst (λ (z : ℕ × LockState). lock_may z.1 z.0 e.call) (λ i. (own.0 i, is i)) one.may in
    let after : u ≡ lock_change (busy m) k e.call = one.after ∙ (λ i. lock_change (is i) (own.0 i) e.call) in
    theirs_run k m u t es own.1 ne (theirs_step k m e.call u ne may after) rest

ours_busy : (k j : ℕ) (t : LockState) → t ≡ busy j → IsOurs k t → j ≡ k
ours_busy k j t is ours = subst (IsOurs k) is ours

-- so where they end with the kernel in the slot or in the thread's hand, they began so
ends_ours : (k : ℕ) (s t : LockState) (es : List LockEntry) → AllBy lock_author k es → Run LockStep s es t → IsOurs k t → IsOurs k s
ends_ours k idle t es own run ours = tt
ends_ours k (busy j) t es own run ours = dite (ℕ_discrete j k) (λ same. same) (λ ne. ours_busy k j t (theirs_run k j (busy j) t es own ne refl run) ours)

own_all : (k : ℕ) (es : List LockEntry) → AllBy lock_author k es → entries_of lock_author k es ≡ es
own_all k [] own = refl
own_all k (e ∷ es) own = rw (eq-eqb e.by k own.0) (ap (λ l. e ∷ l) (own_all k es own.1))

-- entries of no other thread are this thread's
by_none : (k : ℕ) (es : List LockEntry) → ((j : ℕ) → j ≢ k → entries_of lock_author j es ≡ []) → AllBy lock_author k es
by_none k [] no_other = tt
by_none k (e ∷ es) no_other = (mine, by_none k es rest)
  where
    mine : e.by ≡ k
    mine = dite (ℕ_discrete e.by k) (λ same. same) (λ ne. absurd (let q : e ∷ entries_of lock_author e.by es ≡ [] = rw (eq-eqb e.by e.by refl) at (no_other e.by ne) in cc))

    rest : (j : ℕ) → j ≢ k → entries_of lock_author j es ≡ []
    rest j ne = rw (ne_eqb e.by j (λ q. ne (sym q ∙ mine))) at (no_other j ne)

nil_right : {A : Type 0} (xs ys : List A) → xs ++ ys ≡ [] → ys ≡ []
nil_right [] ys e = e
nil_right (x ∷ xs) ys e = absurd (cc)

abbrev LockHistory : ℕ → List LockEntry → LockState → List LockView → Type 0
LockHistory word = History lock_author LockStep idle (LockTie word)

near : (j n : ℕ) → (j < n) ⊎ (n ≤ j)
near j zero = inr (omega arith)
near zero (suc n) = inl (omega arith)
near (suc j) (suc n) = ⊎_elim (λ (less : j < n). inl (omega arith)) (λ (far : n ≤ j). inr (omega arith)) (near j n)

-- what all but this thread have seen ends where only its own entries follow
rest_own : (k word : ℕ) (log seen rest : List LockEntry) (s : LockState) (views : List LockView) → LockHistory word log s views → seen ++ rest ≡ log → ((j : ℕ) (v : LockView) → j ≢ k → get_elem? views j ≡ some v → IsPrefix v.seen seen) → AllBy lock_author k rest
rest_own k word log seen rest s views h is all = by_none k rest no_other
  where
    at : (j : ℕ) (v : LockView) → j ≢ k → get_elem? views j ≡ some v → entries_of lock_author j rest ≡ []
    at j v ne there =
        let pre = all j v ne there in
        let fit = h.fits j v there in
        let whole : v.seen ++ (pre.0 ++ rest) ≡ log = sym (append_assoc v.seen pre.0 rest) ∙ ap (λ l. l ++ rest) pre.1 ∙ is in
        let same : entries_of lock_author j v.seen ++ entries_of lock_author j (pre.0 ++ rest) ≡ entries_of lock_author j v.seen = sym (entries_of-append lock_author j v.seen (pre.0 ++ rest)) ∙ ap (entries_of lock_author j) whole ∙ fit.own ∙ sym fit.known in
        nil_right (entries_of lock_author j pre.0) (entries_of lock_author j rest) (sym (entries_of-append lock_author j pre.0 rest) ∙ append_same (entries_of lock_author j v.seen) (entries_of lock_author j (pre.0 ++ rest)) same)

    no_other : (j : ℕ) → j ≢ k → entries_of lock_author j rest ≡ []
    no_other j ne = ⊎_elim
        (λ (within : j < length views). let v = Rattle.evl_words.proofs.Sequences.at_some views j within in at j v.0 ne v.1)
        (λ (far : length views ≤ j). nil_right (entries_of lock_author j seen) (entries_of lock_author j rest) (sym (entries_of-append lock_author j seen rest) ∙ ap (entries_of lock_author j) is ∙ h.others j far))
        (near j (length views))

module _ (k : ℕ) (log log' : List LockEntry) (views : List LockView) (u : LockView) (n n' : ℕ) (s s' : LockState) (h : LockHistory n log s views) (h' : LockHistory n' log' s' (set views k u)) where
  abbrev AllSaw : ℕ → List LockEntry → Type 0
  AllSaw m seen = (j : ℕ) (v : LockView) → j < m → j ≢ k → get_elem? views j ≡ some v → IsPrefix v.seen seen

  below : (j m : ℕ) → j < suc m → j ≢ m → j < m
  below j m less ne = omega arith

  one_saw : (m : ℕ) (seen : List LockEntry) → IsPrefix seen log → IsPrefix seen log' → AllSaw m seen → m ≢ k → (o : maybe.Option LockView) → get_elem? views m ≡ o → (all : List LockEntry) × IsPrefix all log × IsPrefix all log' × AllSaw (suc m) all
  one_saw m seen pre pre' saw ne none there = (
    seen,
    pre,
    pre',
    λ j v less other at. dite (ℕ_discrete j m)
        (λ (same : j ≡ m). absurd (let q : none ≡ some v = sym there ∙ ap (get_elem? views) (sym same) ∙ at in cc))
        (λ (apart : j ≢ m). saw j v (below j m less apart) other at),
  )
  one_saw m seen pre pre' saw ne (some w) there = ⊎_elim
      (λ (t : (ws : List LockEntry) × (w.seen ≡ seen ++ ws)). (
        w.seen,
        fit.seen,
        fit'.seen,
        λ j v less other at. dite (ℕ_discrete j m)
            (λ (same : j ≡ m). let is : w ≡ v = same_view j v same at in ([], append-nil v.seen ∙ sym (ap (λ (x : LockView). x.seen) is)))
            (λ (apart : j ≢ m). let q = saw j v (below j m less apart) other at in (q.0 ++ t.0, sym (append_assoc v.seen q.0 t.0) ∙ ap (λ l. l ++ t.0) q.1 ∙ sym t.1)),
      ))
      (λ (t : (ws : List LockEntry) × (seen ≡ w.seen ++ ws)). (
        seen,
        pre,
        pre',
        λ j v less other at. dite (ℕ_discrete j m)
            (λ (same : j ≡ m). let is : w ≡ v = same_view j v same at in (t.0, ap (λ (x : LockView). x.seen ++ t.0) (sym is) ∙ sym t.1))
            (λ (apart : j ≢ m). saw j v (below j m less apart) other at),
      ))
      (beginnings seen pre.0 w.seen fit.seen.0 (pre.1 ∙ sym fit.seen.1))
    where
      fit : Fits lock_author log m w
      fit = h.fits m w there

      fit' : Fits lock_author log' m w
      fit' = h'.fits m w (set_else views k m u ne ∙ there)

      same_view : (j : ℕ) (v : LockView) → j ≡ m → get_elem? views j ≡ some v → w ≡ v
      same_view j v same at = let q : some w ≡ some v = sym there ∙ ap (get_elem? views) (sym same) ∙ at in cc

  -- the longest history that one of the others has seen
  others_saw : (m : ℕ) → (seen : List LockEntry) × IsPrefix seen log × IsPrefix seen log' × AllSaw m seen
  others_saw zero = ([], (log, refl), (log', refl), λ j v less ne there. absurd (omega arith))
  others_saw (suc m) =
      let before = others_saw m in
      dite (ℕ_discrete m k)
      (λ (same : m ≡ k). (before.0, before.1, before.2, λ j v less ne there. before.3 j v (below j m less (λ q. ne (q ∙ same))) ne there))
      (λ (ne : m ≢ k). one_saw m before.0 before.1 before.2 before.3 ne (get_elem? views m) refl)

  mine_is : (seen rest : List LockEntry) (whole mine : List LockEntry) → seen ++ rest ≡ whole → entries_of lock_author k whole ≡ mine → AllBy lock_author k rest → count_replies is_lost rest ≡ 0 → count_replies is_lost mine ≡ count_replies is_lost (entries_of lock_author k seen)
  mine_is seen rest whole mine is fit own zeroes =
      let parts : mine ≡ entries_of lock_author k seen ++ rest = sym fit ∙ ap (entries_of lock_author k) (sym is) ∙ entries_of-append lock_author k seen rest ∙ ap (λ l. entries_of lock_author k seen ++ l) (own_all k rest own) in
      let count = ap (count_replies is_lost) parts in
      let sum = counted-append is_lost (entries_of lock_author k seen) rest in
      omega (arith, count, sum, zeroes)

  -- no take more is lost
  pub none_lost : IsOurs k s → (v : LockView) → get_elem? views k ≡ some v → count_replies is_lost u.mine ≡ count_replies is_lost v.mine
  none_lost mine v at =
      let saw = others_saw (length views) in
      let all : (j : ℕ) (w : LockView) → j ≢ k → get_elem? views j ≡ some w → IsPrefix w.seen saw.0 = λ j w ne there. saw.3 j w (at_below views j w there) ne there in
      let own = rest_own k n log saw.0 saw.1.0 s views h saw.1.1 all in
      let own' = rest_own k n' log' saw.0 saw.2.0 s' (set views k u) h' saw.2.1 (λ j w ne there. all j w ne (sym (set_else views k j u ne) ∙ there)) in
      let cut = run_split LockStep idle s saw.0 saw.1.0 (subst (λ l. Run LockStep idle l s) (sym saw.1.1) h.run) in
      let cut' = run_split LockStep idle s' saw.0 saw.2.0 (subst (λ l. Run LockStep idle l s') (sym saw.2.1) h'.run) in
      let ours : IsOurs k cut.0 = ends_ours k cut.0 s saw.1.0 own cut.2 mine in
      let same : cut.0 ≡ cut'.0 = run_same lock_machine idle saw.0 cut.0 cut'.0 cut.1 cut'.1 in
      let here = mine_is saw.0 saw.1.0 log v.mine saw.1.1 (h.fits k v at).own own (ours_run k cut.0 s saw.1.0 own ours cut.2) in
      let there = mine_is saw.0 saw.2.0 log' u.mine saw.2.1 (h'.fits k u (set_here views k u (at_below views k v at))).own own' (ours_run k cut'.0 s' saw.2.0 own' (subst (IsOurs k) same ours) cut'.2) in
      there ∙ sym here

idle_word : (s : LockState) → 0 ≡ lock_word s → s ≡ idle
idle_word idle e = refl
idle_word (busy j) e = absurd (omega arith)

-- where the word is 0, or the thread has the kernel, no other thread has it
pub ours_free : (k : ℕ) (s : LockState) → 0 ≡ lock_word s → IsOurs k s
ours_free k s e = subst (IsOurs k) (sym (idle_word s e)) tt

pub ours_held : (k : ℕ) (s : LockState) → has_it s k ≡ true → IsOurs k s
ours_held k idle e = absurd (true≢false (sym e))
ours_held k (busy j) e = dite (ℕ_discrete j k) (λ same. same) (λ ne. absurd (true≢false (sym e ∙ ne_eqb j k ne)))

-- So nothing that the thread may come to know instead has another number of lost takes
pub no_false_loss : {B : Type 0} (log log' : List LockEntry) (n n' : ℕ) (cores : List (CorePart B)) (k : ℕ) (c d : CorePart B) → (kept : LockKept log n cores) → LockKept log' n' (set cores k d) → IsOurs k kept.world.state → get_elem? cores k ≡ some c → d.lost ≡ c.lost
no_false_loss {B} log log' n n' cores k c d kept kept' mine at =
    let w = kept.world in
    let now : IsLockWorld (record { word = n'; log = log'; views = set (map lock_of cores) k d.lock }) = subst (λ (vs : List LockView). IsLockWorld (record { word = n'; log = log'; views = vs })) (map-set lock_of cores k d) kept'.world in
    let same = none_lost k log log' (map lock_of cores) d.lock n n' w.state now.state w.history now.history mine c.lock (at_map lock_of cores k c at) in
    (kept'.knows k d (set_here cores k d (at_below cores k c at))).lost ∙ same ∙ sym (kept.knows k c at).lost
