-- A run is determined by its calls.
use Rattle.std.proofs.Common.{◌≡◌, ℕ, List, [], ◌∷◌, ◌++◌, length, map, Option, None, Result, Ok, Err, refl, sym, ap, ◌∙◌, subst}
use Rattle.evl_base.specs.declared.call.Call.{Call}
use Rattle.evl_base.specs.declared.reply.Reply.{Reply}
use Rattle.evl_base.specs.declared.play.Play.{Play}
use Rattle.evl_base.specs.declared.entry.Entry.{Entry}
use Rattle.evl_base.specs.declared.refusal.Refusal.{Refusal}
use Rattle.evl_kernel.specs.settling.Paths.{Along}
use Rattle.evl_kernel.specs.state.States.{State}
use Rattle.evl_kernel.specs.calls.Effects.{Effect}
use Rattle.evl_kernel.specs.calls.Serving.{answer}
use Rattle.evl_kernel.specs.settling.Settling.{Settling, Settles, next_play, after_call}
use Rattle.evl_kernel.specs.histories.Histories.{Run, Follows, EntryStep}
use Rattle.evl_kernel.specs.histories.Laws.{call_of}

cons_heads : {A : Type 0} {x y : A} {xs ys : List A} → x ∷ xs ≡ y ∷ ys → x ≡ y
cons_heads h = cc

cons_tails : {A : Type 0} {x y : A} {xs ys : List A} → x ∷ xs ≡ y ∷ ys → xs ≡ ys
cons_tails h = cc

-- two paths that both end where nothing comes next are one
pub one_way : {S P : Type 0} (next : S → Option (P × S)) (at : S) (outs more : List P) (last end : S)
    → Along next at outs last → next last ≡ None → Along next at more end → next end ≡ None
    → (outs ≡ more) × (last ≡ end)
one_way next at [] [] last end p over q done = (refl, p ∙ sym q)
one_way {S} next at [] (one ∷ more) last end p over (mid, here, q) done =
    let none : next at ≡ None = subst (λ (s : S). next s ≡ None) p over in cc
one_way {S} next at (one ∷ outs) [] last end (mid, here, p) over q done =
    let none : next at ≡ None = subst (λ (s : S). next s ≡ None) q done in cc
one_way {S} {P} next at (one ∷ outs) (two ∷ more) last end (mid, here, p) over (mid', there, q) done =
    let both : ◌≡◌ {A = P × S} (one, mid) (two, mid') = cc in
    let same : mid' ≡ mid = ap (λ (x : P × S). x.1) (sym both) in
    let rest = one_way next mid outs more last end p over (subst (λ (s : S). Along next s more end) same q) done in
    (ap (λ (x : P × S). x.0 ∷ outs) both ∙ ap (λ (xs : List P). two ∷ xs) rest.0, rest.1)

pub settles_one_way : (s : State) (plays more : List Play) (after other : State) → Settles s plays after → Settles s more other → (plays ≡ more) × (after ≡ other)
settles_one_way s plays more after other p q =
    let one = one_way next_play (after_call s) plays more p.last q.last p.played p.ended q.played q.ended in
    (one.0, p.left ∙ (ap (λ (at : Settling). at.state) one.1 ∙ sym q.left))

pub follows_one_way : (old : State) (effect : Effect) (reply given : Result Reply Refusal) (plays more : List Play) (new other : State)
    → Follows old effect reply plays new → Follows old effect given more other → (reply ≡ given) × (plays ≡ more) × (new ≡ other)
follows_one_way old (Err refusal) reply given plays more new other p q = (p.0 ∙ sym q.0, p.1 ∙ sym q.1, p.2 ∙ sym q.2)
follows_one_way old (Ok (said, changed)) reply given plays more new other p q =
    let one = settles_one_way changed plays more new other p.1 q.1 in (p.0 ∙ sym q.0, one.0, one.1)

pub entry_steps_one_way : (old : State) (entry other : Entry) (plays more : List Play) (new end : State) → call_of entry ≡ call_of other
    → EntryStep old entry plays new → EntryStep old other more end → (entry ≡ other) × (plays ≡ more) × (new ≡ end)
entry_steps_one_way old entry other plays more new end calls p q =
    let effect = λ (c : ℕ × Call). answer old c.0 c.1 in
    let q' : Follows old (effect (call_of entry)) other.reply more end = subst (λ (c : ℕ × Call). Follows old (effect c) other.reply more end) (sym calls) q.1 in
    let same = follows_one_way old (effect (call_of entry)) entry.reply other.reply plays more new end p.1 q' in
    let counts : entry.plays ≡ other.plays = p.0 ∙ (ap (λ (ps : List Play). length ps) same.1 ∙ sym q.0) in
    ((λ i. record { caller = record { 0 = (calls i).0 }; call = (calls i).1; reply = same.0 i; plays = counts i }), same.1, same.2)

pub run_one_way : (opening : State) (entries others : List Entry) (plays more : List Play) (state other : State)
    → map call_of entries ≡ map call_of others → Run opening entries plays state → Run opening others more other
    → (entries ≡ others) × (plays ≡ more) × (state ≡ other)
run_one_way opening [] [] plays more state other calls p q = (refl, p.0 ∙ sym q.0, p.1 ∙ sym q.1)
run_one_way opening [] (e ∷ es) plays more state other calls p q = absurd (nil_cons calls)
  where
    nil_cons : [] ≡ call_of e ∷ map call_of es → ⊥
    nil_cons h = cc
run_one_way opening (e ∷ es) [] plays more state other calls p q = absurd (cons_nil calls)
  where
    cons_nil : call_of e ∷ map call_of es ≡ [] → ⊥
    cons_nil h = cc
run_one_way opening (e ∷ es) (f ∷ fs) plays more state other calls (own, rest, mid, split, step, p) (its, others, end, divide, stride, q) =
    let first : call_of e ≡ call_of f = cons_heads calls in
    let others_calls : map call_of es ≡ map call_of fs = cons_tails calls in
    let one = entry_steps_one_way opening e f own its mid end first step stride in
    let q' : Run mid fs others other = subst (λ (s : State). Run s fs others other) (sym one.2) q in
    let all = run_one_way mid es fs rest others state other others_calls p q' in
    ((λ i. one.0 i ∷ all.0 i), split ∙ ((λ i. one.1 i ++ all.1 i) ∙ sym divide), all.2)
