-- The world that lies over a word, after a step on that.
use Rattle.std.proofs.Common.{◌≡◌, ◌≢◌, ◌⊎◌, inl, inr, ℕ, zero, suc, ◌+◌, ◌<◌, ◌==◌, Bool, true, false, List, [], ◌∷◌, ◌++◌, length, get_or, set, refl, sym, ap, ◌∙◌, subst, ⊎_elim, arith, eq-eqb, ne_eqb}
use Rattle.std.specs.Prelude.{Some, None, is_some, if◌then◌else◌}
use Rattle.std.proofs.lemmas.List.{length-set}
use mathlib.Core.Option.{some, some-ne-none, some-injective}
use lib.ListN.{get_elem?}
use Rattle.evl_base.specs.declared.stage.Stage.{Stage}
use Rattle.evl_words.specs.declared.gate.GateHold.{GateHold}
use Rattle.evl_words.specs.declared.mutex.MutexReply.{MutexReply}
use Rattle.evl_words.specs.declared.mutex.MutexReply.TheVariants.{Passed, Refused, Done, Claimed, Won, Seizing, Queued, Seen}
use Rattle.evl_words.specs.declared.mutex.MutexRole.{MutexRole}
use Rattle.evl_words.specs.declared.mutex.MutexRole.TheVariants.{Bystander, Winner, Waiter, Owner}
use Rattle.evl_words.specs.Events.{Event, Happens, seat_after, world_after}
use Rattle.evl_words.specs.Machine.{Run}
use Rattle.evl_words.specs.GateWorld.{GateView, GateWorld, GateKind, gate_steps, hold, step_may as gate_may, step_word as gate_word, step_held as gate_held}
use Rattle.evl_words.specs.MutexBits.{claim_reply, offers_to}
use Rattle.evl_words.specs.MutexWorld.{MutexView, MutexWorld, MutexKind, IsMutexWorld, EndsOffered, tries, unlocks, claims, settles, offers, frees, asks, forgets, awaits, accepts, mutex_steps, owns, role_claimed, queued_role, forgotten, step_role, step_may as mutex_may, step_word as mutex_word, step_held as mutex_held}
use Rattle.evl_words.proofs.GateSteps.{step_keeps as gate_keeps}
use Rattle.evl_words.proofs.MutexSteps.{names_within, step_keeps as mutex_keeps}
use Rattle.evl_words.proofs.MutexWords.{offers_to-word}
use Rattle.lab_step_orders.specs.Programs.{limit_of, stage_of}
use Rattle.lab_step_orders.specs.StepLaws.{LiesAtGate, LiesAtMutex, held_stage, opened_gate, opened_mutex}
use Rattle.lab_step_orders.specs.Words.{Shared, holds, gate_kind, gate_view, gate_after, mutex_view, mutex_after}
use Rattle.lab_step_orders.specs.declared.crews.Crew.{Crew}
use Rattle.lab_step_orders.specs.declared.steps.GateStep.{GateStep}
use Rattle.lab_step_orders.specs.declared.steps.GateStep.TheVariants.{Look, Exchange, Leave, Claim, Unclaim}
use Rattle.lab_step_orders.specs.declared.steps.MutexStep.{MutexStep}
use Rattle.lab_step_orders.specs.declared.steps.MutexStep.TheVariants.{Try, Unlock, Win, Mark, Offer, Free, Accept, Forget}

-- ---- lists

pub there : {A : Type 0} (xs : List A) (i : ℕ) → i < length xs → (x : A) × (get_elem? xs i ≡ some x)
there [] i lt = absurd (omega arith)
there (x ∷ xs) zero lt = (x, refl)
there (x ∷ xs) (suc i) lt = there xs i (omega arith)

pub set_here : {A : Type 0} (xs : List A) (i : ℕ) (y d : A) → i < length xs → get_or (set xs i y) i d ≡ y
set_here [] i y d lt = absurd (omega arith)
set_here (x ∷ xs) zero y d lt = refl
set_here (x ∷ xs) (suc i) y d lt = set_here xs i y d (omega arith)

pub set_elsewhere : {A : Type 0} (xs : List A) (i j : ℕ) (y d : A) → j ≢ i → get_or (set xs i y) j d ≡ get_or xs j d
set_elsewhere [] i j y d ne = refl
set_elsewhere (x ∷ xs) zero zero y d ne = absurd (ne refl)
set_elsewhere (x ∷ xs) zero (suc j) y d ne = refl
set_elsewhere (x ∷ xs) (suc i) zero y d ne = refl
set_elsewhere (x ∷ xs) (suc i) (suc j) y d ne = set_elsewhere xs i j y d (λ e. ne (ap suc e))

at_set : {A : Type 0} (xs : List A) (i j : ℕ) (a b : A) → get_elem? (set xs i a) j ≡ some b → ((j ≡ i) × (a ≡ b)) ⊎ ((j ≢ i) × (get_elem? xs j ≡ some b))
at_set [] i j a b e = absurd (some-ne-none b (sym e))
at_set (x ∷ xs) zero zero a b e = inl (refl, some-injective a b e)
at_set (x ∷ xs) zero (suc j) a b e = inr ((λ h. omega arith), e)
at_set (x ∷ xs) (suc i) zero a b e = inr ((λ h. omega arith), e)
at_set (x ∷ xs) (suc i) (suc j) a b e = ⊎_elim (λ t. inl (ap suc t.0, t.1)) (λ t. let n = t.0 in inr ((λ h. n (omega arith)), t.1)) (at_set xs i j a b e)

-- a run with one event more
run_more : {S E : Type 0} (step : S → E → S → Type 0) (s t u : S) (es : List E) (e : E) → Run step s es t → step t e u → Run step s (es ++ e ∷ []) u
run_more step s t u [] e run one = (u, subst (λ (z : _). step z e u) (sym run) one, refl)
run_more step s t u (d ∷ es) e run one = (run.0, run.1, run_more step run.0 t u es e run.2 one)

-- ---- gates

-- what becomes of a word doesn't depend on the view
gate_words : (found k : ℕ) (v u : GateView) (stage : Stage) (step : GateStep) → gate_word found k v (gate_kind stage step) ≡ gate_word found k u (gate_kind stage step)
gate_words found k v u stage Look = refl
gate_words found k v u stage (Exchange old) = refl
gate_words found k v u stage Leave = refl
gate_words found k v u stage Claim = refl
gate_words found k v u stage Unclaim = refl

same_stage : (limit : ℕ) (stage : Stage) (b : Bool) → hold limit (held_stage stage b) ≡ hold limit (held_stage stage (is_some (held_stage stage b)))
same_stage limit stage true = refl
same_stage limit stage false = refl

-- and what is held only on what was
gate_helds : (found k limit : ℕ) (stage : Stage) (b : Bool) (v : GateView) → v.held ≡ hold limit (held_stage stage b) → (step : GateStep)
    → gate_held found k v (gate_kind stage step) ≡ hold limit (held_stage stage (is_some (gate_held found k (gate_view limit stage b) (gate_kind stage step)).stage))
gate_helds found k limit stage b v e Look = e ∙ same_stage limit stage b
gate_helds found k limit stage b v e (Exchange old) = by (found == old) where
  by : (t : Bool) → (if t then hold v.held.limit (Some stage) else v.held) ≡ hold limit (held_stage stage (is_some (if t then hold limit (Some stage) else hold limit (held_stage stage b)).stage))
  by true = ap (λ (h : GateHold). hold h.limit (Some stage)) e
  by false = e ∙ same_stage limit stage b
gate_helds found k limit stage b v e Leave = ap (λ (h : GateHold). hold h.limit None) e
gate_helds found k limit stage b v e Claim = e ∙ same_stage limit stage b
gate_helds found k limit stage b v e Unclaim = e ∙ same_stage limit stage b

-- a step of the caller k at the gate i is a step of the seat k in the world that lies over it
pub gate_moves : (c : Crew) (i : ℕ) (g : Shared) (w : GateWorld) → LiesAtGate c i g w → (k : ℕ) → k < length c.callers.items → (step : GateStep)
    → ((v : GateView) → v.held ≡ hold (limit_of c i) (held_stage (stage_of c k) (holds g k)) → gate_may k v (gate_kind (stage_of c k) step))
    → (u : GateWorld) × LiesAtGate c i (gate_after (limit_of c i) (stage_of c k) k step g) u
gate_moves c i g w lies k lt step may =
    let limit = limit_of c i in
    let stage = stage_of c k in
    let seat = there w.views k (omega (arith, lt, lies.long)) in
    let near : k < length g.held = omega (arith, lt, lies.wide) in
    let v = seat.0 in
    let kind = gate_kind stage step in
    let mine = lies.seats k v seat.1 in
    let new = gate_after limit stage k step g in
    let b = is_some (gate_held g.word k (gate_view limit stage (holds g k)) kind).stage in
    let after = seat_after gate_steps w.word w.log k v kind in
    let event : Event GateKind = record { by = k; kind = kind } in (
      world_after gate_steps w k v kind,
      record {
        events = lies.events ++ event ∷ [];
        run = run_more (Happens gate_steps) (opened_gate limit (length c.callers.items)) w (world_after gate_steps w k v kind) lies.events event lies.run (record { view = v; at = seat.1; may = may v mine; changed = refl });
        stands = gate_keeps limit w lies.stands k v seat.1 kind (may v mine);
        word = gate_words w.word k v (gate_view limit stage (holds g k)) stage step ∙ ap (λ n. gate_word n k (gate_view limit stage (holds g k)) kind) lies.word;
        long = length-set w.views k after ∙ lies.long;
        wide = length-set g.held k b ∙ lies.wide;
        seats = λ j u at. ⊎_elim
            (λ (same : (j ≡ k) × (after ≡ u)).
            let held : u.held ≡ hold limit (held_stage stage b) =
            ap (λ (z : GateView). z.held) (sym same.1)
            ∙ (gate_helds w.word k limit stage (holds g k) v mine step
            ∙ ap (λ n. hold limit (held_stage stage (is_some (gate_held n k (gate_view limit stage (holds g k)) kind).stage))) lies.word) in
            let here : u.held ≡ hold limit (held_stage stage (holds new k)) = held ∙ ap (λ t. hold limit (held_stage stage t)) (sym (set_here g.held k b false near)) in
            subst (λ (l : ℕ). u.held ≡ hold limit (held_stage (stage_of c l) (holds new l))) (sym same.0) here)
            (λ (other : (j ≢ k) × (get_elem? w.views j ≡ some u)).
            lies.seats j u other.1 ∙ ap (λ t. hold limit (held_stage (stage_of c j) t)) (sym (set_elsewhere g.held k j b false other.0)))
            (at_set w.views k j after u at);
      },
    )

-- ---- mutexes

-- what becomes of a word doesn't depend on the view
mutex_words : (found k : ℕ) (v u : MutexView) (kind : MutexKind) → mutex_word found k v kind ≡ mutex_word found k u kind
mutex_words found k v u tries = refl
mutex_words found k v u unlocks = refl
mutex_words found k v u claims = refl
mutex_words found k v u settles = refl
mutex_words found k v u (offers next more) = refl
mutex_words found k v u frees = refl
mutex_words found k v u asks = refl
mutex_words found k v u forgets = refl
mutex_words found k v u awaits = refl
mutex_words found k v u accepts = refl

owns_queued : (r : MutexRole) → owns (queued_role r) ≡ owns r
owns_queued Bystander = refl
owns_queued Winner = refl
owns_queued Waiter = refl
owns_queued Owner = refl

owns_forgotten : (r : MutexRole) → owns (forgotten r) ≡ owns r
owns_forgotten Bystander = refl
owns_forgotten Winner = refl
owns_forgotten Waiter = refl
owns_forgotten Owner = refl

owns_claimed : (reply : MutexReply) (r s : MutexRole) → owns r ≡ owns s → owns (role_claimed reply r) ≡ owns (role_claimed reply s)
owns_claimed Won r s e = refl
owns_claimed (Queued owner) r s e = owns_queued r ∙ (e ∙ sym (owns_queued s))
owns_claimed Seizing r s e = e
owns_claimed Passed r s e = e
owns_claimed (Refused refusal) r s e = e
owns_claimed Done r s e = e
owns_claimed Claimed r s e = e
owns_claimed (Seen told) r s e = e

-- whether a seat owns the mutex then depends on whether it does
role_owns : (found k : ℕ) (r s : MutexRole) → owns r ≡ owns s → (kind : MutexKind) → owns (step_role found k r kind) ≡ owns (step_role found k s kind)
role_owns found k r s e tries = by (found == 0) where
  by : (b : Bool) → owns (if b then Owner else r) ≡ owns (if b then Owner else s)
  by true = refl
  by false = e
role_owns found k r s e unlocks = by (found == k + 1) where
  by : (b : Bool) → owns (if b then Bystander else r) ≡ owns (if b then Bystander else s)
  by true = refl
  by false = e
role_owns found k r s e claims = owns_claimed (claim_reply found) r s e
role_owns found k r s e settles = refl
role_owns found k r s e (offers next more) = refl
role_owns found k r s e frees = refl
role_owns found k r s e asks = e
role_owns found k r s e forgets = by (offers_to found k) where
  by : (b : Bool) → owns (if b then r else forgotten r) ≡ owns (if b then s else forgotten s)
  by true = e
  by false = owns_forgotten r ∙ (e ∙ sym (owns_forgotten s))
role_owns found k r s e awaits = e
role_owns found k r s e accepts = refl

view_owns : (b : Bool) → b ≡ owns (mutex_view b).held.role
view_owns true = refl
view_owns false = refl

owner_is : (r : MutexRole) → owns r ≡ true → r ≡ Owner
owner_is Bystander e = cc
owner_is Winner e = cc
owner_is Waiter e = cc
owner_is Owner e = refl

set_there : {A : Type 0} (xs : List A) (i : ℕ) (a : A) → i < length xs → get_elem? (set xs i a) i ≡ some a
set_there [] i a lt = absurd (omega arith)
set_there (x ∷ xs) zero a lt = refl
set_there (x ∷ xs) (suc i) a lt = set_there xs i a (omega arith)

-- a world lies over a word that these callers own
record LiesOver (n word : ℕ) (own : ℕ → Bool) (w : MutexWorld) : Type 0 where
  pub events : List (Event MutexKind)
  pub run : Run (Happens mutex_steps) (opened_mutex n) events w
  pub stands : IsMutexWorld w
  pub word_is : w.word ≡ word
  pub long : length w.views ≡ n
  pub sized : (k : ℕ) (v : MutexView) → get_elem? w.views k ≡ some v → v.held.seats ≡ n
  pub seats : (k : ℕ) (v : MutexView) → get_elem? w.views k ≡ some v → owns v.held.role ≡ own k

-- a step of a seat
goes : (n word : ℕ) (own next : ℕ → Bool) (w : MutexWorld) → LiesOver n word own w → (k : ℕ) (kind : MutexKind) (v : MutexView) → get_elem? w.views k ≡ some v → mutex_may k v kind
    → next k ≡ owns (mutex_held word k (mutex_view (own k)) kind).role → ((j : ℕ) → j ≢ k → next j ≡ own j)
    → LiesOver n (mutex_word word k (mutex_view (own k)) kind) next (world_after mutex_steps w k v kind)
goes n word own next w lies k kind v at may here others =
    let after = seat_after mutex_steps w.word w.log k v kind in
    let event : Event MutexKind = record { by = k; kind = kind } in record {
      events = lies.events ++ event ∷ [];
      run = run_more (Happens mutex_steps) (opened_mutex n) w (world_after mutex_steps w k v kind) lies.events event lies.run (record { view = v; at = at; may = may; changed = refl });
      stands = mutex_keeps w lies.stands k v at kind may;
      word_is = mutex_words w.word k v (mutex_view (own k)) kind ∙ ap (λ x. mutex_word x k (mutex_view (own k)) kind) lies.word_is;
      long = length-set w.views k after ∙ lies.long;
      sized = λ j u there. ⊎_elim
          (λ (same : (j ≡ k) × (after ≡ u)). ap (λ (z : MutexView). z.held.seats) (sym same.1) ∙ lies.sized k v at)
          (λ (other : (j ≢ k) × (get_elem? w.views j ≡ some u)). lies.sized j u other.1)
          (at_set w.views k j after u there);
      seats = λ j u there. ⊎_elim
          (λ (same : (j ≡ k) × (after ≡ u)).
          let role : owns u.held.role ≡ next k =
          ap (λ (z : MutexView). owns z.held.role) (sym same.1)
          ∙ (ap (λ x. owns (mutex_held x k v kind).role) lies.word_is
          ∙ (role_owns word k v.held.role (mutex_view (own k)).held.role (lies.seats k v at ∙ view_owns (own k)) kind
          ∙ sym here)) in
          subst (λ (l : ℕ). owns u.held.role ≡ next l) (sym same.0) role)
          (λ (other : (j ≢ k) × (get_elem? w.views j ≡ some u)). lies.seats j u other.1 ∙ sym (others j other.0))
          (at_set w.views k j after u there);
    }

-- what a caller's steps want of a mutex with this word, which it has or hasn't
abbrev pub MutexMay : ℕ → ℕ → ℕ → Bool → MutexStep → Type 0
MutexMay n k word h Try = h ≡ false
MutexMay n k word h Unlock = h ≡ true
MutexMay n k word h Win = word ≡ 0
MutexMay n k word h Mark = Unit {0}
MutexMay n k word h (Offer next more) = (h ≡ true) × (next < n)
MutexMay n k word h Free = h ≡ true
MutexMay n k word h Accept = offers_to word k ≡ true
MutexMay n k word h Forget = Unit {0}

module _ (n : ℕ) (m : Shared) (w : MutexWorld) (lies : LiesAtMutex n m w) (k : ℕ) (lt : k < n) where
  over : LiesOver n m.word (holds m) w
  over = record { events = lies.events; run = lies.run; stands = lies.stands; word_is = lies.word; long = lies.long; sized = lies.sized; seats = lies.seats }

  near : k < length m.held
  near = omega (arith, lt, lies.wide)

  seat : (v : MutexView) × (get_elem? w.views k ≡ some v)
  seat = there w.views k (omega (arith, lt, lies.long))

  mine : owns seat.0.held.role ≡ holds m k
  mine = lies.seats k seat.0 seat.1

  at_last : (word : ℕ) (b : Bool) (u : MutexWorld) → LiesOver n word (λ j. get_or (set m.held k b) j false) u → LiesAtMutex n (record { word = word; held = set m.held k b }) u
  at_last word b u l = record {
    events = l.events;
    run = l.run;
    stands = l.stands;
    word = l.word_is;
    long = l.long;
    wide = length-set m.held k b ∙ lies.wide;
    sized = l.sized;
    seats = l.seats;
  }

  one : (kind : MutexKind) → mutex_may k seat.0 kind
      → (u : MutexWorld) × LiesAtMutex n (record { word = mutex_word m.word k (mutex_view (holds m k)) kind; held = set m.held k (owns (mutex_held m.word k (mutex_view (holds m k)) kind).role) }) u
  one kind may =
      let b = owns (mutex_held m.word k (mutex_view (holds m k)) kind).role in (
        world_after mutex_steps w k seat.0 kind,
        at_last (mutex_word m.word k (mutex_view (holds m k)) kind) b (world_after mutex_steps w k seat.0 kind)
            (goes n m.word (holds m) (λ j. get_or (set m.held k b) j false) w over k kind seat.0 seat.1 may (set_here m.held k b false near) (λ j ne. set_elsewhere m.held k j b false ne)),
      )

  module _ (first second : MutexKind) where
    b1 : Bool
    b1 = owns (mutex_held m.word k (mutex_view (holds m k)) first).role

    word1 : ℕ
    word1 = mutex_word m.word k (mutex_view (holds m k)) first

    own1 : ℕ → Bool
    own1 j = if j == k then b1 else holds m j

    own_here : own1 k ≡ b1
    unfolding own1
    own_here = ap (λ t. if t then b1 else holds m k) (eq-eqb k k refl)

    own_else : (j : ℕ) → j ≢ k → own1 j ≡ holds m j
    unfolding own1
    own_else j ne = ap (λ t. if t then b1 else holds m j) (ne_eqb j k ne)

    w1 : MutexWorld
    w1 = world_after mutex_steps w k seat.0 first

    v1 : MutexView
    v1 = seat_after mutex_steps w.word w.log k seat.0 first

    two : mutex_may k seat.0 first → (LiesOver n word1 own1 w1 → mutex_may k v1 second)
        → (u : MutexWorld) × LiesAtMutex n (record { word = mutex_word word1 k (mutex_view b1) second; held = set m.held k (owns (mutex_held word1 k (mutex_view b1) second).role) }) u
    unfolding b1 word1 w1 v1
    two may more =
        let l1 = goes n m.word (holds m) own1 w over k first seat.0 seat.1 may own_here own_else in
        let b2 = owns (mutex_held word1 k (mutex_view b1) second).role in
        let same = λ (b : Bool). owns (mutex_held word1 k (mutex_view b) second).role in
        let u = world_after mutex_steps w1 k v1 second in
        let l2 = goes n word1 own1 (λ j. get_or (set m.held k b2) j false) w1 l1 k second v1 (set_there w.views k v1 (omega (arith, lt, lies.long))) (more l1)
        (set_here m.held k b2 false near ∙ ap same (sym own_here)) (λ j ne. set_elsewhere m.held k j b2 false ne ∙ sym (own_else j ne)) in
        (u, at_last (mutex_word word1 k (mutex_view b1) second) b2 u (subst (λ (b : Bool). LiesOver n (mutex_word word1 k (mutex_view b) second) (λ j. get_or (set m.held k b2) j false) u) own_here l2))

  -- who claims a free mutex has won it
  winner : m.word ≡ 0 → (v1 claims settles).held.role ≡ Winner
  unfolding v1
  winner free = ap (λ (x : ℕ). role_claimed (claim_reply x) seat.0.held.role) (lies.word ∙ free)

  -- and who finds it offered to itself has seen that
  seen_offered : offers_to m.word k ≡ true → LiesOver n m.word (own1 awaits accepts) (w1 awaits accepts) → EndsOffered k (v1 awaits accepts).seen
  unfolding v1 w1
  seen_offered offered l =
      let h = l.stands in
      let tie = h.history.tied in
      (h.state, h.history.run, sym (offers_to-word h.state k (names_within _ h.state tie.few tie.below)) ∙ (ap (λ (x : ℕ). offers_to x k) (sym tie.word ∙ l.word_is) ∙ offered))

  pub mutex_moves : (step : MutexStep) → MutexMay n k m.word (holds m k) step → (u : MutexWorld) × LiesAtMutex n (mutex_after k step m) u
  unfolding b1 word1 own1 w1 v1
  mutex_moves Try may = one tries (mine ∙ may)
  mutex_moves Unlock may = one unlocks (owner_is seat.0.held.role (mine ∙ may))
  mutex_moves Mark may = one claims tt
  mutex_moves (Offer next more) may = one (offers next more) (owner_is seat.0.held.role (mine ∙ may.0), subst (λ (x : ℕ). next < x) (sym (lies.sized k seat.0 seat.1)) may.1)
  mutex_moves Free may = one frees (owner_is seat.0.held.role (mine ∙ may))
  mutex_moves Forget may = one forgets tt
  mutex_moves Win may = two claims settles tt (λ l. winner may)
  mutex_moves Accept may = two awaits accepts tt (λ l. seen_offered may l)
