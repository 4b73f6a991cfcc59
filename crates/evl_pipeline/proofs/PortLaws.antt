-- Lists of optional values, and how the ports of a stage lead to its callbacks after each change.
use Rattle.std.proofs.Common.{◌≡◌, ◌≢◌, ℕ, suc, zero, ◌+◌, ◌<◌, ◌≤◌, Bool, true, false, ◌==◌, List, [], ◌∷◌, length, map, Option, Some, None, is_some, option_map, slice_index_or, slice_set, refl, sym, ap, ◌∙◌, arith, count_by, cond, replicate, if◌then◌else◌}
use Rattle.std.proofs.lemmas.List.Sums.{sum_by-set, count_by-le-length}
use Rattle.std.proofs.lemmas.List.{get_or-set_same, get_or-set_other, length-set}
use Rattle.std.proofs.lemmas.Bool.{eqb-false, eqb-true}
use Rattle.slab.specs.Slab.{Slab, get, Updates}
use Rattle.evl_pipeline.specs.declared.held.Held.{Held}
use Rattle.evl_pipeline.specs.declared.port.Port.{Port}
use Rattle.evl_base.specs.declared.stage.Stage.{Stage}
use Rattle.evl_pipeline.specs.declared.answer.Answer.{Answer}
use Rattle.evl_pipeline.specs.declared.fire.Fire.{Fire}
use Rattle.evl_pipeline.specs.declared.plan.Plan.{Plan}
use Rattle.evl_pipeline.specs.Counts.{one_more, count_raised}
use Rattle.evl_pipeline.specs.Lines.{Side, PlaysOn, Taken}
use Rattle.evl_pipeline.specs.NumberSet.{NumberSet, remove}
use Rattle.evl_pipeline.specs.Plans.{IsSound, answer_of}
use Rattle.evl_pipeline.specs.Sides.{installed_by, port_at, AreLinked}
use Rattle.evl_pipeline.specs.Limits.{line_count}

pub at-map : {A B : Type 0} (f : A → B) (xs : List A) (i : ℕ) (d : A) → slice_index_or (map f xs) i (f d) ≡ f (slice_index_or xs i d)
at-map f [] i d = refl
at-map f (x ∷ xs) zero d = refl
at-map f (x ∷ xs) (suc i) d = at-map f xs i d

pub map-set : {A B : Type 0} (f : A → B) (xs : List A) (i : ℕ) (y : A) → map f (slice_set xs i y) ≡ slice_set (map f xs) i (f y)
map-set f [] i y = refl
map-set f (x ∷ xs) zero y = refl
map-set f (x ∷ xs) (suc i) y = ap (λ l. f x ∷ l) (map-set f xs i y)

pub at-none : {A : Type 0} (n i : ℕ) → slice_index_or (replicate {A = Option A} n None) i None ≡ None
at-none zero i = refl
at-none (suc n) zero = refl
at-none (suc n) (suc i) = at-none n i

pub none_there : {A : Type 0} (o : Option A) (x : A) → o ≡ None → o ≡ Some x → ⊥
none_there o x none some = cc

pub is_none : {A : Type 0} (o : Option A) → is_some o ≡ false → o ≡ None
is_none None e = refl
is_none (Some x) e = cc

-- what is found is within the list
pub within : {A : Type 0} (xs : List (Option A)) (i : ℕ) (x : A) → slice_index_or xs i None ≡ Some x → i < length xs
within [] i x e = cc
within (y ∷ xs) zero x e = omega arith
within (y ∷ xs) (suc i) x e = omega (arith, within xs i x e)

map-same : {A B : Type 0} (f h : Option A → B) (xs : List (Option A)) → ((j : ℕ) → f (slice_index_or xs j None) ≡ h (slice_index_or xs j None)) → map f xs ≡ map h xs
map-same f h [] e = refl
map-same f h (x ∷ xs) e = ap (λ y. y ∷ map f xs) (e 0) ∙ ap (λ ys. h x ∷ ys) (map-same f h xs (λ j. e (suc j)))

-- two views that differ at one place alone, which is written
pub set-elsewhere : {A B : Type 0} (f h : Option A → B) (xs : List (Option A)) (i : ℕ) (y : B)
    → ((j : ℕ) → j ≢ i → f (slice_index_or xs j None) ≡ h (slice_index_or xs j None)) → slice_set (map f xs) i y ≡ slice_set (map h xs) i y
set-elsewhere f h [] i y e = refl
set-elsewhere f h (x ∷ xs) zero y e = ap (λ ys. y ∷ ys) (map-same f h xs (λ j. e (suc j) (omega arith)))
set-elsewhere f h (x ∷ xs) (suc i) y e = ap (λ z. z ∷ slice_set (map f xs) i y) (e 0 (omega arith)) ∙ ap (λ ys. h x ∷ ys) (set-elsewhere f h xs i y (λ j ne. e (suc j) (omega arith)))

-- how many places are filled after a write
pub filled-set : {A : Type 0} (xs : List (Option A)) (i : ℕ) (old new : A) → slice_index_or xs i None ≡ Some old
    → count_by is_some (slice_set xs i (Some new)) ≡ count_by is_some xs
filled-set {A} xs i old new e =
    let weight : Option A → ℕ = λ x. cond (is_some x) 1 0 in
    omega (arith, sum_by-set weight xs i (Some new) None (within xs i old e), ap weight e)

pub filled-added : {A : Type 0} (xs : List (Option A)) (i : ℕ) (new : A) → slice_index_or xs i None ≡ None → i < length xs
    → count_by is_some (slice_set xs i (Some new)) ≡ count_by is_some xs + 1
filled-added {A} xs i new e inside =
    let weight : Option A → ℕ = λ x. cond (is_some x) 1 0 in
    omega (arith, sum_by-set weight xs i (Some new) None inside, ap weight e)

pub filled-removed : {A : Type 0} (xs : List (Option A)) (i : ℕ) (old : A) → slice_index_or xs i None ≡ Some old
    → count_by is_some (slice_set xs i None) + 1 ≡ count_by is_some xs
filled-removed {A} xs i old e =
    let weight : Option A → ℕ = λ x. cond (is_some x) 1 0 in
    omega (arith, sum_by-set weight xs i None None (within xs i old e), ap weight e)

-- where a place is empty there is room
pub has_room : {A : Type 0} (xs : List (Option A)) (i : ℕ) (new : A) → slice_index_or xs i None ≡ None → i < length xs → count_by is_some xs + 1 ≤ length xs
has_room {A} xs i new e inside =
    omega (arith, filled-added xs i new e inside, count_by-le-length is_some (slice_set xs i (Some new)), length-set xs i (Some new))

-- what a port shows
pub shows : {C : Type 0} (callbacks : Slab (Held C)) (port : Port) (held : Held C) → get callbacks port.key ≡ Some held
    → installed_by callbacks (Some port) ≡ Some (record { callback = held.callback; tag = port.tag; count = port.count })
shows callbacks port held e = ap (λ slot. option_map (λ h. record { callback = h.callback; tag = port.tag; count = port.count }) slot) e

module _ {C : Type 0} (ports : List (Option Port)) (callbacks : Slab (Held C)) (linked : AreLinked ports callbacks) where
  found : (line : ℕ) (slot : Option (Held C)) → option_map (λ held. held.line) slot ≡ Some line → is_some slot ≡ true
  found line None e = cc
  found line (Some held) e = refl

  -- a port leads to a callback
  pub leads : (line : ℕ) (port : Port) → port_at ports line ≡ Some port → is_some (get callbacks port.key) ≡ true
  leads line port e = found line (get callbacks port.key) (linked line port e)

  is_some-map : {A B : Type 0} (f : A → B) (o : Option A) → is_some (option_map f o) ≡ is_some o
  is_some-map f None = refl
  is_some-map f (Some x) = refl

  same_slot : (line : ℕ) (slot : Option Port) → port_at ports line ≡ slot → is_some (installed_by callbacks slot) ≡ is_some slot
  same_slot line None e = refl
  same_slot line (Some port) e = is_some-map _ (get callbacks port.key) ∙ leads line port e

  pub port_shown : (line : ℕ) → slice_index_or (map (installed_by callbacks) ports) line None ≡ installed_by callbacks (port_at ports line)
  port_shown line = at-map (installed_by callbacks) ports line None

  -- a callback is seen exactly where there is a port
  pub seen : (line : ℕ) → is_some (slice_index_or (map (installed_by callbacks) ports) line None) ≡ is_some (port_at ports line)
  seen line = ap is_some (at-map (installed_by callbacks) ports line None) ∙ same_slot line (port_at ports line) refl

  pub free-none : (line : ℕ) → slice_index_or (map (installed_by callbacks) ports) line None ≡ None → port_at ports line ≡ None
  free-none line e = is_none (port_at ports line) (sym (seen line) ∙ ap is_some e)

  pub seen-some : (line : ℕ) (port : Port) (held : Held C) → port_at ports line ≡ Some port → get callbacks port.key ≡ Some held
      → slice_index_or (map (installed_by callbacks) ports) line None ≡ Some (record { callback = held.callback; tag = port.tag; count = port.count })
  seen-some line port held there e = at-map (installed_by callbacks) ports line None ∙ ap (installed_by callbacks) there ∙ shows callbacks port held e

  -- a port that is written with its own key
  pub linked-set : (line : ℕ) (port new : Port) → port_at ports line ≡ Some port → new.key ≡ port.key → AreLinked (slice_set ports line (Some new)) callbacks
  linked-set line port new e same_key q other at =
      elim (q == line) as (λ b. (q == line) ≡ b → option_map (λ held. held.line) (get callbacks other.key) ≡ Some q) [
        | true ↦ λ is.
            let same : q ≡ line = eqb-true q line is in
            let there : Some other ≡ Some new = sym at ∙ ap (λ k. slice_index_or (slice_set ports line (Some new)) k None) same ∙ get_or-set_same ports line (Some new) None (within ports line port e) in
            let is_new : other ≡ new = cc in
            ap (λ k. option_map (λ held. held.line) (get callbacks k)) (ap (λ p. p.key) is_new ∙ same_key) ∙ linked line port e ∙ ap Some (sym same)
        | false ↦ λ is. linked q other (sym (get_or-set_other ports line q (Some new) None (eqb-false q line is)) ∙ at)
      ] refl

  -- no other line's port has the key of a line's port
  pub keys-differ : (line : ℕ) (port : Port) → port_at ports line ≡ Some port → (other : ℕ) (q : Port) → port_at ports other ≡ Some q → other ≢ line → q.key ≢ port.key
  keys-differ line port e other q at apart same =
      let one : Some other ≡ Some line = sym (linked other q at) ∙ ap (λ k. option_map (λ held. held.line) (get callbacks k)) same ∙ linked line port e in
      apart (by one)
    where
      by : Some other ≡ Some line → other ≡ line
      by e = cc

  -- no port has a vacant key
  pub key-vacant : (key : ℕ) → get callbacks key ≡ None → (other : ℕ) (q : Port) → port_at ports other ≡ Some q → q.key ≢ key
  key-vacant key vacant other q at same =
      none_there (option_map (λ held. held.line) (get callbacks q.key)) other (ap (option_map (λ held. held.line)) (ap (get callbacks) same ∙ vacant)) (linked other q at)

-- One line changes, and the place of its key in the slab with it.
module _ {C : Type 0} (ports : List (Option Port)) (before after : Slab (Held C)) (linked : AreLinked ports before) (line key : ℕ) (value : Option (Held C))
    (apart : (other : ℕ) (q : Port) → port_at ports other ≡ Some q → other ≢ line → q.key ≢ key) (updates : Updates before after key value) where
  others_stay : (other : ℕ) (q : Port) → port_at ports other ≡ Some q → other ≢ line → get after q.key ≡ get before q.key
  others_stay other q at ne = updates.others q.key (apart other q at ne)

  slot_stays : (other : ℕ) (slot : Option Port) → port_at ports other ≡ slot → other ≢ line → installed_by after slot ≡ installed_by before slot
  slot_stays other None at ne = refl
  slot_stays other (Some q) at ne =
      ap (option_map (λ held. record { callback = held.callback; tag = q.tag; count = q.count })) (others_stay other q at ne)

  -- what is seen of the lines
  pub seen-changed : (slot : Option Port) → map (installed_by after) (slice_set ports line slot) ≡ slice_set (map (installed_by before) ports) line (installed_by after slot)
  seen-changed slot =
      map-set (installed_by after) ports line slot
      ∙ set-elsewhere (installed_by after) (installed_by before) ports line (installed_by after slot) (λ j ne. slot_stays j (port_at ports j) refl ne)

  -- the links stand
  pub linked-changed : (slot : Option Port) → line < length ports → ((q : Port) → slot ≡ Some q → option_map (λ held. held.line) (get after q.key) ≡ Some line) → AreLinked (slice_set ports line slot) after
  linked-changed slot inside new q other at =
      elim (q == line) as (λ b. (q == line) ≡ b → option_map (λ held. held.line) (get after other.key) ≡ Some q) [
        | true ↦ λ is.
            let same : q ≡ line = eqb-true q line is in
            let there : slot ≡ Some other = sym (ap (λ k. slice_index_or (slice_set ports line slot) k None) same ∙ get_or-set_same ports line slot None inside) ∙ at in
            new other there ∙ ap Some (sym same)
        | false ↦ λ is.
            let ne : q ≢ line = eqb-false q line is in
            let old : port_at ports q ≡ Some other = sym (get_or-set_other ports line q slot None ne) ∙ at in
            ap (option_map (λ held. held.line)) (others_stay q other old ne) ∙ linked q other old
      ] refl

pub linked-nothing : {C : Type 0} (callbacks : Slab (Held C)) → AreLinked (replicate line_count None) callbacks
linked-nothing callbacks line port e = absurd (none_there _ port (at-none line_count line) e)

pub filled-nothing : 0 ≡ count_by is_some (replicate {A = Option Port} line_count None)
filled-nothing = refl

pub length-counted : (handled : Bool) (counts : List ℕ) (line : ℕ) → length (if handled then counts else count_raised counts line) ≡ length counts
length-counted true counts line = refl
length-counted false counts line = length-set counts line _

-- a stage before and after, by its parts
abbrev pub seen_side : {C : Type 0} → Bool → NumberSet → List (Option Port) → Slab (Held C) → List ℕ → Side C
seen_side stalled pending ports callbacks unhandled =
    record { stalled = stalled; pending = pending; installed = map (installed_by callbacks) ports; unhandled = unhandled }

module _ {C : Type 0} (ports : List (Option Port)) (callbacks : Slab (Held C)) (linked : AreLinked ports callbacks)
    (line : ℕ) (port : Port) (held : Held C) (there : port_at ports line ≡ Some port) (leads_to : get callbacks port.key ≡ Some held) where
  -- a line was played
  pub plays-on : (declared : C → ℕ) (plan : C → Plan) (gives : C → Fire → Answer → Type 0) (stalled : Bool) (pending : NumberSet) (unhandled after : List ℕ) (stage : Stage) (now : ℕ) (answer : Answer)
      → answer ≡ answer_of (plan held.callback) (one_more port.count)
      → IsSound (declared held.callback) (plan held.callback)
      → after ≡ (if answer.handled then unhandled else count_raised unhandled line)
      → gives held.callback (record { line = record { 0 = line }; stage = stage; tag = port.tag; count = one_more port.count; moment = now }) answer
      → PlaysOn declared plan gives (seen_side stalled pending ports callbacks unhandled) stage line now
      (record { line = record { 0 = line }; stage = stage; tag = port.tag; count = one_more port.count; moment = now }) answer
      (seen_side stalled (remove pending line) (slice_set ports line (Some (record { key = port.key; tag = port.tag; count = one_more port.count }))) callbacks after)
  plays-on declared plan gives stalled pending unhandled after stage now answer answered sound is called = record {
    at = record { callback = held.callback; tag = port.tag; count = port.count };
    stands = seen-some ports callbacks linked line port held there leads_to;
    fire_is = refl;
    called = called;
    answered = answered;
    after =
        ap (λ counts. seen_side stalled (remove pending line) (slice_set ports line (Some (record { key = port.key; tag = port.tag; count = one_more port.count }))) callbacks counts) is
        ∙ ap (λ installed. record { stalled = stalled; pending = remove pending line; installed = installed; unhandled = if answer.handled then unhandled else count_raised unhandled line })
        (map-set (installed_by callbacks) ports line (Some (record { key = port.key; tag = port.tag; count = one_more port.count }))
        ∙ ap (slice_set (map (installed_by callbacks) ports) line) (shows callbacks (record { key = port.key; tag = port.tag; count = one_more port.count }) held leads_to));
    sound = sound;
  }

  -- the callback of a line was taken
  pub taken : (after : Slab (Held C)) (updates : Updates callbacks after port.key None) (stalled : Bool) (pending : NumberSet) (unhandled : List ℕ)
      → Taken (seen_side stalled pending ports callbacks unhandled) line held.callback (seen_side stalled (remove pending line) (slice_set ports line None) after unhandled)
  taken after updates stalled pending unhandled = record {
    at = record { callback = held.callback; tag = port.tag; count = port.count };
    stands = seen-some ports callbacks linked line port held there leads_to;
    callback_is = refl;
    after = ap (λ installed. record { stalled = stalled; pending = remove pending line; installed = installed; unhandled = unhandled })
        (seen-changed ports callbacks after linked line port.key None (keys-differ ports callbacks linked line port there) updates None);
  }
