-- Nodes are found again by the digests of their states.
use Rattle.std.proofs.Common.{◌≡◌, ◌≢◌, ℕ, zero, suc, ◌+◌, ◌⊎◌, inl, inr, Bool, true, false, cond, List, [], ◌∷◌, ◌++◌, get_or, length, map, refl, sym, ◌∙◌, ap, subst, arith, length-append}
use Rattle.std.specs.Prelude.{◌<◌, ◌≤◌, nat_eq, All, AllPairs, Option, Some, None, slice_get, slice_set}
use Rattle.std.specs.HashMap.{get}
use Rattle.std.proofs.Math.Seq.{get_or-append_seam}
use Rattle.std.proofs.lemmas.Bool.{eqb-true, eqb-false}
use Rattle.std.proofs.lemmas.List.{get_or_append_left, get_or-map, length-map, map-append}
use Rattle.std.proofs.lemmas.List.Quantifiers.{all_pairs_push}
use Rattle.std.proofs.lemmas.Option.{same_Some, none-some}
use Rattle.lab_orders.specs.Fronts.{AreApart, states}
use Rattle.lab_orders.specs.Levels.{IsApart, IsIndexed, newest}
use Rattle.lab_orders.specs.declared.levels.Level.{Level}
use Rattle.lab_orders.specs.declared.nodes.Node.{Node}
use Rattle.lab_orders.proofs.EveryRun.{below_or_at}
use Rattle.lab_orders.proofs.Weighing.{raised}

order : (a b : ℕ) → (a ≤ b) ⊎ (b < a)
order zero b = inl (omega arith)
order (suc a) zero = inr (omega arith)
order (suc a) (suc b) = elim (order a b) as (λ v. (suc a ≤ suc b) ⊎ (suc b < suc a)) [ inl le ↦ inl (omega (arith, le)) | inr lt ↦ inr (omega (arith, lt)) ]

-- ---- the newest place of a digest

abbrev NewestIs : List ℕ → ℕ → ℕ → Option ℕ → Type 0
NewestIs digests digest n None = (i : ℕ) → i < n → get_or digests i 0 ≢ digest
NewestIs digests digest n (Some p) = (p < n) × (get_or digests p 0 ≡ digest) × ((i : ℕ) → p < i → i < n → get_or digests i 0 ≢ digest)

last_differs : (digests : List ℕ) (digest n i : ℕ) → nat_eq (get_or digests n 0) digest ≡ false → i ≡ n → get_or digests i 0 ≢ digest
last_differs digests digest n i e at = λ same. eqb-false (get_or digests n 0) digest e (ap (λ k. get_or digests k 0) (sym at) ∙ same)

one_more : (digests : List ℕ) (digest n : ℕ) (b : Bool) → nat_eq (get_or digests n 0) digest ≡ b → (o : Option ℕ) → NewestIs digests digest n o
    → NewestIs digests digest (suc n) (cond b (Some n) o)
one_more digests digest n true e o was = (omega arith, eqb-true (get_or digests n 0) digest e, λ i above below. absurd (omega (arith, above, below)))
one_more digests digest n false e None was = λ i lt.
    elim (below_or_at n i lt) as (λ v. get_or digests i 0 ≢ digest) [ inl low ↦ was i low | inr at ↦ last_differs digests digest n i e at ]
one_more digests digest n false e (Some p) was = (
  omega (arith, was.0),
  was.1,
  λ i above lt. elim (below_or_at n i lt) as (λ v. get_or digests i 0 ≢ digest) [ inl low ↦ was.2 i above low | inr at ↦ last_differs digests digest n i e at ],
)

newest_is : (digests : List ℕ) (digest n : ℕ) → NewestIs digests digest n (newest digests digest n)
newest_is digests digest zero = λ i lt. absurd (omega (arith, lt))
newest_is digests digest (suc n) = one_more digests digest n (nat_eq (get_or digests n 0) digest) refl (newest digests digest n) (newest_is digests digest n)

-- a digest after them changes nothing below
newest_push : (digests : List ℕ) (more digest n : ℕ) → n ≤ length digests → newest (digests ++ more ∷ []) digest n ≡ newest digests digest n
newest_push digests more digest zero le = refl
newest_push digests more digest (suc n) le =
    ap (λ x. cond (nat_eq x digest) (Some n) (newest (digests ++ more ∷ []) digest n)) (get_or_append_left digests (more ∷ []) 0 n (omega (arith, le)))
    ∙ ap (λ o. cond (nat_eq (get_or digests n 0) digest) (Some n) o) (newest_push digests more digest n (omega (arith, le)))

-- ---- one node more

module _ {M : Type 0} (digests : List ℕ) (digest : ℕ) (old new : Level M) (older : Option ℕ) (was : IsIndexed digests old)
    (behind : new.older.items ≡ old.older.items ++ older ∷ []) (found : older ≡ get nat_eq old.places digest)
    (placed : (q : ℕ) → get nat_eq new.places q ≡ cond (nat_eq digest q) (Some (length digests)) (get nat_eq old.places q)) where
  long : length (digests ++ digest ∷ []) ≡ suc (length digests)
  long = omega (arith, length-append digests (digest ∷ []))

  places_push : (q : ℕ) → get nat_eq new.places q ≡ newest (digests ++ digest ∷ []) q (length (digests ++ digest ∷ []))
  places_push q =
      placed q
      ∙ (ap (λ o. cond (nat_eq digest q) (Some (length digests)) o) (was.places q ∙ sym (newest_push digests digest q (length digests) (omega arith)))
      ∙ (ap (λ x. cond (nat_eq x q) (Some (length digests)) (newest (digests ++ digest ∷ []) q (length digests))) (sym (get_or-append_seam digests digest [] 0))
      ∙ ap (newest (digests ++ digest ∷ []) q) (sym long)))

  older_push : (i : ℕ) → i < length (digests ++ digest ∷ []) → get_or new.older.items i None ≡ newest (digests ++ digest ∷ []) (get_or (digests ++ digest ∷ []) i 0) i
  older_push i lt =
      ap (λ (os : List (Option ℕ)). get_or os i None) behind
      ∙ elim (below_or_at (length digests) i (omega (arith, lt, long))) as (λ v. get_or (old.older.items ++ older ∷ []) i None ≡ newest (digests ++ digest ∷ []) (get_or (digests ++ digest ∷ []) i 0) i) [
        | inl low ↦
            get_or_append_left old.older.items (older ∷ []) None i (omega (arith, low, was.each))
            ∙ (was.older i low
            ∙ (sym (newest_push digests digest (get_or digests i 0) i (omega (arith, low)))
            ∙ ap (λ x. newest (digests ++ digest ∷ []) x i) (sym (get_or_append_left digests (digest ∷ []) 0 i low))))
        | inr at ↦
            ap (λ k. get_or (old.older.items ++ older ∷ []) k None) (at ∙ sym was.each)
            ∙ (get_or-append_seam old.older.items older [] None
            ∙ (found
            ∙ (was.places digest
            ∙ (sym (newest_push digests digest digest (length digests) (omega arith))
            ∙ (ap (λ x. newest (digests ++ digest ∷ []) x (length digests)) (sym (get_or-append_seam digests digest [] 0))
            ∙ ap (λ k. newest (digests ++ digest ∷ []) (get_or (digests ++ digest ∷ []) k 0) k) (sym at))))))
      ]

  pub indexed_push : IsIndexed (digests ++ digest ∷ []) new
  indexed_push = record {
    places = places_push;
    older = older_push;
    each = ap (λ (os : List (Option ℕ)). length os) behind ∙ (length-append old.older.items (older ∷ []) ∙ (ap (λ n. n + 1) was.each ∙ sym (length-append digests (digest ∷ []))));
  }

module _ {M S : Type 0} (state : M → S) (digest : S → ℕ) where
  states_raised : (nodes : List (Node M)) (i more : ℕ) (node : Node M) → slice_get nodes i ≡ Some node → states state (slice_set nodes i (raised node more)) ≡ states state nodes
  states_raised [] i more node e = absurd (none-some node e)
  states_raised (x ∷ nodes) zero more node e = ap (λ (n : Node M). state n.at ∷ states state nodes) (sym (same_Some x node e))
  states_raised (x ∷ nodes) (suc i) more node e = ap (λ (ss : List S). state x.at ∷ ss) (states_raised nodes i more node e)

  -- no node, and one alone
  pub apart_none : (level : Level M) → level.nodes.items ≡ [] → IsIndexed [] level → IsApart state digest level
  apart_none level none indexed =
      let same : states state level.nodes.items ≡ [] = ap (states state) none in
      record {
        apart = subst (AllPairs (λ (one other : S). one ≢ other)) (sym same) (λ i j d lt within. absurd (omega (arith, within)));
        indexed = subst (λ (ss : List S). IsIndexed (map digest ss) level) (sym same) indexed;
      }

  pub apart_one : (nodes : List (Node M)) (node : Node M) → nodes ≡ node ∷ [] → AreApart state nodes
  apart_one nodes node is = subst (λ (ns : List (Node M)). AreApart state ns) (sym is) (λ i j d lt within. absurd (omega (arith, lt, within)))

  -- a node with more orders
  pub apart_raised : (old new : Level M) (i more : ℕ) (node : Node M) → slice_get old.nodes.items i ≡ Some node → new.nodes.items ≡ slice_set old.nodes.items i (raised node more)
      → new.places ≡ old.places → new.older ≡ old.older → IsApart state digest old → IsApart state digest new
  apart_raised old new i more node e made places older was =
      let same : states state new.nodes.items ≡ states state old.nodes.items = ap (states state) made ∙ states_raised old.nodes.items i more node e in
      record {
        apart = subst (AllPairs (λ (one other : S). one ≢ other)) (sym same) was.apart;
        indexed = subst (λ (ss : List S). IsIndexed (map digest ss) new) (sym same) (record {
          places = λ q. ap (λ (all : _). get nat_eq all q) places ∙ was.indexed.places q;
          older = λ j lt. ap (λ (all : _). get_or all.items j None) older ∙ was.indexed.older j lt;
          each = ap (λ (all : _). length all.items) older ∙ was.indexed.each;
        });
      }

  -- a node at another state than all others
  pub apart_push : (old new : Level M) (node : Node M) (moment : M) (number : ℕ) → new.nodes.items ≡ old.nodes.items ++ node ∷ [] → node.at ≡ moment → number ≡ digest (state moment)
      → All (λ at. at ≢ state moment) (states state old.nodes.items)
      → ((digests : List ℕ) → length digests ≡ length old.nodes.items → IsIndexed digests old → IsIndexed (digests ++ number ∷ []) new)
      → IsApart state digest old → IsApart state digest new
  apart_push old new node moment number made at is none more was =
      let before = states state old.nodes.items in
      let same : states state new.nodes.items ≡ before ++ state moment ∷ [] =
      ap (states state) made ∙ (map-append (λ (n : Node M). state n.at) old.nodes.items (node ∷ []) ∙ ap (λ x. before ++ state x ∷ []) at) in
      let count : length (map digest before) ≡ length old.nodes.items = length-map before digest ∙ length-map old.nodes.items (λ (n : Node M). state n.at) in
      record {
        apart = subst (AllPairs (λ (one other : S). one ≢ other)) (sym same) (all_pairs_push (λ (one other : S). one ≢ other) before (state moment) was.apart none);
        indexed = subst (λ (ds : List ℕ). IsIndexed ds new)
            (ap (λ n. map digest before ++ n ∷ []) is ∙ (sym (map-append digest before (state moment ∷ [])) ∙ ap (map digest) (sym same)))
            (more (map digest before) count was.indexed);
      }

  -- ---- the search for a state

  -- all nodes from `bound` on are at other states, and the search goes on at the newest one of its digest below
  pub record IsPast (level : Level M) (moment : S) (next : Option ℕ) (steps : ℕ) : Type 0 where
    pub bound : ℕ
    pub few : bound + steps ≤ length level.nodes.items
    pub goes : next ≡ newest (map digest (states state level.nodes.items)) (digest moment) bound
    pub none : (i : ℕ) (s : S) → bound ≤ i → i < length (states state level.nodes.items) → get_or (states state level.nodes.items) i s ≢ moment

  module _ (level : Level M) (moment : S) where
    abbrev there : List S
    there = states state level.nodes.items

    count : length there ≡ length level.nodes.items
    count = length-map level.nodes.items (λ (n : Node M). state n.at)

    digest_at : (i : ℕ) (s : S) → i < length there → get_or there i s ≡ moment → get_or (map digest there) i 0 ≡ digest moment
    digest_at i s lt same = get_or-map digest there i s 0 lt ∙ ap digest same

    state_there : (nodes : List (Node M)) (i : ℕ) (node : Node M) (s : S) → slice_get nodes i ≡ Some node → get_or (states state nodes) i s ≡ state node.at
    state_there [] i node s e = absurd (none-some node e)
    state_there (x ∷ nodes) zero node s e = ap (λ (n : Node M). state n.at) (same_Some x node e)
    state_there (x ∷ nodes) (suc i) node s e = state_there nodes i node s e

    node_at : (nodes : List (Node M)) (i : ℕ) → i < length nodes → (x : Node M) × (slice_get nodes i ≡ Some x)
    node_at [] i h = absurd (omega (arith, h))
    node_at (x ∷ nodes) zero h = (x, refl)
    node_at (x ∷ nodes) (suc i) h = node_at nodes i (omega (arith, h))

    pub past_first : (next : Option ℕ) → IsApart state digest level → next ≡ get nat_eq level.places (digest moment) → IsPast level moment next 0
    past_first next is found = record {
      bound = length (map digest there);
      few = omega (arith, length-map there digest, count);
      goes = found ∙ is.indexed.places (digest moment);
      none = λ i s above lt. absurd (omega (arith, above, lt, length-map there digest));
    }

    pub past_more : (next older : Option ℕ) (steps place : ℕ) → IsApart state digest level → next ≡ Some place
        → ((node : Node M) → slice_get level.nodes.items place ≡ Some node → state node.at ≢ moment) → older ≡ get_or level.older.items place None
        → IsPast level moment next steps → IsPast level moment older (steps + 1)
    past_more next older steps place is e differs found past =
        let all : NewestIs (map digest there) (digest moment) past.bound (Some place) =
        subst (NewestIs (map digest there) (digest moment) past.bound) (sym past.goes ∙ e) (newest_is (map digest there) (digest moment) past.bound) in
        let low : place < length there = omega (arith, all.0, past.few, count) in
        record {
          bound = place;
          few = omega (arith, all.0, past.few);
          goes = found ∙ (is.indexed.older place (omega (arith, low, length-map there digest)) ∙ ap (λ d. newest (map digest there) d place) all.1);
          none = λ i s above lt.
              elim (order past.bound i) as (λ v. get_or there i s ≢ moment) [
                | inl le ↦ past.none i s le lt
                | inr below ↦
                    elim (below_or_at i place (omega (arith, above))) as (λ v. get_or there i s ≢ moment) [
                      | inl beyond ↦ λ same. all.2 i beyond below (digest_at i s lt same)
                      | inr at ↦
                          let one = node_at level.nodes.items place (omega (arith, low, count)) in
                          λ same. differs one.0 one.1 (sym (state_there level.nodes.items place one.0 s one.1) ∙ (ap (λ k. get_or there k s) at ∙ same))
                    ]
              ];
        }

    -- the search is at its end
    pub past_all : (next : Option ℕ) (steps : ℕ) → next ≡ None → IsPast level moment next steps → All (λ at. at ≢ moment) there
    past_all next steps e past = λ k s lt.
        elim (order past.bound k) as (λ v. get_or there k s ≢ moment) [
          | inl le ↦ past.none k s le lt
          | inr below ↦ λ same.
              subst (NewestIs (map digest there) (digest moment) past.bound) (sym past.goes ∙ e) (newest_is (map digest there) (digest moment) past.bound) k below (digest_at k s lt same)
        ]

    pub past_end : (next : Option ℕ) (steps : ℕ) → length level.nodes.items ≤ steps → IsPast level moment next steps → All (λ at. at ≢ moment) there
    past_end next steps long past = λ k s lt. past.none k s (omega (arith, long, past.few)) lt
