-- A world is gone through caller by caller, node by node, and step by step.
use Rattle.std.proofs.Common.{◌≡◌, ℕ, zero, suc, ◌+◌, ◌*◌, Bool, true, false, cond, not, ◌&&◌, ◌||◌, List, [], ◌∷◌, ◌++◌, refl, sym, ◌∙◌, ap, subst, arith, zero-add, add-zero, add-one, append_assoc, append-nil, length-append}
use Rattle.std.specs.Prelude.{◌<◌, ◌≤◌, All, AllPairs, Some, is_none, is_some, if◌then◌else◌, length, slice_get, slice_set}
use Rattle.std.specs.List.{list_all}
use Rattle.std.specs.Option.{option_map_or}
use Rattle.std.proofs.lemmas.List.Sums.{sum_by_push, sum_by-cons}
use Rattle.std.proofs.lemmas.List.Folds.{list_all-append}
use Rattle.std.proofs.lemmas.List.Elements.{All-nil, All-cons, All-head, All-tail, All-same, All-push, All-pop, All-weaker, All-get_or}
use Rattle.std.proofs.lemmas.List.Quantifiers.{all_pairs_push}
use Rattle.lab_orders.specs.Machines.{Machine, numbers_below as below, led_along, is_over, runs, orders}
use Rattle.lab_orders.specs.Weights.{total, weight, ahead_by, ahead, at_end}
use Rattle.lab_orders.specs.Fronts.{AreFit, AreLong, AreShortest, IsLed, AreLed, AreOver, AddsSteps, LeadsOn, IsFront}
use Rattle.lab_orders.specs.declared.nodes.Node.{Node}
use Rattle.lab_orders.proofs.Leads.{led_more}
use Rattle.lab_orders.proofs.Weighing.{raised, weight_raised, fit_raised, led_raised, long_raised}
use Rattle.lab_orders.proofs.Totals.{total_runs_zero, total_runs_more, total_orders_zero, total_orders_more, total_of_ones, none_left}

-- whether any of these callers can make a step
abbrev pub goes_by : {S : Type 0} → Machine S → S → List ℕ → Bool
goes_by m s callers = not (list_all (λ c. is_none (m.go s c)) callers)

either : (one other : Bool) → (not one || other) ≡ not (one && not other)
either true true = refl
either true false = refl
either false true = refl
either false false = refl

all_single : {X : Type 0} (p : X → Bool) (x : X) → list_all p (x ∷ []) ≡ p x
all_single p x = and_true (p x)
  where
    and_true : (b : Bool) → (b && true) ≡ b
    and_true true = refl
    and_true false = refl

-- an element at each place
pub some_at : {X : Type 0} (xs : List X) (i : ℕ) → i < length xs → (x : X) × (slice_get xs i ≡ Some x)
some_at [] i h = absurd (omega arith)
some_at (x ∷ xs) zero h = (x, refl)
some_at (x ∷ xs) (suc i) h = some_at xs i (omega arith)

module _ {M S : Type 0} (m : Machine S) (state : M → S) (fits : M → Type 0) where
  -- a node's moment is one of the world, and orders lead to it
  abbrev IsFit : Node M → Type 0
  IsFit n = fits n.at × (0 < n.count)

  -- what one step adds
  one_ahead : (node : Node M) (c : ℕ) (t : S) (f : S → ℕ) → m.go (state node.at) c ≡ Some t → ahead_by m f (state node.at) (c ∷ []) ≡ f t
  one_ahead node c t f goes = zero-add (option_map_or f (m.go (state node.at) c) 0) ∙ ap (λ o. option_map_or f o 0) goes

  -- a step to a state that a node has
  pub adds_found : (before : Node M) (c : ℕ) (t : S) (old new : List (Node M)) (i : ℕ) (node : Node M) → m.go (state before.at) c ≡ Some t
      → slice_get old i ≡ Some node → state node.at ≡ t → new ≡ slice_set old i (raised node before.count) → AreFit fits old
      → AddsSteps m state fits before (c ∷ []) old new
  adds_found before c t old new i node goes there same made fit = record {
    fit = subst (AreFit fits) (sym made) (fit_raised fits old i before.count node there fit);
    sums = λ f.
        ap (weight state f) made
        ∙ (weight_raised state f old i before.count node there
        ∙ ap (λ n. weight state f old + before.count * n) (ap f same ∙ sym (one_ahead before c t f goes)));
    led_there = λ s one all. subst (AreLed m state s) (sym made) (led_raised m state s old i before.count node there all);
    longer = λ long. subst (AreLong (length before.order.items + 1)) (sym made) (long_raised (length before.order.items + 1) old i before.count node there long);
  }

  -- a step to a new state
  pub adds_new : (before : Node M) (c : ℕ) (moment : M) (old new : List (Node M)) (node : Node M) → m.go (state before.at) c ≡ Some (state moment) → fits moment
      → new ≡ old ++ node ∷ [] → node.at ≡ moment → node.count ≡ before.count → node.order.items ≡ before.order.items ++ c ∷ [] → AreFit fits old → 0 < before.count
      → AddsSteps m state fits before (c ∷ []) old new
  adds_new before c moment old new node leads given made same count order fit some = record {
    fit = subst (AreFit fits) (sym made) (All-push IsFit old node fit (subst fits (sym same) given, omega (arith, count, some)));
    sums = λ f.
        ap (weight state f) made
        ∙ (sum_by_push (λ (n : Node M). n.count * f (state n.at)) old node
        ∙ (ap (λ k. weight state f old + k * f (state node.at)) count
        ∙ ap (λ n. weight state f old + before.count * n) (sym (one_ahead before c (state node.at) f (leads ∙ ap (λ x. Some (state x)) (sym same))))));
    led_there = λ s one all.
        subst (AreLed m state s) (sym made)
        (All-push (λ (n : Node M). IsLed m state s n) old node all
        (ap (led_along m s) order ∙ led_more m s (state before.at) (state node.at) before.order.items c one (leads ∙ ap (λ x. Some (state x)) (sym same))));
    longer = λ long.
        subst (AreLong (length before.order.items + 1)) (sym made)
        (All-push (λ (n : Node M). length n.order.items ≡ length before.order.items + 1) old node long
        (ap length order ∙ length-append before.order.items (c ∷ [])));
  }

  -- one caller more
  pub adds_more : (node : Node M) (callers : List ℕ) (c : ℕ) (old mid new : List (Node M)) → AddsSteps m state fits node callers old mid
      → AddsSteps m state fits node (c ∷ []) mid new → AddsSteps m state fits node (callers ++ c ∷ []) old new
  adds_more node callers c old mid new done one = record {
    fit = one.fit;
    sums = λ f.
        let g : ℕ → ℕ = λ e. option_map_or f (m.go (state node.at) e) 0 in
        let both : ahead_by m f (state node.at) (callers ++ c ∷ []) ≡ ahead_by m f (state node.at) callers + g c = sum_by_push g callers c in
        let single : ahead_by m f (state node.at) (c ∷ []) ≡ g c = zero-add (g c) in
        one.sums f
        ∙ (ap (λ n. n + node.count * ahead_by m f (state node.at) (c ∷ [])) (done.sums f)
        ∙ spread (weight state f old) node.count (ahead_by m f (state node.at) callers) (ahead_by m f (state node.at) (c ∷ [])) (ahead_by m f (state node.at) (callers ++ c ∷ []))
        (both ∙ ap (λ n. ahead_by m f (state node.at) callers + n) (sym single)));
    led_there = λ s is all. one.led_there s is (done.led_there s is all);
    longer = λ long. one.longer (done.longer long);
  }
    where
      spread : (w k a b ab : ℕ) → ab ≡ a + b → w + k * a + k * b ≡ w + k * ab
      spread w k a b ab e = rw e (omega arith)

  pub goes_more : (s : S) (callers : List ℕ) (c : ℕ) → (goes_by m s callers || is_some (m.go s c)) ≡ goes_by m s (callers ++ c ∷ [])
  goes_more s callers c =
      let p : ℕ → Bool = λ e. is_none (m.go s e) in
      either (list_all p callers) (is_some (m.go s c))
      ∙ ap (λ b. not (list_all p callers && b)) (sym (all_single p c))
      ∙ ap not (sym (list_all-append p callers (c ∷ [])))

  -- how many steps a node's order has
  abbrev IsLong : ℕ → Node M → Type 0
  IsLong k n = length n.order.items ≡ k

  abbrev IsBelow : ℕ → Node M → Type 0
  IsBelow k n = length n.order.items < k

  abbrev Rises : Node M → Node M → Type 0
  Rises one other = length one.order.items ≤ length other.order.items

  -- no nodes yet
  pub leads_none : (ends : List (Node M)) → LeadsOn m state fits [] [] ends ends
  leads_none ends = record {
    fit = All-nil IsFit;
    sums = λ f. refl;
    ends = λ f. sym (add-zero (weight state f ends));
    led_there = λ s all. all;
    led_ends = λ s all ends. ends;
    over = λ all. all;
    longer = λ k long. All-nil (IsLong (k + 1));
    shortest = λ k long before. record { below = All-weaker (IsBelow k) (IsBelow (k + 1)) (λ n h. omega (arith, h)) ends before.below; rise = before.rise };
  }

  -- the ends after a node
  abbrev IsKept : Bool → List (Node M) → Node M → List (Node M) → Type 0
  IsKept goes ends node new = new ≡ (if goes then ends else ends ++ node ∷ [])

  weight_kept : (f : S → ℕ) (over : Bool) (ends new : List (Node M)) (node : Node M) → IsKept (not over) ends node new
      → weight state f new ≡ weight state f ends + node.count * cond over (f (state node.at)) 0
  weight_kept f true ends new node e = ap (weight state f) e ∙ sum_by_push (λ (n : Node M). n.count * f (state n.at)) ends node
  weight_kept f false ends new node e =
      let same : weight state f ends ≡ weight state f ends + node.count * 0 = omega arith in
      ap (weight state f) e ∙ same

  all_kept : (P : Node M → Type 0) (goes : Bool) (ends new : List (Node M)) (node : Node M) → IsKept goes ends node new → All P ends → P node → All P new
  all_kept P true ends new node e all one = subst (All P) (sym e) all
  all_kept P false ends new node e all one = subst (All P) (sym e) (All-push P ends node all one)

  over_kept : (goes : Bool) (ends new : List (Node M)) (node : Node M) → IsKept goes ends node new → goes ≡ not (is_over m (state node.at))
      → AreOver m state ends → AreOver m state new
  over_kept true ends new node e is all = subst (AreOver m state) (sym e) all
  over_kept false ends new node e is all =
      subst (AreOver m state) (sym e) (All-push (λ (n : Node M). is_over m (state n.at) ≡ true) ends node all (over_if (is_over m (state node.at)) is))
    where
      over_if : (b : Bool) → false ≡ not b → b ≡ true
      over_if true h = refl
      over_if false h = absurd (cc)

  -- an end of so many steps comes after those of no more
  shortest_kept : (k : ℕ) (goes : Bool) (ends new : List (Node M)) (node : Node M) → IsKept goes ends node new → IsLong k node
      → AreShortest (k + 1) ends → AreShortest (k + 1) new
  shortest_kept k goes ends new node e long all = record {
    below = all_kept (IsBelow (k + 1)) goes ends new node e all.below (omega (arith, long));
    rise = risen goes e;
  }
    where
      risen : (b : Bool) → IsKept b ends node new → AllPairs Rises new
      risen true e = subst (AllPairs Rises) (sym e) all.rise
      risen false e =
          subst (AllPairs Rises) (sym e)
          (all_pairs_push Rises ends node all.rise (λ i d h. omega (arith, long, All-get_or (IsBelow (k + 1)) ends i d h all.below)))

  -- one node more
  pub leads_more : (done : List (Node M)) (node : Node M) (goes : Bool) (mid next old ends new : List (Node M)) → LeadsOn m state fits done mid old ends
      → AddsSteps m state fits node (below m.callers) mid next → goes ≡ not (is_over m (state node.at)) → IsKept goes ends node new
      → LeadsOn m state fits (done ++ node ∷ []) next old new
  leads_more done node goes mid next old ends new before adds is kept = record {
    fit = adds.fit;
    sums = λ f.
        let more : weight state (ahead m f) (done ++ node ∷ []) ≡ weight state (ahead m f) done + node.count * ahead m f (state node.at) =
        sum_by_push (λ (n : Node M). n.count * ahead m f (state n.at)) done node in
        adds.sums f ∙ (ap (λ n. n + node.count * ahead m f (state node.at)) (before.sums f) ∙ sym more);
    ends = λ f.
        let more : weight state (at_end m f) (done ++ node ∷ []) ≡ weight state (at_end m f) done + node.count * at_end m f (state node.at) =
        sum_by_push (λ (n : Node M). n.count * at_end m f (state n.at)) done node in
        let grown : weight state f new ≡ weight state f ends + node.count * at_end m f (state node.at) =
        weight_kept f (is_over m (state node.at)) ends new node (subst (λ b. IsKept b ends node new) is kept) in
        joined (weight state f new) (weight state f ends) (weight state f old) (weight state (at_end m f) done) (node.count * at_end m f (state node.at)) (weight state (at_end m f) (done ++ node ∷ []))
        grown (before.ends f) more;
    led_there = λ s all.
        let both = All-pop (λ (n : Node M). IsLed m state s n) (done ++ node ∷ []) done (Some node) refl all in
        adds.led_there s both.1 (before.led_there s both.0);
    led_ends = λ s all known.
        let both = All-pop (λ (n : Node M). IsLed m state s n) (done ++ node ∷ []) done (Some node) refl all in
        all_kept (λ (n : Node M). IsLed m state s n) goes ends new node kept (before.led_ends s both.0 known) both.1;
    over = λ known. over_kept goes ends new node kept is (before.over known);
    longer = λ k long.
        let both = All-pop (IsLong k) (done ++ node ∷ []) done (Some node) refl long in
        let same : length node.order.items + 1 ≡ k + 1 = ap (λ n. n + 1) both.1 in
        subst (λ n. AreLong n next) same (adds.longer (subst (λ n. AreLong n mid) (sym same) (before.longer k both.0)));
    shortest = λ k long known.
        let both = All-pop (IsLong k) (done ++ node ∷ []) done (Some node) refl long in
        shortest_kept k goes ends new node kept both.1 (before.shortest k both.0 known);
  }
    where
      joined : (w v u a k ak : ℕ) → w ≡ v + k → v ≡ u + a → ak ≡ a + k → w ≡ u + ak
      joined w v u a k ak e f g = omega arith

  -- no step yet
  pub front_first : (node : Node M) → fits node.at → node.count ≡ 1 → node.order.items ≡ [] → IsFront m state fits (state node.at) 0 (node ∷ []) []
  front_first node fit one none = record {
    fit = All-cons IsFit node [] (fit, omega (arith, one)) (All-nil IsFit);
    reached = λ f.
        let alone = sum_by-cons (λ (n : Node M). n.count * f (state n.at)) node [] in
        let times : node.count * f (state node.at) ≡ 1 * f (state node.at) = ap (λ k. k * f (state node.at)) one in
        omega (arith, alone, times, total_runs_zero m f (state node.at));
    counted = λ f. sym (total_orders_zero m f (state node.at));
    led_there =
        All-cons (λ (n : Node M). IsLed m state (state node.at) n) node [] (ap (led_along m (state node.at)) none) (All-nil (λ (n : Node M). IsLed m state (state node.at) n));
    led_ends = All-nil (λ (n : Node M). IsLed m state (state node.at) n);
    over = All-nil (λ (n : Node M). is_over m (state n.at) ≡ true);
    long = All-cons (IsLong 0) node [] (ap length none) (All-nil (IsLong 0));
    shortest = record { below = All-nil (IsBelow 0); rise = λ i j d less within. absurd (omega (arith, within)) };
  }

  -- one step more
  pub front_more : (s : S) (steps : ℕ) (level next old new : List (Node M)) → IsFront m state fits s steps level old → LeadsOn m state fits level next old new
      → IsFront m state fits s (steps + 1) next new
  front_more s steps level next old new front leads = record {
    fit = leads.fit;
    reached = λ f.
        leads.sums f ∙ (front.reached (ahead m f) ∙ (sym (total_runs_more m f s steps) ∙ ap (λ k. total f (runs m s k)) (sym (add-one steps))));
    counted = λ f.
        leads.ends f
        ∙ (ap (λ n. n + weight state (at_end m f) level) (front.counted f)
        ∙ (ap (λ n. total f (orders m s steps) + n) (front.reached (at_end m f))
        ∙ (sym (total_orders_more m f s steps) ∙ ap (λ k. total f (orders m s k)) (sym (add-one steps)))));
    led_there = leads.led_there s front.led_there;
    led_ends = leads.led_ends s front.led_there front.led_ends;
    over = leads.over front.over;
    long = leads.longer steps front.long;
    shortest = leads.shortest steps front.long front.shortest;
  }

  -- no nodes are left
  pub front_whole : (s : S) (steps : ℕ) (level ends : List (Node M)) → IsFront m state fits s steps level ends → level ≡ [] → runs m s steps ≡ []
  front_whole s steps level ends front none =
      none_left (runs m s steps) (sym (front.reached (λ t. 1)) ∙ ap (weight state (λ t. 1)) none)

  -- each node has a run of its own
  few : (nodes : List (Node M)) → AreFit fits nodes → length nodes ≤ weight state (λ t. 1) nodes
  few [] fit = omega arith
  few (node ∷ nodes) fit =
      let more : weight state (λ t. 1) (node ∷ nodes) ≡ node.count * 1 + weight state (λ t. 1) nodes = sum_by-cons (λ (n : Node M). n.count * 1) node nodes in
      omega (arith, more, (All-head IsFit node nodes fit).1, few nodes (All-tail IsFit node nodes fit))

  pub front_few : (s : S) (steps : ℕ) (level ends : List (Node M)) → IsFront m state fits s steps level ends → length level ≤ length (runs m s steps)
  front_few s steps level ends front = omega (arith, few level front.fit, front.reached (λ t. 1), total_of_ones (runs m s steps))

  -- the next caller, by its number
  pub caller_more : (node : Node M) (c : ℕ) (old mid new : List (Node M)) → AddsSteps m state fits node (below c) old mid → AddsSteps m state fits node (c ∷ []) mid new
      → AddsSteps m state fits node (below (c + 1)) old new
  caller_more node c old mid new done one =
      subst (λ (cs : List ℕ). AddsSteps m state fits node cs old new) (sym (ap below (add-one c))) (adds_more node (below c) c old mid new done one)

  pub goes_next : (s : S) (c : ℕ) (before now after : Bool) → before ≡ goes_by m s (below c) → now ≡ is_some (m.go s c) → after ≡ (before || now)
      → after ≡ goes_by m s (below (c + 1))
  goes_next s c before now after e f h =
      h ∙ (ap (λ b. b || now) e ∙ (ap (λ b. goes_by m s (below c) || b) f ∙ (goes_more s (below c) c ∙ ap (goes_by m s) (sym (ap below (add-one c))))))

  -- the nodes that are left
  pub fit_same : (nodes others : List (Node M)) → nodes ≡ others → AreFit fits others → AreFit fits nodes
  fit_same nodes others e fit = All-same IsFit nodes others e fit

  pub fit_head : (rest : List (Node M)) (node : Node M) (others : List (Node M)) → rest ≡ node ∷ others → AreFit fits rest → fits node.at × (0 < node.count)
  fit_head rest node others e fit = All-head IsFit node others (fit_same (node ∷ others) rest (sym e) fit)

  pub fit_rest : (rest : List (Node M)) (node : Node M) (others : List (Node M)) → rest ≡ node ∷ others → AreFit fits rest → AreFit fits others
  fit_rest rest node others e fit = All-tail IsFit node others (fit_same (node ∷ others) rest (sym e) fit)

  -- how far the nodes of a level were gone through
  abbrev pub Through : (rest level next old ends : List (Node M)) → Type 0
  Through rest level next old ends = (done : List (Node M)) × (done ++ rest ≡ level) × LeadsOn m state fits done next old ends

  pub through_none : (rest level next ends : List (Node M)) → rest ≡ level → next ≡ [] → Through rest level next ends ends
  through_none rest level next ends e none = ([], e, subst (λ (ns : List (Node M)). LeadsOn m state fits [] ns ends ends) (sym none) (leads_none ends))

  pub through_more : (rest others : List (Node M)) (node : Node M) (goes : Bool) (level mid next old ends new : List (Node M)) → Through rest level mid old ends
      → rest ≡ node ∷ others → AddsSteps m state fits node (below m.callers) mid next → goes ≡ not (is_over m (state node.at)) → IsKept goes ends node new
      → Through others level next old new
  through_more rest others node goes level mid next old ends new before e adds is kept = (
    before.0 ++ node ∷ [],
    append_assoc before.0 (node ∷ []) others ∙ (ap (λ (ns : List (Node M)). before.0 ++ ns) (sym e) ∙ before.1),
    leads_more before.0 node goes mid next old ends new before.2 adds is kept,
  )

  pub through_all : (rest level next old ends : List (Node M)) → Through rest level next old ends → length rest ≡ 0 → LeadsOn m state fits level next old ends
  through_all [] level next old ends before none =
      subst (λ (ns : List (Node M)). LeadsOn m state fits ns next old ends) (sym (append-nil before.0) ∙ before.1) before.2
  through_all (x ∷ rest) level next old ends before none = absurd (omega (arith, none))

  pub front_at : (node : Node M) (start : M) (level ends : List (Node M)) → level ≡ node ∷ [] → node.at ≡ start → node.count ≡ 1 → node.order.items ≡ [] → fits start
      → ends ≡ [] → IsFront m state fits (state start) 0 level ends
  front_at node start level ends alone same one none fit empty =
      subst (λ (ns : List (Node M)). IsFront m state fits (state start) 0 ns ends) (sym alone)
      (subst (λ (ns : List (Node M)). IsFront m state fits (state start) 0 (node ∷ []) ns) (sym empty)
      (subst (λ x. IsFront m state fits (state x) 0 (node ∷ []) []) same (front_first node (subst fits (sym same) fit) one none)))

  -- what is said of as many steps as were gone
  module _ (s : S) (steps told : ℕ) (level ends found : List (Node M)) (front : IsFront m state fits s steps level ends) (same : found ≡ ends) (count : told ≡ steps) where
    pub counted_at : (f : S → ℕ) → weight state f found ≡ total f (orders m s told)
    counted_at f = ap (weight state f) same ∙ (front.counted f ∙ ap (λ k. total f (orders m s k)) (sym count))

    pub whole_at : level ≡ [] → runs m s told ≡ []
    whole_at none = ap (runs m s) count ∙ front_whole s steps level ends front none

    pub cut_at : (most : ℕ) → most < length level → most < length (runs m s told)
    cut_at most more = omega (arith, more, front_few s steps level ends front, ap (λ k. length (runs m s k)) count)

    -- somebody goes on from a node
    pub more_at : 0 < length level → 0 < length (runs m s told)
    more_at some = omega (arith, some, front_few s steps level ends front, ap (λ k. length (runs m s k)) count)

    pub shortest_at : AreShortest told found
    shortest_at =
        subst (λ k. AreShortest k found) (sym count) (subst (λ (ns : List (Node M)). AreShortest steps ns) (sym same) front.shortest)

    pub led_at : AreLed m state s found
    led_at = All-same (λ (n : Node M). IsLed m state s n) found ends same front.led_ends

    pub over_at : AreOver m state found
    over_at = All-same (λ (n : Node M). is_over m (state n.at) ≡ true) found ends same front.over
