-- Visits that take the core by a turn of its own end as whole ones do.
use Rattle.std.proofs.Common.{◌≡◌, ℕ, zero, suc, ◌<◌, Bool, true, false, List, [], ◌∷◌, ◌++◌, length, map, refl, sym, ap, ◌∙◌, subst, eq-eqb}
use Rattle.std.specs.Prelude.{Option, Some, None, codes, is_none, option_map, slice_index, slice_index_or, if◌then◌else◌, replicate}
use Rattle.std.specs.Fmt.{decimal}
use Rattle.std.specs.List.{list_all}
use Rattle.evl_base.specs.declared.board.Board.{Board}
use Rattle.evl_kernel.specs.state.Openings.{opening}
use Rattle.lab_orders.specs.Machines.{is_over, led_along, numbers_below}
use Rattle.lab_step_orders.specs.Cores.{use_of, with_core, is_early, take_turn, visit_begun, begun_turn, ended_by, held_turn}
use Rattle.lab_step_orders.specs.Outcomes.{told_text, staxes_text, mutexes_text}
use Rattle.lab_step_orders.specs.Programs.{next_call}
use Rattle.lab_step_orders.specs.Seen.{Seen, after, first_seen, free_word, go, machine, next_ahead}
use Rattle.lab_step_orders.specs.Told.{caller_line, lines_below, resting_line, stuck_line, waits_text}
use Rattle.lab_step_orders.specs.Visits.{goes_on, set_up, visit_turn}
use Rattle.lab_step_orders.specs.WholeVisits.{AreWhole, EndsSo, NobodyGivesUp, VisitsAreWhole, calls_of}
use Rattle.lab_step_orders.proofs.WholeFrees.{HasDone, Holds, IsHeld, own_led}
use Rattle.lab_step_orders.proofs.WholeSteps.{all_at, all_so, begun_goes, cored, held_goes, none_is, take_goes, whole_goes, whole_led}
use Rattle.lab_step_orders.proofs.WholeTurns.{AheadSettles, alike, calls_is, count_is, early_none, left_is, ready_ahead, timely_some}
use Rattle.lab_step_orders.specs.declared.crews.Crew.{Crew}
use Rattle.lab_step_orders.specs.declared.crews.CrewCaller.{CrewCaller}
use Rattle.lab_step_orders.specs.declared.steps.Ahead.{Ahead}
use Rattle.lab_step_orders.specs.declared.steps.Ahead.TheVariants.{Turns, Visits}
use Rattle.lab_step_orders.specs.declared.steps.Asked.{Asked}
use Rattle.lab_step_orders.specs.declared.steps.CoreUse.{CoreUse}
use Rattle.lab_step_orders.specs.declared.steps.CoreUse.TheVariants.{Whole, Lasts, Tries}
use Rattle.lab_step_orders.specs.declared.steps.Place.{Place}
use Rattle.lab_step_orders.specs.declared.steps.Place.TheVariants.{Begins}
use Rattle.lab_step_orders.specs.declared.steps.Taken.{Taken}
use Rattle.lab_step_orders.specs.declared.steps.Turn.{Turn}
use Rattle.lab_step_orders.specs.declared.steps.Waiting.{Waiting}

-- ---- where orders end

module _ (c w : Crew) (board : w.board ≡ c.board) (same : map calls_of w.callers.items ≡ map calls_of c.callers.items) (uses : (k made : ℕ) → use_of w k made ≡ Whole) (right : c.what_if ≡ None) where
  -- while nobody has the core, a caller makes a turn just where it makes one by whole visits
  stands : (s : Seen) (k : ℕ) → s.core ≡ None → go (alike c w) s k ≡ None → go c s k ≡ None
  stands s k at e = by (next_ahead c s k) refl (sym (whole_goes c w board same uses right s k at) ∙ e) where
    visiting : (visit : Asked) → next_ahead c s k ≡ Some (Visits visit) → visit_turn c s.state k visit ≡ None → (way : CoreUse) → use_of c k (slice_index s.made k) ≡ way → go c s k ≡ None
    visiting visit a v way w = begun_goes c right s k way None (Some (Visits visit)) w at refl a ∙ late way (early (is_early s.state k visit) refl) where
      early : (b : Bool) → is_early s.state k visit ≡ b → is_early s.state k visit ≡ true
      early true h = h
      early false h = let some = timely_some c k s.state visit h in absurd (differ (sym v ∙ some.1)) where
        differ : {turn : Turn} → None ≡ Some turn → ⊥
        differ q = cc

      late : (x : CoreUse) → is_early s.state k visit ≡ true → option_map (after c s k) (visit_begun c s.state k x false (slice_index_or s.places k Begins) visit) ≡ None
      late Whole h = ap (λ (o : Option Turn). option_map (after c s k) o) v
      late Lasts h = ap (λ (b : Bool). option_map (after c s k) (if b then None else take_turn Lasts false (slice_index_or s.places k Begins))) h
      late Tries h = ap (λ (b : Bool). option_map (after c s k) (if b then None else take_turn Tries false (slice_index_or s.places k Begins))) h

    by : (o : Option Ahead) → next_ahead c s k ≡ o → option_map (after c s k) (begun_turn c s.state k Whole false (slice_index_or s.places k Begins) o) ≡ None → go c s k ≡ None
    by None a h = begun_goes c right s k (use_of c k (slice_index s.made k)) None None refl at refl a
    by (Some (Turns turn)) a h = cc
    by (Some (Visits visit)) a h = some (visit_turn c s.state k visit) refl h where
      some : (o : Option Turn) → visit_turn c s.state k visit ≡ o → option_map (after c s k) o ≡ None → go c s k ≡ None
      some None v q = visiting visit a v (use_of c k (slice_index s.made k)) refl
      some (Some turn) v q = cc

  stands_whole : NobodyGivesUp c → (s : Seen) (k : ℕ) → s.core ≡ None → go c s k ≡ None → go (alike c w) s k ≡ None
  stands_whole never s k at e = whole_goes c w board same uses right s k at ∙ by (next_ahead c s k) refl where
    visiting : (visit : Asked) → next_ahead c s k ≡ Some (Visits visit) → (way : CoreUse) → use_of c k (slice_index s.made k) ≡ way → option_map (after c s k) (visit_turn c s.state k visit) ≡ None
    visiting visit a Tries w = absurd (never k (slice_index s.made k) w)
    visiting visit a Whole w = sym (begun_goes c right s k Whole None (Some (Visits visit)) w at refl a) ∙ e
    visiting visit a Lasts w = early (is_early s.state k visit) refl where
      early : (b : Bool) → is_early s.state k visit ≡ b → option_map (after c s k) (visit_turn c s.state k visit) ≡ None
      early true h = ap (λ (o : Option Turn). option_map (after c s k) o) (early_none c k s.state visit h)
      early false h = absurd (differ (sym (take_goes c right s k Lasts visit w (λ q. cc) at a h) ∙ e)) where
        differ : {u : Seen} → Some u ≡ None → ⊥
        differ q = cc

    by : (o : Option Ahead) → next_ahead c s k ≡ o → option_map (after c s k) (begun_turn c s.state k Whole false (slice_index_or s.places k Begins) o) ≡ None
    by None a = refl
    by (Some (Turns turn)) a = absurd (differ (sym (begun_goes c right s k (use_of c k (slice_index s.made k)) None (Some (Turns turn)) refl at refl a) ∙ e)) where
      differ : {u : Seen} → Some u ≡ None → ⊥
      differ q = cc
    by (Some (Visits visit)) a = visiting visit a (use_of c k (slice_index s.made k)) refl

  -- nobody ends with the core
  free_at_end : (s : Seen) → IsHeld c s → is_over (machine c) s ≡ true → s.core ≡ None
  free_at_end s held over = by s.core refl held.1 where
    moves : {u : Seen} (k : ℕ) → k < length c.callers.items → go c s k ≡ Some u → ⊥
    moves k lt goes = differ (sym goes ∙ none_is (go c s k) (all_at (λ j. is_none (go c s j)) (length c.callers.items) k lt over)) where
      differ : {u : Seen} → Some u ≡ None → ⊥
      differ q = cc

    done : (taken : Taken) → s.core ≡ Some taken → taken.who < length c.callers.items → (b : Bool) → taken.is_done ≡ b → HasDone c s taken.who b → ⊥
    done taken at lt true is h =
        moves taken.who lt
        (held_goes c right s taken.who taken (next_ahead c s taken.who) at (eq-eqb taken.who taken.who refl) refl
        ∙ ap (λ (b : Bool). option_map (after c s taken.who) (held_turn c s.state taken.who b (next_ahead c s taken.who))) is)
    done taken at lt false is ready =
        let k = taken.who in
        let settled = ready_ahead c s.gates s.mutexes k s.state (slice_index_or s.waits k None) (slice_index_or s.places k Begins) (next_call c k (slice_index s.made k)) ready in
        on settled.0 settled.1 settled.2 where
          goes : (ahead : Ahead) → next_ahead c s taken.who ≡ Some ahead → go c s taken.who ≡ option_map (after c s taken.who) (held_turn c s.state taken.who false (Some ahead))
          goes ahead a = held_goes c right s taken.who taken (Some ahead) at (eq-eqb taken.who taken.who refl) a
              ∙ ap (λ (b : Bool). option_map (after c s taken.who) (held_turn c s.state taken.who b (Some ahead))) is

          on : (ahead : Ahead) → next_ahead c s taken.who ≡ Some ahead → AheadSettles s.state taken.who ahead → ⊥
          on (Turns turn) a h = moves taken.who lt (goes (Turns turn) a)
          on (Visits visit) a h =
              let some = timely_some c taken.who s.state visit h in
              moves taken.who lt (goes (Visits visit) a ∙ ap (λ (o : Option Turn). option_map (after c s taken.who) (option_map (with_core (ended_by visit)) o)) some.1)

    by : (o : Option Taken) → s.core ≡ o → Holds c s o → s.core ≡ None
    by None at h = at
    by (Some taken) at h = absurd (done taken at h.0 taken.is_done refl h.1)

  over_own : (s : Seen) → s.core ≡ None → is_over (machine (alike c w)) s ≡ true → is_over (machine c) s ≡ true
  over_own s at over =
      all_so (λ k. is_none (go (alike c w) s k)) (λ k. is_none (go c s k)) (λ k e. ap (λ (o : Option Seen). is_none o) (stands s k at (none_is (go (alike c w) s k) e)))
      (numbers_below (length c.callers.items))
      (subst (λ (n : ℕ). list_all (λ k. is_none (go (alike c w) s k)) (numbers_below n) ≡ true) (count_is c w board same) over)

  over_whole : NobodyGivesUp c → (s : Seen) → s.core ≡ None → is_over (machine c) s ≡ true → is_over (machine (alike c w)) s ≡ true
  over_whole never s at over =
      subst (λ (n : ℕ). list_all (λ k. is_none (go (alike c w) s k)) (numbers_below n) ≡ true) (sym (count_is c w board same))
      (all_so (λ k. is_none (go c s k)) (λ k. is_none (go (alike c w) s k)) (λ k e. ap (λ (o : Option Seen). is_none o) (stands_whole never s k at (none_is (go c s k) e))) (numbers_below (length c.callers.items)) over)

-- ---- where they begin, and what is reported

same_list : {B : Type 0} (b : B) (xs : List CrewCaller) → map (λ x. b) xs ≡ replicate (length xs) b
same_list b [] = refl
same_list b (x ∷ xs) = ap (λ (ys : List _). b ∷ ys) (same_list b xs)

same_lists : {B : Type 0} (b : B) (xs ys : List CrewCaller) → length xs ≡ length ys → map (λ x. b) xs ≡ map (λ x. b) ys
same_lists b xs ys e = same_list b xs ∙ (ap (λ n. replicate n b) e ∙ sym (same_list b ys))

abbrev pub begun_seen : Crew → Board → ℕ → List Place → List ℕ → List (List ℕ) → List (Option Waiting) → Seen
begun_seen c b n places made answers waits = record {
  gates = replicate (length b.staxes.items) (free_word n);
  mutexes = replicate (length b.mutexes.items) (free_word n);
  places = places;
  made = made;
  answers = answers;
  waits = waits;
  core = None;
  state = set_up (opening b []) c.setup.items;
}

module _ (c w : Crew) (board : w.board ≡ c.board) (same : map calls_of w.callers.items ≡ map calls_of c.callers.items) where
  first_is_one : first_seen (alike c w) ≡ first_seen c
  first_is_one =
      let xs = c.callers.items in
      let ys = w.callers.items in
      let n = length xs in
      let e = count_is c w board same in
      ap (λ (b : Board). begun_seen c b (length ys) (map (λ x. Begins) ys) (map (λ x. 0) ys) (map (λ x. []) ys) (map (λ x. None) ys)) board
      ∙ (ap (λ (k : ℕ). begun_seen c c.board k (map (λ x. Begins) ys) (map (λ x. 0) ys) (map (λ x. []) ys) (map (λ x. None) ys)) e
      ∙ (ap (λ (l : List Place). begun_seen c c.board n l (map (λ x. 0) ys) (map (λ x. []) ys) (map (λ x. None) ys)) (same_lists Begins ys xs e)
      ∙ (ap (λ (l : List ℕ). begun_seen c c.board n (map (λ x. Begins) xs) l (map (λ x. []) ys) (map (λ x. None) ys)) (same_lists 0 ys xs e)
      ∙ (ap (λ (l : List (List ℕ)). begun_seen c c.board n (map (λ x. Begins) xs) (map (λ x. 0) xs) l (map (λ x. None) ys)) (same_lists [] ys xs e)
      ∙ ap (λ (l : List (Option Waiting)). begun_seen c c.board n (map (λ x. Begins) xs) (map (λ x. 0) xs) (map (λ x. []) xs) l) (same_lists None ys xs e)))))

lines_alike : (one other : ℕ → List ℕ) → ((k : ℕ) → one k ≡ other k) → (n : ℕ) → lines_below one n ≡ lines_below other n
unfolding lines_below
lines_alike one other same zero = refl
lines_alike one other same (suc n) = ap (λ (l : List ℕ). l ++ one n) (lines_alike one other same n) ∙ ap (λ (l : List ℕ). lines_below other n ++ l) (same n)

module _ (c w : Crew) (board : w.board ≡ c.board) (same : map calls_of w.callers.items ≡ map calls_of c.callers.items) where
  told_is_one : (s : Seen) → told_text (alike c w) s ≡ told_text c s
  told_is_one s =
      let n = length c.callers.items in
      let words = staxes_text s.gates ++ mutexes_text s.mutexes in
      let stuck : lines_below (stuck_line (alike c w) s.made s.waits) (length (alike c w).callers.items) ≡ lines_below (stuck_line c s.made s.waits) n =
      lines_alike (stuck_line (alike c w) s.made s.waits) (stuck_line c s.made s.waits)
      (λ k. ap (λ (b : Bool). if b then codes "stuck: T" ++ (decimal k ++ (waits_text (slice_index_or s.waits k None) ++ codes "\n")) else []) (left_is c w board same k (slice_index s.made k))) (length (alike c w).callers.items)
      ∙ ap (λ (m : ℕ). lines_below (stuck_line c s.made s.waits) m) (count_is c w board same) in
      let resting : lines_below (resting_line (alike c w) s.made s.waits s.state) (length (alike c w).callers.items) ≡ lines_below (resting_line c s.made s.waits s.state) n =
      lines_alike (resting_line (alike c w) s.made s.waits s.state) (resting_line c s.made s.waits s.state)
      (λ k. ap (λ (b : Bool). if b then [] else if goes_on s.state k then codes "T" ++ (decimal k ++ (waits_text (slice_index_or s.waits k None) ++ codes "\n")) else []) (left_is c w board same k (slice_index s.made k))) (length (alike c w).callers.items)
      ∙ ap (λ (m : ℕ). lines_below (resting_line c s.made s.waits s.state) m) (count_is c w board same) in
      let answers : lines_below (caller_line (alike c w) s.answers) (length (alike c w).callers.items) ≡ lines_below (caller_line c s.answers) n =
      lines_alike (caller_line (alike c w) s.answers) (caller_line c s.answers)
      (λ k. ap (λ (b : Bool). if b then codes "T" ++ (decimal k ++ (slice_index_or s.answers k [] ++ codes "\n")) else []) (calls_is c w board same k)) (length (alike c w).callers.items)
      ∙ ap (λ (m : ℕ). lines_below (caller_line c s.answers) m) (count_is c w board same) in
      let rest : List ℕ = lines_below (caller_line (alike c w) s.answers) (length (alike c w).callers.items) ++ words in
      ap (λ (l : List ℕ). l ++ (lines_below (resting_line (alike c w) s.made s.waits s.state) (length (alike c w).callers.items) ++ rest)) stuck
      ∙ ap (λ (l : List ℕ). lines_below (stuck_line c s.made s.waits) n ++ (l ++ rest)) resting
      ∙ ap (λ (l : List ℕ). lines_below (stuck_line c s.made s.waits) n ++ (lines_below (resting_line c s.made s.waits s.state) n ++ (l ++ words))) answers

all_begin : (xs : List CrewCaller) → length (map (λ x. Begins) xs) ≡ length xs
all_begin [] = refl
all_begin (x ∷ xs) = ap suc (all_begin xs)

ends_alike : (c w : Crew) (told : List ℕ) (board : w.board ≡ c.board) (same : map calls_of w.callers.items ≡ map calls_of c.callers.items) (uses : (k made : ℕ) → use_of w k made ≡ Whole) → c.what_if ≡ None
    → (EndsSo (alike c w) told → EndsSo c told) × (NobodyGivesUp c → EndsSo c told → EndsSo (alike c w) told)
ends_alike c w told board same uses right = (from_whole, to_whole) where
  from_whole : EndsSo (alike c w) told → EndsSo c told
  from_whole ends =
      let lead = ends.1 in
      let leads : led_along (machine (alike c w)) (first_seen c) ends.0 ≡ Some lead.end = subst (λ (u : Seen). led_along (machine (alike c w)) u ends.0 ≡ Some lead.end) (first_is_one c w board same) lead.leads in
      let own = whole_led c w board same uses right ends.0 (first_seen c) lead.end refl leads in
      (own.1, record { end = lead.end; leads = own.2; over = over_own c w board same uses right lead.end own.0 lead.over; tells = lead.tells ∙ told_is_one c w board same lead.end })

  to_whole : NobodyGivesUp c → EndsSo c told → EndsSo (alike c w) told
  to_whole never ends =
      let lead = ends.1 in
      let run = own_led c w board same uses right never ends.0 (first_seen c) lead.end (all_begin c.callers.items, tt) lead.leads in
      let free = free_at_end c w board same uses right lead.end run.0 lead.over in
      let end : cored lead.end None ≡ lead.end = ap (λ (o : Option Taken). cored lead.end o) (sym free) in (
        run.1,
        record {
          end = lead.end;
          leads = subst (λ (u : Seen). led_along (machine (alike c w)) u run.1 ≡ Some lead.end) (sym (first_is_one c w board same)) (run.2 ∙ ap (λ (u : Seen). Some u) end);
          over = over_whole c w board same uses right never lead.end free lead.over;
          tells = lead.tells ∙ sym (told_is_one c w board same lead.end);
        },
      )

-- the same callers are others over the same board
is_alike : (c w : Crew) → AreWhole c w → alike c w ≡ w
is_alike c w are =
    ap (λ l. record w { setup = l; steps = c.steps; what_if = c.what_if }) (sym are.setup)
    ∙ (ap (λ l. record w { steps = l; what_if = c.what_if }) (sym are.steps)
    ∙ ap (λ o. record w { what_if = o }) (sym are.what_if))

pub all_end_alike : VisitsAreWhole
all_end_alike c w told are right =
    subst (λ (v : Crew). (EndsSo v told → EndsSo c told) × (NobodyGivesUp c → EndsSo c told → EndsSo v told)) (is_alike c w are) (ends_alike c w told are.board are.calls are.whole right)
