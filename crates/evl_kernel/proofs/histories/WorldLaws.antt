-- All that a run shows outside the in-band stage follows from its calls but for in-band stalls.
use Rattle.std.proofs.Common.{◌≡◌, ℕ, ◌+◌, ◌==◌, nat_lt, ◌⊎◌, inl, inr, Bool, true, false, not, ◌&&◌, cond, List, [], ◌∷◌, ◌++◌, All, length, map, Option, Some, None, Result, Ok, Err, is_ok, is_some, unwrap_or, if◌then◌else◌, refl, sym, ap, ◌∙◌, subst, arith}
use Rattle.std.specs.Option.{option_map}
use Rattle.std.proofs.lemmas.Bool.{false≢true, and_parts}
use Rattle.std.proofs.lemmas.List.Elements.{All-head, All-tail, filter-append}
use Rattle.std.proofs.lemmas.Option.{none-some, same_Some}
use Rattle.evl_base.specs.declared.stage.Stage.{Stage}
use Rattle.evl_base.specs.declared.stage.Stage.TheVariants.{Inband, Oob}
use Rattle.evl_base.specs.declared.call.Call.{Call}
use Rattle.evl_base.specs.declared.entry.Entry.{Entry}
use Rattle.evl_base.specs.declared.play.Play.{Play}
use Rattle.evl_base.specs.declared.refusal.Refusal.{Refusal}
use Rattle.evl_base.specs.declared.reply.Reply.{Reply}
use Rattle.evl_pipeline.specs.declared.plan.Plan.{Plan}
use Rattle.evl_pipeline.specs.NumberSet.{least}
use Rattle.evl_pipeline.specs.Lines as lines
use Rattle.evl_pipeline.proofs.NumberSetLaws.{contains-least}
use Rattle.evl_clock.specs.declared.due.Item.{Item}
use Rattle.evl_clock.specs.declared.due.Item.TheVariants as item
use Rattle.evl_clock.specs.Dues.{next_due, is_due}
use Rattle.evl_sched.specs.Picks.{is_anyone_eligible}
use Rattle.evl_kernel.specs.state.Limits.{inband_limit}
use Rattle.evl_kernel.specs.settling.Paths.{Along}
use Rattle.evl_kernel.specs.state.States.{State, with_lines, plan_at}
use Rattle.evl_kernel.specs.calls.Effects.{Effect, done, refused_by}
use Rattle.evl_kernel.specs.calls.Families.{LineStep, request, free, arrive, post, stall, unstall, line_effect, Task, on_lines, on_clock, on_threads, on_element, on_staged, begins, ends, performing, task_of, raises}
use Rattle.evl_kernel.specs.calls.Serving.{general_refusal, answer}
use Rattle.evl_kernel.specs.settling.Settling.{Settling, item_next, next_play, going_on, is_of_clock, item_played, pending_played, line_played, clock_played, after_call, nothing}
use Rattle.evl_kernel.specs.histories.Histories.{History, Run, Follows, IsLegal, opened_kernel}
use Rattle.evl_kernel.specs.state.Openings.{opening}
use Rattle.evl_kernel.specs.histories.Worlds.{is_inband_step, is_inband_task, is_inband_stall, is_inband_play, outside_inband, played_outside, RequestsNoActions}
use Rattle.evl_kernel.specs.histories.Laws.{TwoWorlds, call_of}
use Rattle.evl_kernel.proofs.settling.DueLaws.{one_played, none_played, item_due}
use Rattle.evl_kernel.proofs.settling.Walking.{walked_along}
use Rattle.evl_kernel.proofs.settling.QuietLaws.{IsQuiet, ended_quiet, follows_quiet, opening_quiet}
use Rattle.evl_kernel.proofs.histories.OutsideLaws.{outside, out, out-answer, Outer, next_outside, next_outside-quiet, next_outside-item, next_outside-plays, outside-silent_play}
use Rattle.evl_kernel.proofs.calls.LeavesLaws.{Leaves}
use Rattle.evl_kernel.proofs.histories.SilenceLaws.{IsSilent, silent-answer, silent-item, silent-played, silent-opening, inband_there}

-- the line that is next is the lowest that pends on its stage
abbrev pub Chosen : lines.Pipeline ℕ → Stage → ℕ → Type 0
Chosen p Oob line = ((is_some (least p.oob.pending) && not p.oob.stalled) ≡ true) × (least p.oob.pending ≡ Some line)
Chosen p Inband line = least p.inband.pending ≡ Some line

pub chosen : (p : lines.Pipeline ℕ) (eligible inband : Bool) (stage : Stage) (line : ℕ) → lines.next_line p eligible inband ≡ Some (stage, line) → Chosen p stage line
chosen p eligible inband stage line h = by (lines.is_playable p Oob eligible inband) refl (lines.is_playable p Inband eligible inband) h
  where
    first : (is_some (least p.oob.pending) && not p.oob.stalled) ≡ true → (o : Option ℕ) → least p.oob.pending ≡ o → option_map {U = Stage × ℕ} (λ n. (Oob, n)) o ≡ Some (stage, line) → Chosen p stage line
    first playable None low e = absurd (none-some _ e)
    first playable (Some n) low e = subst (λ (v : Stage × ℕ). Chosen p v.0 v.1) (same_Some _ _ e) (playable, low)

    second : (o : Option ℕ) → least p.inband.pending ≡ o → option_map {U = Stage × ℕ} (λ n. (Inband, n)) o ≡ Some (stage, line) → Chosen p stage line
    second None low e = absurd (none-some _ e)
    second (Some n) low e = subst (λ (v : Stage × ℕ). Chosen p v.0 v.1) (same_Some _ _ e) low

    by : (b : Bool) → (is_some (least p.oob.pending) && not p.oob.stalled) ≡ b → (c : Bool)
        → (if b then option_map {U = Stage × ℕ} (λ n. (Oob, n)) (least p.oob.pending) else (if c then option_map {U = Stage × ℕ} (λ n. (Inband, n)) (least p.inband.pending) else None)) ≡ Some (stage, line)
        → Chosen p stage line
    by true playable c e = first playable (least p.oob.pending) refl e
    by false playable true e = second (least p.inband.pending) refl e
    by false playable false e = absurd (none-some _ e)

pub chosen_pends : (p : lines.Pipeline ℕ) (stage : Stage) (line : ℕ) → Chosen p stage line → lines.is_pending p stage line ≡ true
chosen_pends p Oob line low = contains-least p.oob.pending line low.1
chosen_pends p Inband line low = contains-least p.inband.pending line low

-- while the kernel settles the clock's play goes on only where something is due
abbrev IsProper : Settling → Type 0
IsProper at = at.in_clock ≡ true → is_due at.state.clock ≡ true

abbrev outer : Settling → Outer
outer at = (outside at.state, at.in_clock)

proper_on : (at : Settling) (stage : Stage) (p : Play × State) → IsProper (going_on at stage p).1
proper_on at stage p e = (and_parts (is_of_clock p.0) (is_due p.1.clock) e).1

-- where no item is next, the clock's play doesn't go on
no_clock : (at : Settling) → IsProper at → item_next at ≡ None → at.in_clock ≡ false
no_clock at proper none = by at.in_clock refl
  where
    by : (b : Bool) → at.in_clock ≡ b → b ≡ false
    by false is = refl
    by true is =
        let nothing_due : next_due at.state.clock ≡ None = sym (ap (λ (b : Bool). if b then next_due at.state.clock else None) is) ∙ none in
        absurd (false≢true (sym (ap (λ (o : Option Item). is_some o) nothing_due) ∙ proper is))

-- an out-of-band play is the one that is next outside, and an in-band one changes nothing there
abbrev Shows : Settling → Play × Settling → Type 0
Shows at x = ((is_inband_play x.0 ≡ false) × (next_outside (outer at) ≡ Some (x.0, outer x.1))) ⊎ ((is_inband_play x.0 ≡ true) × (outer x.1 ≡ outer at))

item_shows : (at : Settling) (found : Item) → item_next at ≡ Some found → Shows at (going_on at Oob (item_played at.state found))
item_shows at found is = inl (beside found, next_outside-item at.state at.in_clock found is)
  where
    beside : (one : Item) → is_inband_play (item_played at.state one).0 ≡ false
    beside (item.Timer id) = refl
    beside (item.Deadline thread) = refl

played_shows : (start : State) (at : Settling) (stage : Stage) (line : ℕ) → IsSilent start at.state → IsProper at → item_next at ≡ None → Chosen at.state.lines stage line → Shows at (going_on at stage (pending_played at.state stage line))
played_shows start at Oob line h proper none low = inl (beside (line == 0), next_outside-plays at.state at.in_clock line none low.0 low.1)
  where
    beside : (b : Bool) → is_inband_play (if b then clock_played at.state else line_played at.state Oob line (unwrap_or (lines.installed_at at.state.lines Oob line) nothing)).0 ≡ false
    beside true = refl
    beside false = refl
played_shows start at Inband line h proper none low =
    let s = at.state in
    let found = inband_there start s line h (chosen_pends s.lines Inband line low) in
    let none' : (plan_at s found.0.callback).rows.items ≡ [] = ap (λ (p : Plan). p.rows.items) (h.plans found.0.callback) ∙ h.silent line found.0 found.1 in
    let ended = no_clock at proper none in
    inr (refl, (λ i. (outside-silent_play s line found.0 found.1 none' i, sym ended i)))

-- what is known along the path of a settling
record IsShown (start : State) (at : Settling) : Type 0 where
  silent : IsSilent start at.state
  proper : IsProper at

next_shows : (start : State) (at mid : Settling) (one : Play) → IsShown start at → next_play at ≡ Some (one, mid) → Shows at (one, mid) × IsShown start mid
next_shows start at mid one h next = one_played (λ (x : Play × Settling). Shows at x × IsShown start x.1) at mid one
    (λ found is. (
      item_shows at found is,
      record { silent = silent-item start at.state found h.silent (item_due at found is); proper = proper_on at Oob (item_played at.state found) },
    ))
    (λ stage line none is.
    let low = chosen at.state.lines (is_anyone_eligible at.state.sched) (nat_lt at.inband inband_limit) stage line is in (
      played_shows start at stage line h.silent h.proper none low,
      record {
        silent = silent-played start at.state stage line h.silent (chosen_pends at.state.lines stage line low);
        proper = proper_on at stage (pending_played at.state stage line);
      },
    )) next

path_more : (at mid end : Settling) (one : Play) (others : List Play) → Shows at (one, mid)
    → Along next_outside (outer mid) (played_outside others) (outer end) → Along next_outside (outer at) (played_outside (one ∷ others)) (outer end)
path_more at mid end one others (inl (beside, next)) path =
    subst (λ (b : Bool). Along next_outside (outer at) (cond (not b) (one ∷ played_outside others) (played_outside others)) (outer end)) (sym beside) (outer mid, next, path)
path_more at mid end one others (inr (within, same)) path =
    subst (λ (b : Bool). Along next_outside (outer at) (cond (not b) (one ∷ played_outside others) (played_outside others)) (outer end)) (sym within)
    (subst (λ (x : Outer). Along next_outside x (played_outside others) (outer end)) same path)

-- the path of a settling, outside
settled_outside : (start : State) (at last : Settling) (plays : List Play) → IsShown start at → Along next_play at plays last
    → Along next_outside (outer at) (played_outside plays) (outer last) × IsShown start last
settled_outside start at last [] h path = (ap outer path, subst (λ (x : Settling). IsShown start x) (sym path) h)
settled_outside start at last (one ∷ others) h (mid, next, path) =
    let shows = next_shows start at mid one h next in
    let rest = settled_outside start mid last others shows.1 path in
    (path_more at mid last one others shows.0 rest.0, rest.1)

-- what follows an effect, outside
abbrev FollowsOutside : State → Effect → Result Reply Refusal → List Play → State → Type 0
FollowsOutside old (Err refusal) reply plays new = (reply ≡ Err refusal) × (plays ≡ []) × (new ≡ old)
FollowsOutside old (Ok (given, changed)) reply plays new = (reply ≡ Ok given) × Along next_outside (changed, false) plays (new, false) × (next_outside (new, false) ≡ None)

follows_outside : (start old : State) (effect : Effect) (reply : Result Reply Refusal) (plays : List Play) (new : State)
    → IsSilent start old → (is_ok reply ≡ true → Leaves (IsSilent start) effect) → Follows old effect reply plays new
    → FollowsOutside (outside old) (out effect) reply (played_outside plays) (outside new) × IsSilent start new
follows_outside start old (Err refusal) reply plays new h left p = ((p.0, ap played_outside p.1, ap outside p.2), subst (IsSilent start) (sym p.2) h)
follows_outside start old (Ok (given, changed)) reply plays new h left (said, settles) =
    let path = settled_outside start (after_call changed) settles.last plays (record { silent = left (ap is_ok said); proper = λ e. absurd (false≢true e) }) settles.played in
    let over = no_clock settles.last path.1.proper (none_played settles.last settles.ended).0 in
    let ends = subst (λ (b : Bool). Along next_outside (outside changed, false) (played_outside plays) (outside settles.last.state, b)) over path.0 in
    subst (λ (s : State). FollowsOutside (outside old) (out (Ok (given, changed))) reply (played_outside plays) (outside s) × IsSilent start s) (sym settles.left)
    ((said, ends, next_outside-quiet settles.last.state (ended_quiet settles.last settles.ended)), path.1.silent)

-- an in-band stall changes nothing outside
stays : {S P : Type 0} (next : S → Option (P × S)) (at : S) (outs : List P) (end : S) → next at ≡ None → Along next at outs end → (outs ≡ []) × (end ≡ at)
stays next at [] end none path = (refl, path)
stays next at (one ∷ outs) end none (mid, here, path) = absurd (none-some _ (sym none ∙ here))

step_is : (step : LineStep) → is_inband_step step ≡ true → (step ≡ stall Inband) ⊎ (step ≡ unstall Inband)
step_is (stall Inband) e = inl refl
step_is (stall Oob) e = absurd (false≢true e)
step_is (unstall Inband) e = inr refl
step_is (unstall Oob) e = absurd (false≢true e)
step_is (request line stage number tag) e = absurd (false≢true e)
step_is (free line stage) e = absurd (false≢true e)
step_is (arrive line) e = absurd (false≢true e)
step_is (post stage line) e = absurd (false≢true e)

stall_outside : (old : State) (caller : ℕ) (asked : Call) (reply : Result Reply Refusal) (plays : List Play) (new : State) → is_inband_stall asked ≡ true → next_outside (outside old, false) ≡ None
    → FollowsOutside (outside old) (out (answer old caller asked)) reply plays new → (plays ≡ []) × (new ≡ outside old)
stall_outside old caller asked reply plays new is quiet p = by (task_of asked) is p
  where
    held : (o : Option Refusal) (s : State) → outside s ≡ outside old → FollowsOutside (outside old) (out (refused_by o (done s))) reply plays new → (plays ≡ []) × (new ≡ outside old)
    held (Some refusal) s same q = (q.1, q.2)
    held None s same q =
        let stayed = stays next_outside (outside old, false) plays (new, false) quiet (subst (λ (x : State). Along next_outside (x, false) plays (new, false)) same q.1) in
        (stayed.0, ap (λ (x : Outer). x.0) stayed.1)

    step_held : (step : LineStep) → (step ≡ stall Inband) ⊎ (step ≡ unstall Inband)
        → FollowsOutside (outside old) (out (refused_by (general_refusal old caller asked) (line_effect old step))) reply plays new → (plays ≡ []) × (new ≡ outside old)
    step_held step (inl begun) q = held (general_refusal old caller asked) (with_lines old (lines.stalled old.lines Inband)) refl
        (subst (λ (x : LineStep). FollowsOutside (outside old) (out (refused_by (general_refusal old caller asked) (line_effect old x))) reply plays new) begun q)
    step_held step (inr ended) q = held (general_refusal old caller asked) (with_lines old (lines.unstalled old.lines Inband)) refl
        (subst (λ (x : LineStep). FollowsOutside (outside old) (out (refused_by (general_refusal old caller asked) (line_effect old x))) reply plays new) ended q)

    by : (task : Task) → is_inband_task task ≡ true → FollowsOutside (outside old) (out (refused_by (general_refusal old caller asked) (performing old caller task).effect)) reply plays new
        → (plays ≡ []) × (new ≡ outside old)
    by (on_lines step) its q = step_held step (step_is step its) q
    by (on_clock step) its q = absurd (false≢true its)
    by (on_threads step) its q = absurd (false≢true its)
    by (on_element step) its q = absurd (false≢true its)
    by (on_staged step_from) its q = absurd (false≢true its)
    by (raises n) its q = absurd (false≢true its)
    by (begins wants until) its q = absurd (false≢true its)
    by (ends keep) its q = absurd (false≢true its)

-- the calls give the replies and plays, outside
abbrev RunOutside : State → List (ℕ × Call) → List (Result Reply Refusal) → List Play → Type 0
RunOutside old [] replies plays = (replies ≡ []) × (plays ≡ [])
RunOutside old (c ∷ calls) replies plays =
    (reply : Result Reply Refusal) × (others : List (Result Reply Refusal)) × (own : List Play) × (rest : List Play) × (mid : State)
    × (replies ≡ reply ∷ others) × (plays ≡ own ++ rest) × FollowsOutside old (out (answer old c.0 c.1)) reply own mid × RunOutside mid calls others rest

abbrev reply_of : Entry → Result Reply Refusal
reply_of e = e.reply

run_outside_more : (old mid : State) (e : Entry) (entries : List Entry) (plays own rest : List Play) → next_outside (outside old, false) ≡ None → plays ≡ own ++ rest
    → FollowsOutside (outside old) (out (answer old e.caller.0 e.call)) e.reply own (outside mid)
    → RunOutside (outside mid) (map call_of (outside_inband entries)) (map reply_of (outside_inband entries)) rest
    → RunOutside (outside old) (map call_of (outside_inband (e ∷ entries))) (map reply_of (outside_inband (e ∷ entries))) plays
run_outside_more old mid e entries plays own rest quiet split step run = by (is_inband_stall e.call) refl
  where
    by : (b : Bool) → is_inband_stall e.call ≡ b
        → RunOutside (outside old) (map call_of (cond (not b) (e ∷ outside_inband entries) (outside_inband entries))) (map reply_of (cond (not b) (e ∷ outside_inband entries) (outside_inband entries))) plays
    by true is =
        let held = stall_outside old e.caller.0 e.call e.reply own (outside mid) is quiet step in
        let all : plays ≡ rest = split ∙ ap (λ (ps : List Play). ps ++ rest) held.0 in
        subst (λ (s : State). RunOutside s (map call_of (outside_inband entries)) (map reply_of (outside_inband entries)) plays) held.1
        (subst (λ (ps : List Play). RunOutside (outside mid) (map call_of (outside_inband entries)) (map reply_of (outside_inband entries)) ps) (sym all) run)
    by false is = (
      e.reply,
      map reply_of (outside_inband entries),
      own,
      rest,
      outside mid,
      refl,
      split,
      subst (λ (effect : Effect). FollowsOutside (outside old) effect e.reply own (outside mid)) (out-answer old e.caller.0 e.call) step,
      run,
    )

run_outside : (start old : State) (entries : List Entry) (plays : List Play) (new : State) → IsSilent start old → IsQuiet old → All (RequestsNoActions start) entries
    → Run old entries plays new → RunOutside (outside old) (map call_of (outside_inband entries)) (map reply_of (outside_inband entries)) (played_outside plays)
run_outside start old [] plays new h quiet none run = (refl, ap played_outside run.0)
run_outside start old (e ∷ entries) plays new h quiet none (own, rest, mid, split, step, run) =
    let effect = answer old e.caller.0 e.call in
    let first = All-head (RequestsNoActions start) e entries none in
    let others = All-tail (RequestsNoActions start) e entries none in
    let left : is_ok e.reply ≡ true → Leaves (IsSilent start) effect = λ passed. silent-answer start old e.caller.0 e.call h (λ line number tag is. first line number tag is passed) in
    let follows = follows_outside start old effect e.reply own mid h left step.1 in
    let later = run_outside start mid entries rest new follows.1 (follows_quiet old effect e.reply own mid quiet step.1) others run in
    run_outside_more old mid e entries (played_outside plays) (played_outside own) (played_outside rest) (next_outside-quiet old quiet)
    (ap played_outside split ∙ filter-append (λ (p : Play). not (is_inband_play p)) own rest) follows.0 later

-- the calls determine them
path_one_way : {S P : Type 0} (next : S → Option (P × S)) (at : S) (outs more : List P) (last end : S) → Along next at outs last → next last ≡ None → Along next at more end → next end ≡ None
    → (outs ≡ more) × (last ≡ end)
path_one_way {S} {P} next at outs more last end p over q done =
    let both : ◌≡◌ {A = List P × S} (outs, last) (more, end) =
    sym (walked_along next (length outs + length more) at outs last p over (omega arith)) ∙ walked_along next (length outs + length more) at more end q done (omega arith) in
    (ap (λ (x : List P × S). x.0) both, ap (λ (x : List P × S). x.1) both)

follows_outside_one_way : (old : State) (effect : Effect) (reply given : Result Reply Refusal) (plays more : List Play) (new other : State)
    → FollowsOutside old effect reply plays new → FollowsOutside old effect given more other → (reply ≡ given) × (plays ≡ more) × (new ≡ other)
follows_outside_one_way old (Err refusal) reply given plays more new other p q = (p.0 ∙ sym q.0, p.1 ∙ sym q.1, p.2 ∙ sym q.2)
follows_outside_one_way old (Ok (said, changed)) reply given plays more new other (is, path, over) (was, walk, done) =
    let one = path_one_way next_outside (changed, false) plays more (new, false) (other, false) path over walk done in (is ∙ sym was, one.0, ap (λ (x : Outer). x.0) one.1)

run_outside_one_way : (old : State) (calls : List (ℕ × Call)) (replies given : List (Result Reply Refusal)) (plays more : List Play)
    → RunOutside old calls replies plays → RunOutside old calls given more → (plays ≡ more) × (replies ≡ given)
run_outside_one_way old [] replies given plays more p q = (p.1 ∙ sym q.1, p.0 ∙ sym q.0)
run_outside_one_way old (c ∷ calls) replies given plays more (reply, others, own, rest, mid, said, split, step, run) (answer_too, givens, its, left, end, says, divide, stride, walk) =
    let one = follows_outside_one_way old (out (answer old c.0 c.1)) reply answer_too own its mid end step stride in
    let walk_on : RunOutside mid calls givens left = subst (λ (s : State). RunOutside s calls givens left) (sym one.2) walk in
    let all = run_outside_one_way mid calls others givens rest left run walk_on in
    (split ∙ ((λ i. one.1 i ++ all.0 i) ∙ sym divide), said ∙ ((λ i. one.0 i ∷ all.1 i) ∙ sym says))

shown_outside : (h : History) → All (RequestsNoActions (opened_kernel h)) h.entries → IsLegal h
    → RunOutside (outside (opened_kernel h)) (map call_of (outside_inband h.entries)) (map reply_of (outside_inband h.entries)) (played_outside h.plays)
shown_outside h none legal = run_outside (opened_kernel h) (opened_kernel h) h.entries h.plays h.state (silent-opening h.board h.bank) (opening_quiet h.board h.bank) none legal

pub worlds_agree : TwoWorlds
worlds_agree h other p q board_is bank_is same none none_too =
    let shown = shown_outside h none p in
    let from : outside (opened_kernel other) ≡ outside (opened_kernel h) = (λ i. outside (opening (board_is i) (bank_is i))) in
    let more_shown = subst (λ (s : State). RunOutside s (map call_of (outside_inband other.entries)) (map reply_of (outside_inband other.entries)) (played_outside other.plays)) from (shown_outside other none_too q) in
    run_outside_one_way (outside (opened_kernel h)) (map call_of (outside_inband h.entries)) (map reply_of (outside_inband h.entries)) (map reply_of (outside_inband other.entries)) (played_outside h.plays) (played_outside other.plays) shown
    (subst (λ (calls : List (ℕ × Call)). RunOutside (outside (opened_kernel h)) calls (map reply_of (outside_inband other.entries)) (played_outside other.plays)) (sym same) more_shown)
