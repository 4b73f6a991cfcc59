-- The callers of a new machine belong to it, and on their way none is lost; what the texts are of that they leave.
use Rattle.std.proofs.Common.{◌≡◌, ◌∙◌, ℕ, refl, ap, arith, subst, sym}
use Rattle.std.specs.Prelude.{All, List, [], ◌∷◌, ◌++◌, ◌+◌, length, Result, Ok, Err, IfOk}
use Rattle.std.specs.List.{range_with_len}
use Rattle.std.proofs.lemmas.List.{length_push}
use Rattle.std.proofs.lemmas.List.Elements.{All-map}
use Rattle.evl_base.specs.declared.board.Board.{Board}
use Rattle.evl_kernel.specs.state.KernelViews.{KernelView}
use Rattle.evl_machine.specs.callers.Handles.{CallerState, MachineState, newcomer_of, newcomers_of}
use Rattle.evl_machine.specs.calls.Closings.{Closes}
use Rattle.test_hosts.specs.Boards.{shared_board}
use Rattle.test_hosts.specs.Texts.{AreTextsOf, AreTextsOfCallers, AreTextsOfRun, IsPlayedSo}
use Rattle.test_hosts.specs.declared.texts.Failure.{Failure}
use Rattle.test_hosts.specs.declared.texts.Texts.{Texts}

pub newcomers_belong : {C : Type 0} (m : MachineState C) (n : ℕ) → All (λ (c : CallerState C). c.machine ≡ m) (newcomers_of m n)
newcomers_belong m n = All-map (λ c. c.machine ≡ m) (newcomer_of m) (range_with_len 0 n) (λ k d lt. refl)

-- As many are done or left as before, where the first of those that are left is done
pub one_moved : {X Y : Type 0} (left rest : List X) (x : X) (done more : List Y) (y : Y) (n : ℕ) → left ≡ x ∷ rest → more ≡ done ++ y ∷ [] → length done + length left ≡ n → length more + length rest ≡ n
one_moved left rest x done more y n split grown all = omega (arith, length_push done y, ap length split, ap length grown, all)

-- The texts of the kernel with which callers close their machine are theirs
pub left_by_callers :
    {C : Type 0} (m : MachineState C) (callers : List (CallerState C)) (k : KernelView C) (board : Board) (r : Result Texts Failure)
    → m.first.history.board ≡ board → Closes m callers k → IfOk r (λ texts. AreTextsOf board k.history texts) → IfOk r (λ texts. AreTextsOfCallers m callers texts)
left_by_callers m callers k board (Ok texts) same closes told =
    record { kernel = k; closes = closes; are_texts = subst (λ (b : Board). AreTextsOf b k.history texts) (sym same) told }
left_by_callers m callers k board (Err e) same closes told = tt

-- and those of a run of the machine's threads
pub of_the_run :
    {C : Type 0} (m : MachineState C) (callers : List (CallerState C)) (threads : ℕ) (r : Result Texts Failure)
    → m.first.history.board ≡ shared_board threads → IfOk r (λ texts. AreTextsOfCallers m callers texts) → IfOk r (λ texts. IsPlayedSo m.first.history.bank texts)
    → IfOk r (λ texts. AreTextsOfRun threads m.first.history.bank texts)
of_the_run m callers threads (Ok texts) same left played = record {
  history = left.kernel.history;
  legal = left.closes.legal;
  board_is = left.closes.comes.board ∙ same;
  bank_is = left.closes.comes.bank;
  strangers = left.closes.strangers;
  are_texts = subst (λ (b : Board). AreTextsOf b left.kernel.history texts) same left.are_texts;
  played = played;
}
of_the_run m callers threads (Err e) same left played = tt
