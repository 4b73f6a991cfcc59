-- The callbacks after a change of the lines: where they are, and that they are allowed where they stand.
use Rattle.std.proofs.Common.{◌≡◌, ℕ, inl, inr, true, List, [], ◌∷◌, ◌++◌, Some, slice_get, refl, sym, ap, ◌∙◌, subst}
use Rattle.evl_pipeline.specs.declared.plan.Plan.{Plan}
use Rattle.evl_pipeline.specs.Plans.{is_allowed}
use Rattle.evl_pipeline.specs.Lines.{Pipeline}
use Rattle.evl_kernel.specs.declared.bank.BankPlace.{BankPlace}
use Rattle.evl_kernel.specs.declared.bank.Numbered.{Numbered}
use Rattle.evl_kernel.specs.state.States.{Handler}
use Rattle.evl_kernel.specs.state.Callbacks.{Whereabouts, BringsNone, AnswersByPlan, AreFilled, handler_of, handlers_in}
use Rattle.evl_kernel.specs.state.Records.{RecordsView, state_of, whereabouts, number_of, kinds_at, AreAllowed, KeepsCallbacks}
use Rattle.evl_kernel.proofs.waiting.StandingLaws.{OnlyOld}
use Rattle.evl_kernel.proofs.state.RenamedLaws.{old-renamed}

module _ {C : Type 0} where
  pub brings-old : (w : Whereabouts C) (q : Pipeline (Numbered C)) → OnlyOld w.lines q → BringsNone w (record w { lines = q })
  brings-old w q only number callback (inl home) = inl (record { place = home.place; at = home.at; there = home.there })
  brings-old w q only number callback (inr (inr timed)) = inr (inr (record { timer = timed.timer; at = timed.at; there = timed.there; number_is = timed.number_is; callback_is = timed.callback_is }))
  brings-old w q only number callback (inr (inl out)) =
      let was = only out.stage out.line out.at out.there in
      inr (inl (record {
        stage = out.stage;
        line = out.line;
        at = was.0;
        there = was.1;
        number_is = ap (λ (n : Numbered C). n.number) (sym was.2) ∙ out.number_is;
        callback_is = ap (λ (n : Numbered C). n.callback) (sym was.2) ∙ out.callback_is;
      }))

  -- after a change of the lines that brings nothing
  pub keeps-old : (r : RecordsView C) (q : Pipeline (Numbered C)) → OnlyOld r.lines q → KeepsCallbacks r (record r { lines = q })
  keeps-old r q only = record { brings = brings-old (whereabouts r) q only; handlers_are = refl }

  pub allowed-old : (r : RecordsView C) (q : Pipeline (Numbered C)) → OnlyOld r.lines q → AreAllowed (state_of r) → AreAllowed (state_of (record r { lines = q }))
  allowed-old r q only allowed stage line at h =
      let was = old-renamed number_of r.lines q only stage line at h in
      subst (λ (n : ℕ). is_allowed stage (kinds_at (state_of r) n) ≡ true) (sym was.2) (allowed stage line was.0 was.1)

  -- callbacks that stay where they are declare and answer what they did
  pub handlers-stand : (r s : RecordsView C) → whereabouts s ≡ whereabouts r → handlers_in s.bank ≡ handlers_in r.bank
  handlers-stand r s stands = ap (λ (w : Whereabouts C). handlers_in w.bank) stands

  pub answers-stand : (declared : C → ℕ) (plan : C → Plan) (r s : RecordsView C) → whereabouts s ≡ whereabouts r → AnswersByPlan declared plan (whereabouts r) → AnswersByPlan declared plan (whereabouts s)
  answers-stand declared plan r s stands answers = subst (λ (w : Whereabouts C). AnswersByPlan declared plan w) (sym stands) answers

  pub keeps-none : (r : RecordsView C) → KeepsCallbacks r r
  keeps-none r = record { brings = λ number callback stands. stands; handlers_are = refl }

  -- one change after another
  pub keeps-both : (r s t : RecordsView C) → KeepsCallbacks r s → KeepsCallbacks s t → KeepsCallbacks r t
  keeps-both r s t first then_ = record {
    brings = λ number callback stands. first.brings number callback (then_.brings number callback stands);
    handlers_are = then_.handlers_are ∙ first.handlers_are;
  }

  pub answers-kept : (declared : C → ℕ) (plan : C → Plan) (r s : RecordsView C) → KeepsCallbacks r s → AnswersByPlan declared plan (whereabouts r) → AnswersByPlan declared plan (whereabouts s)
  answers-kept declared plan r s kept answers number callback stands =
      ap (λ (hs : List Handler). slice_get hs number) kept.handlers_are ∙ answers number callback (kept.brings number callback stands)

  -- one more place is filled
  pub filled_more : (declared : C → ℕ) (plan : C → Plan) (callbacks : List C) (places : List (BankPlace C)) (callback : C) (place : BankPlace C)
      → AreFilled declared plan callbacks places → place.callback ≡ Some callback → handler_of place ≡ record { kinds = declared callback; plan = plan callback }
      → AreFilled declared plan (callbacks ++ callback ∷ []) (places ++ place ∷ [])
  filled_more declared plan [] places callback place none has handlers_are =
      (place, [], ap (λ (ps : List (BankPlace C)). ps ++ place ∷ []) none, has, handlers_are, refl)
  filled_more declared plan (first ∷ callbacks) places callback place (its, others, split, its_callback, its_told, rest) has handlers_are =
      (its, others ++ place ∷ [], ap (λ (ps : List (BankPlace C)). ps ++ place ∷ []) split, its_callback, its_told, filled_more declared plan callbacks others callback place rest has handlers_are)
