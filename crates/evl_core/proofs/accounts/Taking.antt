-- The kernel goes out of the slot after a take, and into it before a give.
use Rattle.std.proofs.Common.{◌≡◌, ℕ, List, [], ◌∷◌, Option, Some, None, MatchOption, sym, ap, ◌∙◌, subst}
use Rattle.atomic_table.specs.Table.{rest}
use Rattle.evl_kernel.specs.histories.Histories.{History, IsLegal}
use Rattle.evl_core.specs.declared.views.Account.{Account}
use Rattle.evl_core.specs.accounts.Seats.{CoreMe, AccountsFit, view, after_take, Taken, holding}
use Rattle.evl_core.specs.accounts.Accounts.{HasNoStranger}

module _ {S : Type 0} (past : S → History) (room : S → ℕ) where
  abbrev pub Slots : Type 0
  Slots = List (ℕ × Option S)

  abbrev pub first_slot : Slots → Option S
  first_slot [] = None
  first_slot (x ∷ xs) = x.1

  abbrev pub slot_with : Option S → Slots
  slot_with x = (0, x) ∷ []

  abbrev pub put_first : Option S → Slots → Slots
  put_first x cs = (0, x) ∷ rest cs

  -- a seat with one slot has it first
  pub one_slot : (cs : Slots) (x : Option S) → cs ≡ slot_with x → (y : Option S) × (cs ≡ put_first y cs)
  one_slot cs x e = (x, e ∙ ap (put_first x) (sym e))

  abbrev pub put_none : CoreMe S → CoreMe S
  put_none m = (m.0, put_first None m.1)

  -- what a take shows of a token, where it found the core free
  abbrev pub Took : (S → Type 0) → CoreMe S → CoreMe S → Type 0
  Took from me me' = (k : S) × (me' ≡ (after_take (past k) (room k) me.0, (0, Some k) ∷ [])) × IsLegal (past k) × HasNoStranger (past k) × AccountsFit (past k) me.0.accounts × from k

  -- what comes out of the slot after a take is the kernel
  pub takes_out : (from : S → Type 0) (me me' me'' : CoreMe S) (out : Option S) → (None' : Type 0) → Took from me me' → me'.1 ≡ put_first out me'.1 → me'' ≡ put_none me' → MatchOption out None' (λ k. Taken past room me k me'' × from k)
  takes_out from me me' me'' out None' t slot now =
      let k = t.0 in
      let is : me'.1 ≡ slot_with (Some k) = ap (λ (m : CoreMe S). m.1) t.1 in
      let same : Some k ≡ out = ap first_slot (sym is ∙ slot) in
      subst (λ (x : Option S). MatchOption x None' (λ k. Taken past room me k me'' × from k)) same (
        record {
          now = now ∙ ap put_none t.1;
          legal = t.2;
          strangers = t.3;
          fits = t.4;
        },
        t.5,
      )

  -- what comes out is some kernel
  pub comes_out : (from : S → Type 0) (me me' : CoreMe S) (out : Option S) (None' Some' : Type 0) → Took from me me' → me'.1 ≡ put_first out me'.1 → Some' → MatchOption out None' (λ _. Some')
  comes_out from me me' out None' Some' t slot e =
      let is : me'.1 ≡ slot_with (Some t.0) = ap (λ (m : CoreMe S). m.1) t.1 in
      subst (λ (x : Option S). MatchOption x None' (λ _. Some')) (ap first_slot (sym is ∙ slot)) e

  -- what comes out of a slot is what was in it
  pub out_as : (cs : Slots) (y : S) (out : Option S) (None' : Type 0) (P : S → Type 0) → cs ≡ slot_with (Some y) → cs ≡ put_first out cs → P y → MatchOption out None' P
  out_as cs y out None' P is slot p = subst (λ (x : Option S). MatchOption x None' P) (ap first_slot (sym is ∙ slot)) p

  -- a seat that has put the kernel back into the slot, and has yet to give the slot
  abbrev pub loaded : Account → S → CoreMe S
  loaded a k = (view (Some a.seen) (a ∷ []), slot_with (Some k))

  abbrev pub put_kernel : S → CoreMe S → CoreMe S
  put_kernel k m = (m.0, put_first (Some k) m.1)

  pub is_loaded : (a : Account) (k : S) (me me' : CoreMe S) → me ≡ holding a → me' ≡ put_kernel k me → me' ≡ loaded a k
  is_loaded a k me me' was now = now ∙ ap (put_kernel k) was
