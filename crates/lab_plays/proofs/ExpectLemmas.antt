-- The words for a text as it was given, where it expects its steps to be answered so.
use Rattle.std.proofs.Common.{ℕ, List, Option, Result, Ok, Err, IfOk, inl, inr}
use Rattle.evl_kernel.specs.state.States.{Handler}
use Rattle.lab_lines.specs.Kinds.{IsPlain, IsUnread}
use Rattle.lab_lines.specs.declared.tables.Expected.{Expected}
use Rattle.lab_lines.specs.declared.texts.LinesFault.{LinesFault}
use Rattle.lab_plays.specs.Expects.{IsNothing, JudgesGiven, JudgesPlain}
use Rattle.lab_plays.specs.declared.expects.Judged.{Judged}

module _ (bank : List Handler) (limit : Option ℕ) (name : List ℕ) (first : Expected) (expected : List Expected) (text : List ℕ) where
  pub given_judged : (E : Type 0) (plain : List ℕ) (r : Result Judged E) → IsPlain text plain → IfOk r (JudgesPlain bank limit name first expected plain)
      → IfOk r (JudgesGiven bank limit name first expected text)
  given_judged E plain (Ok j) is judges = inl (plain, is, judges)
  given_judged E plain (Err e) is judges = tt

  pub given_unread : (e : LinesFault) (j : Judged) → IsUnread text e → IsNothing j → JudgesGiven bank limit name first expected text j
  given_unread e j is none = inr (e, is, none)
