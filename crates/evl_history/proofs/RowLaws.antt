-- Which rows are left where others are ruled out.
use Rattle.std.proofs.Common.{ℕ, ℤ, Bool, ◌≡◌, true, false, refl}
use Rattle.std.proofs.lemmas.Bool.{false≢true}
use Rattle.evl_base.specs.declared.numbers.FlagId.{FlagId}
use Rattle.evl_base.specs.declared.numbers.LineNo.{LineNo}
use Rattle.evl_base.specs.declared.numbers.MutexId.{MutexId}
use Rattle.evl_base.specs.declared.numbers.SemId.{SemId}
use Rattle.evl_base.specs.declared.numbers.ThreadId.{ThreadId}
use Rattle.evl_base.specs.declared.numbers.TimerId.{TimerId}
use Rattle.evl_base.specs.declared.numbers.XbufId.{XbufId}
use Rattle.evl_base.specs.declared.stage.Stage.{Stage}
use Rattle.evl_base.specs.declared.take.Take.{Take}
use Rattle.evl_base.specs.declared.way.Way.{Way}
use Rattle.evl_history.specs.declared.row.Brief.{Brief}
use Rattle.evl_history.specs.declared.row.Head.{Head}
use Rattle.evl_history.specs.declared.row.Row.{Row}
use Rattle.evl_history.specs.declared.row.Row.TheVariants as row
use Rattle.evl_history.specs.Rows.{has_number, is_late, is_short}

-- a row that names no bytes and no place is short
pub is_short_else : (r : Row)
    → ((a : ℕ) → r ≡ row.Wide a → ⊥)
    → ((a : ℕ) (b : ℕ) (c : ℕ) → r ≡ row.WideBytes a b c → ⊥)
    → ((a : Brief) (b : Head) (c : XbufId) (d : Way) (e : ℕ) (f : ℕ) → r ≡ row.Write a b c d e f → ⊥)
    → ((a : Head) (b : Way) (c : XbufId) (d : ℕ) (e : ℕ) (f : ℕ) → r ≡ row.ReadBytes a b c d e f → ⊥)
    → ((a : Brief) (b : Head) (c : XbufId) (d : Way) (e : ℕ) (f : ℕ) → r ≡ row.BeginWrite a b c d e f → ⊥)
    → ((a : Head) (b : Bool) (c : ℕ) (d : ℕ) → r ≡ row.FinishBytes a b c d → ⊥)
    → is_short r ≡ true
is_short_else (row.Wide a) ruled _ _ _ _ _ = absurd (ruled a refl)
is_short_else (row.WideBytes a b c) _ ruled _ _ _ _ = absurd (ruled a b c refl)
is_short_else (row.Write a b c d e f) _ _ ruled _ _ _ = absurd (ruled a b c d e f refl)
is_short_else (row.ReadBytes a b c d e f) _ _ _ ruled _ _ = absurd (ruled a b c d e f refl)
is_short_else (row.BeginWrite a b c d e f) _ _ _ _ ruled _ = absurd (ruled a b c d e f refl)
is_short_else (row.FinishBytes a b c d) _ _ _ _ _ ruled = absurd (ruled a b c d refl)
is_short_else _ _ _ _ _ _ _ = refl

-- a short row that is none of the first kind is of the others
pub is_late_else : (r : Row) → is_short r ≡ true
    → ((a : Brief) (b : Head) (c : LineNo) (d : Stage) → r ≡ row.Free a b c d → ⊥)
    → ((a : Brief) (b : Head) (c : LineNo) → r ≡ row.Arrive a b c → ⊥)
    → ((a : Brief) (b : Head) (c : LineNo) (d : Stage) → r ≡ row.Post a b c d → ⊥)
    → ((a : Brief) (b : Head) (c : Stage) → r ≡ row.Stall a b c → ⊥)
    → ((a : Brief) (b : Head) (c : Stage) → r ≡ row.Unstall a b c → ⊥)
    → ((a : Brief) (b : Head) (c : ℕ) → r ≡ row.Tick a b c → ⊥)
    → ((a : Brief) (b : Head) (c : TimerId) → r ≡ row.StopTimer a b c → ⊥)
    → ((a : Brief) (b : Head) → r ≡ row.Detach a b → ⊥)
    → ((a : Brief) (b : Head) (c : Stage) → r ≡ row.SetStage a b c → ⊥)
    → ((a : Brief) (b : Head) → r ≡ row.Pick a b → ⊥)
    → ((a : Brief) (b : Head) (c : ThreadId) → r ≡ row.RankOf a b c → ⊥)
    → ((a : Brief) (b : Head) (c : SemId) → r ≡ row.TryGet a b c → ⊥)
    → ((a : Brief) (b : Head) (c : SemId) → r ≡ row.Put a b c → ⊥)
    → ((a : Brief) (b : Head) (c : FlagId) (d : Take) → r ≡ row.TryTake a b c d → ⊥)
    → ((a : Brief) (b : Head) (c : FlagId) (d : ℕ) → r ≡ row.PostFlags a b c d → ⊥)
    → ((a : Brief) (b : Head) (c : XbufId) (d : Way) (e : ℕ) → r ≡ row.Read a b c d e → ⊥)
    → ((a : Brief) (b : Head) (c : MutexId) → r ≡ row.Release a b c → ⊥)
    → ((a : Brief) (b : Head) (c : MutexId) → r ≡ row.Raise a b c → ⊥)
    → ((a : Brief) (b : Head) (c : Bool) → r ≡ row.Finish a b c → ⊥)
    → is_late r ≡ true
is_late_else (row.Free a b c d) _ ruled _ _ _ _ _ _ _ _ _ _ _ _ _ _ _ _ _ _ = absurd (ruled a b c d refl)
is_late_else (row.Arrive a b c) _ _ ruled _ _ _ _ _ _ _ _ _ _ _ _ _ _ _ _ _ = absurd (ruled a b c refl)
is_late_else (row.Post a b c d) _ _ _ ruled _ _ _ _ _ _ _ _ _ _ _ _ _ _ _ _ = absurd (ruled a b c d refl)
is_late_else (row.Stall a b c) _ _ _ _ ruled _ _ _ _ _ _ _ _ _ _ _ _ _ _ _ = absurd (ruled a b c refl)
is_late_else (row.Unstall a b c) _ _ _ _ _ ruled _ _ _ _ _ _ _ _ _ _ _ _ _ _ = absurd (ruled a b c refl)
is_late_else (row.Tick a b c) _ _ _ _ _ _ ruled _ _ _ _ _ _ _ _ _ _ _ _ _ = absurd (ruled a b c refl)
is_late_else (row.StopTimer a b c) _ _ _ _ _ _ _ ruled _ _ _ _ _ _ _ _ _ _ _ _ = absurd (ruled a b c refl)
is_late_else (row.Detach a b) _ _ _ _ _ _ _ _ ruled _ _ _ _ _ _ _ _ _ _ _ = absurd (ruled a b refl)
is_late_else (row.SetStage a b c) _ _ _ _ _ _ _ _ _ ruled _ _ _ _ _ _ _ _ _ _ = absurd (ruled a b c refl)
is_late_else (row.Pick a b) _ _ _ _ _ _ _ _ _ _ ruled _ _ _ _ _ _ _ _ _ = absurd (ruled a b refl)
is_late_else (row.RankOf a b c) _ _ _ _ _ _ _ _ _ _ _ ruled _ _ _ _ _ _ _ _ = absurd (ruled a b c refl)
is_late_else (row.TryGet a b c) _ _ _ _ _ _ _ _ _ _ _ _ ruled _ _ _ _ _ _ _ = absurd (ruled a b c refl)
is_late_else (row.Put a b c) _ _ _ _ _ _ _ _ _ _ _ _ _ ruled _ _ _ _ _ _ = absurd (ruled a b c refl)
is_late_else (row.TryTake a b c d) _ _ _ _ _ _ _ _ _ _ _ _ _ _ ruled _ _ _ _ _ = absurd (ruled a b c d refl)
is_late_else (row.PostFlags a b c d) _ _ _ _ _ _ _ _ _ _ _ _ _ _ _ ruled _ _ _ _ = absurd (ruled a b c d refl)
is_late_else (row.Read a b c d e) _ _ _ _ _ _ _ _ _ _ _ _ _ _ _ _ ruled _ _ _ = absurd (ruled a b c d e refl)
is_late_else (row.Release a b c) _ _ _ _ _ _ _ _ _ _ _ _ _ _ _ _ _ ruled _ _ = absurd (ruled a b c refl)
is_late_else (row.Raise a b c) _ _ _ _ _ _ _ _ _ _ _ _ _ _ _ _ _ _ ruled _ = absurd (ruled a b c refl)
is_late_else (row.Finish a b c) _ _ _ _ _ _ _ _ _ _ _ _ _ _ _ _ _ _ _ ruled = absurd (ruled a b c refl)
is_late_else (row.BeginGet a b c) _ _ _ _ _ _ _ _ _ _ _ _ _ _ _ _ _ _ _ _ = refl
is_late_else (row.BeginGetUntil a b c d) _ _ _ _ _ _ _ _ _ _ _ _ _ _ _ _ _ _ _ _ = refl
is_late_else (row.BeginTake a b c d) _ _ _ _ _ _ _ _ _ _ _ _ _ _ _ _ _ _ _ _ = refl
is_late_else (row.BeginRead a b c d e) _ _ _ _ _ _ _ _ _ _ _ _ _ _ _ _ _ _ _ _ = refl
is_late_else (row.Claim a b c d) _ _ _ _ _ _ _ _ _ _ _ _ _ _ _ _ _ _ _ _ = refl
is_late_else (row.ClaimUntil a b c d e) _ _ _ _ _ _ _ _ _ _ _ _ _ _ _ _ _ _ _ _ = refl
is_late_else (row.Date a b) _ _ _ _ _ _ _ _ _ _ _ _ _ _ _ _ _ _ _ _ = refl
is_late_else (row.Picked a b) _ _ _ _ _ _ _ _ _ _ _ _ _ _ _ _ _ _ _ _ = refl
is_late_else (row.Rank a b c) _ _ _ _ _ _ _ _ _ _ _ _ _ _ _ _ _ _ _ _ = refl
is_late_else (row.Count a b c) _ _ _ _ _ _ _ _ _ _ _ _ _ _ _ _ _ _ _ _ = refl
is_late_else (row.Bits a b c) _ _ _ _ _ _ _ _ _ _ _ _ _ _ _ _ _ _ _ _ = refl
is_late_else (row.Room a b c d) _ _ _ _ _ _ _ _ _ _ _ _ _ _ _ _ _ _ _ _ = refl
is_late_else (row.HandedOn a b c d) _ _ _ _ _ _ _ _ _ _ _ _ _ _ _ _ _ _ _ _ = refl
is_late_else (row.FinishBits a b c) _ _ _ _ _ _ _ _ _ _ _ _ _ _ _ _ _ _ _ _ = refl
is_late_else (row.Wide a) is _ _ _ _ _ _ _ _ _ _ _ _ _ _ _ _ _ _ _ = absurd (false≢true is)
is_late_else (row.WideBytes a b c) is _ _ _ _ _ _ _ _ _ _ _ _ _ _ _ _ _ _ _ = absurd (false≢true is)
is_late_else (row.Write a b c d e f) is _ _ _ _ _ _ _ _ _ _ _ _ _ _ _ _ _ _ _ = absurd (false≢true is)
is_late_else (row.ReadBytes a b c d e f) is _ _ _ _ _ _ _ _ _ _ _ _ _ _ _ _ _ _ _ = absurd (false≢true is)
is_late_else (row.BeginWrite a b c d e f) is _ _ _ _ _ _ _ _ _ _ _ _ _ _ _ _ _ _ _ = absurd (false≢true is)
is_late_else (row.FinishBytes a b c d) is _ _ _ _ _ _ _ _ _ _ _ _ _ _ _ _ _ _ _ = absurd (false≢true is)

-- one of these that is of no wait has a number
pub has_number_else : (r : Row) → is_late r ≡ true
    → ((a : Brief) (b : Head) (c : SemId) → r ≡ row.BeginGet a b c → ⊥)
    → ((a : Brief) (b : Head) (c : SemId) (d : ℕ) → r ≡ row.BeginGetUntil a b c d → ⊥)
    → ((a : Brief) (b : Head) (c : FlagId) (d : Take) → r ≡ row.BeginTake a b c d → ⊥)
    → ((a : Brief) (b : Head) (c : XbufId) (d : Way) (e : ℕ) → r ≡ row.BeginRead a b c d e → ⊥)
    → ((a : Brief) (b : Head) (c : MutexId) (d : ThreadId) → r ≡ row.Claim a b c d → ⊥)
    → ((a : Brief) (b : Head) (c : MutexId) (d : ThreadId) (e : ℕ) → r ≡ row.ClaimUntil a b c d e → ⊥)
    → has_number r ≡ true
has_number_else (row.BeginGet a b c) _ ruled _ _ _ _ _ = absurd (ruled a b c refl)
has_number_else (row.BeginGetUntil a b c d) _ _ ruled _ _ _ _ = absurd (ruled a b c d refl)
has_number_else (row.BeginTake a b c d) _ _ _ ruled _ _ _ = absurd (ruled a b c d refl)
has_number_else (row.BeginRead a b c d e) _ _ _ _ ruled _ _ = absurd (ruled a b c d e refl)
has_number_else (row.Claim a b c d) _ _ _ _ _ ruled _ = absurd (ruled a b c d refl)
has_number_else (row.ClaimUntil a b c d e) _ _ _ _ _ _ ruled = absurd (ruled a b c d e refl)
has_number_else (row.Date a b) _ _ _ _ _ _ _ = refl
has_number_else (row.Picked a b) _ _ _ _ _ _ _ = refl
has_number_else (row.Rank a b c) _ _ _ _ _ _ _ = refl
has_number_else (row.Count a b c) _ _ _ _ _ _ _ = refl
has_number_else (row.Bits a b c) _ _ _ _ _ _ _ = refl
has_number_else (row.Room a b c d) _ _ _ _ _ _ _ = refl
has_number_else (row.HandedOn a b c d) _ _ _ _ _ _ _ = refl
has_number_else (row.FinishBits a b c) _ _ _ _ _ _ _ = refl
has_number_else (row.Wide a) is _ _ _ _ _ _ = absurd (false≢true is)
has_number_else (row.WideBytes a b c) is _ _ _ _ _ _ = absurd (false≢true is)
has_number_else (row.Write a b c d e f) is _ _ _ _ _ _ = absurd (false≢true is)
has_number_else (row.ReadBytes a b c d e f) is _ _ _ _ _ _ = absurd (false≢true is)
has_number_else (row.BeginWrite a b c d e f) is _ _ _ _ _ _ = absurd (false≢true is)
has_number_else (row.FinishBytes a b c d) is _ _ _ _ _ _ = absurd (false≢true is)
has_number_else (row.Free a b c d) is _ _ _ _ _ _ = absurd (false≢true is)
has_number_else (row.Arrive a b c) is _ _ _ _ _ _ = absurd (false≢true is)
has_number_else (row.Post a b c d) is _ _ _ _ _ _ = absurd (false≢true is)
has_number_else (row.Stall a b c) is _ _ _ _ _ _ = absurd (false≢true is)
has_number_else (row.Unstall a b c) is _ _ _ _ _ _ = absurd (false≢true is)
has_number_else (row.Tick a b c) is _ _ _ _ _ _ = absurd (false≢true is)
has_number_else (row.StopTimer a b c) is _ _ _ _ _ _ = absurd (false≢true is)
has_number_else (row.Detach a b) is _ _ _ _ _ _ = absurd (false≢true is)
has_number_else (row.SetStage a b c) is _ _ _ _ _ _ = absurd (false≢true is)
has_number_else (row.Pick a b) is _ _ _ _ _ _ = absurd (false≢true is)
has_number_else (row.RankOf a b c) is _ _ _ _ _ _ = absurd (false≢true is)
has_number_else (row.TryGet a b c) is _ _ _ _ _ _ = absurd (false≢true is)
has_number_else (row.Put a b c) is _ _ _ _ _ _ = absurd (false≢true is)
has_number_else (row.TryTake a b c d) is _ _ _ _ _ _ = absurd (false≢true is)
has_number_else (row.PostFlags a b c d) is _ _ _ _ _ _ = absurd (false≢true is)
has_number_else (row.Read a b c d e) is _ _ _ _ _ _ = absurd (false≢true is)
has_number_else (row.Release a b c) is _ _ _ _ _ _ = absurd (false≢true is)
has_number_else (row.Raise a b c) is _ _ _ _ _ _ = absurd (false≢true is)
has_number_else (row.Finish a b c) is _ _ _ _ _ _ = absurd (false≢true is)
