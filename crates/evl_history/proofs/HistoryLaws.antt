-- A history grows: what its rows name stays where it is, and one entry comes after all others.
use Rattle.std.proofs.Common.{ℕ, zero, suc, ◌≡◌, ◌+◌, ◌-◌, ◌≤◌, ◌<◌, List, [], ◌∷◌, ◌++◌, map, length, take, drop, get_or, slice_range, Result, Option, None, Some, slice_get, option_map, refl, sym, ap, subst, ◌∙◌, arith, length-append}
use Rattle.std.proofs.lemmas.List.{map-append, drop-append-le, drop-map, take-append-le, get_or_append_left, length-drop}
use Rattle.std.proofs.Math.Seq.{drop-append_seam, take-length, take-suc, get_or-append_seam}
use Rattle.std.proofs.lemmas.Option.{slice_get-get_or, slice_get-map}
use Rattle.arrayvec.specs.ArrayVec.{ArrayVec}
use Rattle.evl_base.specs.declared.entry.Entry.{Entry}
use Rattle.evl_base.specs.declared.call.Call.{Call}
use Rattle.evl_base.specs.declared.refusal.Refusal.{Refusal}
use Rattle.evl_base.specs.declared.reply.Reply.{Reply}
use Rattle.evl_history.specs.Histories.{made_entry}
use Rattle.evl_history.specs.declared.row.Head.{Head}
use Rattle.evl_history.specs.declared.row.Row.{Row}
use Rattle.evl_history.specs.declared.row.Row.TheVariants as row
use Rattle.evl_history.specs.Rows.{AreWithin, IsThere, IsWithin, decode, entry, answering, nothing, span, told, transfer, wide_at}

-- bytes that are there stay as they are
there_more : (bytes bs : List ℕ) (start long : ℕ) → IsThere bytes start long → IsThere (bytes ++ bs) start long
there_more bytes bs start long (there, few) = (omega (arith, there, length-append bytes bs), few)

range_more : (bytes bs : List ℕ) (start long : ℕ) → start + long ≤ length bytes → slice_range (bytes ++ bs) start (start + long) ≡ slice_range bytes start (start + long)
range_more bytes bs start long there =
    ap (λ (l : List ℕ). take (start + long - start) l) (drop-append-le start bytes bs (omega (arith, there)))
    ∙ take-append-le (start + long - start) (drop start bytes) bs (omega (arith, there, length-drop start bytes))

span_more : (bytes bs : List ℕ) (start long : ℕ) → IsThere bytes start long → span (bytes ++ bs) start long ≡ span bytes start long
span_more bytes bs start long there = ap transfer (range_more bytes bs start long there.0)

as_many : (bytes bs : List ℕ) (long : ℕ) → long ≡ length bs → length bytes + long - length bytes ≡ length bs
as_many bytes bs long is = omega (arith, is)

-- the bytes that come after all others
pub span_last : (bytes bs : List ℕ) (start long : ℕ) → start ≡ length bytes → long ≡ length bs → span (bytes ++ bs) start long ≡ transfer bs
span_last bytes bs start long starts is =
    ap transfer (subst (λ (s : ℕ). slice_range (bytes ++ bs) s (s + long) ≡ bs) (sym starts)
    (ap (λ (l : List ℕ). take (length bytes + long - length bytes) l) (drop-append_seam bytes bs)
    ∙ (ap (λ (n : ℕ). take n bs) (as_many bytes bs long is) ∙ take-length bs)))

pub there_last : (bytes bs : List ℕ) (start long : ℕ) → start ≡ length bytes → long ≡ length bs → length bs ≤ 256 → IsThere (bytes ++ bs) start long
there_last bytes bs start long starts is few = (omega (arith, starts, is, length-append bytes bs), omega (arith, is, few))

-- the whole entry that comes after all others
pub wide_last : (wide : List Entry) (e : Entry) (place : ℕ) → place ≡ length wide → wide_at (wide ++ e ∷ []) place ≡ e
wide_last wide e place is = ap (λ (n : ℕ). wide_at (wide ++ e ∷ []) n) is ∙ get_or-append_seam wide e [] nothing

module _ (wide ws : List Entry) (bytes bs : List ℕ) where
  pub within_more : (r : Row) → IsWithin wide bytes r → IsWithin (wide ++ ws) (bytes ++ bs) r
  within_more (row.Wide place) there = omega (arith, there, length-append wide ws)
  within_more (row.WideBytes long place start) (there, bytes_there) = (omega (arith, there, length-append wide ws), there_more bytes bs start long bytes_there)
  within_more (row.Write answer head xbuf way long start) there = there_more bytes bs start long there
  within_more (row.ReadBytes head way xbuf len long start) there = there_more bytes bs start long there
  within_more (row.BeginWrite answer head xbuf way long start) there = there_more bytes bs start long there
  within_more (row.FinishBytes head keep long start) there = there_more bytes bs start long there
  within_more _ there = there

  pub decode_more : (r : Row) → IsWithin wide bytes r → decode (wide ++ ws) (bytes ++ bs) r ≡ decode wide bytes r
  decode_more (row.Wide place) there = get_or_append_left wide ws nothing place there
  decode_more (row.WideBytes long place start) (there, bytes_there) = cc (span_more bytes bs start long bytes_there, get_or_append_left wide ws nothing place there)
  decode_more (row.Write answer head xbuf way long start) there = rw (span_more bytes bs start long there) refl
  decode_more (row.ReadBytes head way xbuf len long start) there = rw (span_more bytes bs start long there) refl
  decode_more (row.BeginWrite answer head xbuf way long start) there = rw (span_more bytes bs start long there) refl
  decode_more (row.FinishBytes head keep long start) there = rw (span_more bytes bs start long there) refl
  decode_more _ there = refl

  all_within : (rows : List Row) (r : Row) → AreWithin wide bytes rows → IsWithin (wide ++ ws) (bytes ++ bs) r → AreWithin (wide ++ ws) (bytes ++ bs) (rows ++ r ∷ [])
  all_within [] r within last = (last, tt)
  all_within (x ∷ rows) r (first, within) last = (within_more x first, all_within rows r within last)

  all_more : (rows : List Row) → AreWithin wide bytes rows → map (decode (wide ++ ws) (bytes ++ bs)) rows ≡ map (decode wide bytes) rows
  all_more [] within = refl
  all_more (x ∷ rows) (first, within) = cc (decode_more x first, all_more rows within)

-- a row came after all others, some whole entries and bytes with it
module _ (rows : List Row) (wide ws : List Entry) (bytes bs : List ℕ) (r : Row) (within : AreWithin wide bytes rows)
    (new_rows : List Row) (new_wide : List Entry) (new_bytes : List ℕ) (rows_are : new_rows ≡ rows ++ r ∷ []) (wide_are : new_wide ≡ wide ++ ws) (bytes_are : new_bytes ≡ bytes ++ bs) where
  pub entered_within : IsWithin new_wide new_bytes r → AreWithin new_wide new_bytes new_rows
  entered_within last = rw (rows_are, wide_are, bytes_are) (all_within wide ws bytes bs rows r within (rw (wide_are, bytes_are) at last))

  pub entered : (e : Entry) → decode new_wide new_bytes r ≡ e → map (decode new_wide new_bytes) new_rows ≡ map (decode wide bytes) rows ++ e ∷ []
  entered e is =
      rw (rows_are, wide_are, bytes_are) (map-append (decode (wide ++ ws) (bytes ++ bs)) rows (r ∷ [])
      ∙ (ap (λ (es : List Entry). es ++ decode (wide ++ ws) (bytes ++ bs) r ∷ []) (all_more wide ws bytes bs rows within)
      ∙ ap (λ (last : Entry). map (decode wide bytes) rows ++ last ∷ []) (rw (wide_are, bytes_are) at is)))

-- the row at a place names what is there, and its entry is the one at that place
pub row_within : (wide : List Entry) (bytes : List ℕ) (rows : List Row) → AreWithin wide bytes rows → (i : ℕ) (d : Row) → i < length rows → IsWithin wide bytes (get_or rows i d)
row_within wide bytes [] within i d below = absurd (omega (arith, below))
row_within wide bytes (r ∷ rows) (first, within) zero d below = first
row_within wide bytes (r ∷ rows) (first, within) (suc i) d below = row_within wide bytes rows within i d (omega (arith, below))

-- the bytes that came after all others
pub span_new : (bytes bs new : List ℕ) (start long : ℕ) → new ≡ bytes ++ bs → start ≡ length bytes → long ≡ length bs → span new start long ≡ transfer bs
span_new bytes bs new start long are starts is = ap (λ (l : List ℕ). span l start long) are ∙ span_last bytes bs start long starts is

pub there_new : (bytes bs new : List ℕ) (start long : ℕ) → new ≡ bytes ++ bs → start ≡ length bytes → long ≡ length bs → length bs ≤ 256 → IsThere new start long
there_new bytes bs new start long are starts is few = subst (λ (l : List ℕ). IsThere l start long) (sym are) (there_last bytes bs start long starts is few)

-- the whole entry that came after all others
pub wide_new : (wide : List Entry) (e : Entry) (new : List Entry) (place : ℕ) → new ≡ wide ++ e ∷ [] → place ≡ length wide → wide_at new place ≡ e
wide_new wide e new place are is = ap (λ (es : List Entry). wide_at es place) are ∙ wide_last wide e place is

pub place_new : (wide : List Entry) (e : Entry) (new : List Entry) (place : ℕ) → new ≡ wide ++ e ∷ [] → place ≡ length wide → place < length new
place_new wide e new place are is = omega (arith, is, ap (λ (es : List Entry). length es) are, length-append wide (e ∷ []))

-- a whole entry that came after all others, with the bytes that did in the place of its answer
pub answering_new : (bytes bs new : List ℕ) (start long : ℕ) → new ≡ bytes ++ bs → start ≡ length bytes → long ≡ length bs → (wide : List Entry) (e : Entry) (new_wide : List Entry) (place : ℕ) → new_wide ≡ wide ++ e ∷ [] → place ≡ length wide
    → answering (span new start long) (wide_at new_wide place) ≡ answering (transfer bs) e
answering_new bytes bs new start long are starts is wide e new_wide place are_wide is_place = cc (span_new bytes bs new start long are starts is, wide_new wide e new_wide place are_wide is_place)

-- what a loop has read that came to the end
pub all_read : (rows : List Row) (i : ℕ) → length rows ≤ i → take i rows ≡ rows
all_read [] zero all = refl
all_read [] (suc i) all = refl
all_read (r ∷ rows) zero all = absurd (omega (arith, all))
all_read (r ∷ rows) (suc i) all = ap (λ (rs : List Row). r ∷ rs) (all_read rows i (omega (arith, all)))

-- a row that was read at a place
module _ (wide : List Entry) (bytes : List ℕ) (rows : List Row) (i : ℕ) (r : Row) (is : r ≡ get_or rows i r) (there : i < length rows) (w : List Entry) (b : List ℕ) (wide_is : w ≡ wide) (bytes_are : b ≡ bytes) where
  pub row_there : AreWithin wide bytes rows → IsWithin w b r
  row_there within = rw (wide_is, bytes_are) (subst (λ (x : Row). IsWithin wide bytes x) (sym is) (row_within wide bytes rows within i r there))

  pub entry_there : (e : Entry) → e ≡ decode w b r → Some e ≡ slice_get (map (decode wide bytes) rows) i
  entry_there e says =
      sym (slice_get-map (decode wide bytes) rows i
      ∙ (ap (option_map (decode wide bytes)) (slice_get-get_or rows i r there)
      ∙ ap Some (ap (decode wide bytes) (sym is) ∙ sym (rw (wide_is, bytes_are) at says))))

-- the entry of the one that a head names
pub made_by : (h : Head) (caller plays : ℕ) (asked : Call) (answer answered : Result Reply Refusal) → h.caller ≡ caller → h.plays ≡ plays → answered ≡ answer → entry h asked answer ≡ made_entry caller asked answered plays
made_by h caller plays asked answer answered who many is = rw (who, many, is) refl

-- all was read from a place on
pub all_from : (wide : List Entry) (bytes : List ℕ) (rows : List Row) (start i : ℕ) (es : List Entry) → length rows ≤ i → es ≡ map (decode wide bytes) (drop start (take i rows)) → es ≡ drop start (map (decode wide bytes) rows)
all_from wide bytes rows start i es all so = so ∙ (ap (λ (rs : List Row). map (decode wide bytes) (drop start rs)) (all_read rows i all) ∙ sym (drop-map (decode wide bytes) start rows))
