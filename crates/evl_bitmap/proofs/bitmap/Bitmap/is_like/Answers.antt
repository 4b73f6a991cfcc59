use Rattle.std.proofs.Common.{◌≡◌, sym, ap, ◌∙◌}
use Rattle.evl_bitmap.proofs.LikenessLaws.{set-held, set-long, set_of}
use Rattle.evl_bitmap.proofs.bitmap.Bitmap.is_like.Goals as goal

pub returns-clause-other : goal.returns-clause-other
returns-clause-other g c same =
    let sets : set_of c.deref.result.now ≡ set_of c.deref-2.result.now =
    ap set_of c.deref.ensures.value ∙ c.self.view_is ∙ same ∙ sym c.other.view_is ∙ ap set_of (sym c.deref-2.ensures.value) in
    c.are_words_alike.ensures.other (set-long c.deref.result.now c.deref-2.result.now sets) (set-held c.deref.result.now c.deref-2.result.now sets)
