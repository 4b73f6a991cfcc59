use Rattle.std.proofs.Common.{◌≡◌, drop}
use Rattle.std.specs.List.{list_all}
use Rattle.evl_c.specs.Forms.{is_sound_row}
use Rattle.evl_c.proofs.forms.are_sound_rows.Given as goal

abbrev pub invariant-loop-row : goal.invariant-loop-row
invariant-loop-row l = list_all (is_sound_row l.kinds) (drop l.row-index l.rows) ≡ list_all (is_sound_row l.kinds) l.rows
