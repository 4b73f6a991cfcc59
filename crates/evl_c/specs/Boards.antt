-- Which boards C's forms are.
use Rattle.std.specs.Prelude.{ℕ, Bool, nat_le, ◌&&◌, List, [], length, map, if◌then◌else◌, nat_eq}
use Rattle.std.specs.List.{list_all}
use Rattle.evl_base.specs.declared.board.Board.{Board}
use Rattle.evl_base.specs.declared.mutex_kind.MutexKind.{MutexKind}
use Rattle.evl_base.specs.declared.mutex_kind.MutexKind.TheVariants.{Normal, Recursive, Ceiling}
use Rattle.evl_c.specs.declared.boards.BoardForm.{BoardForm}
use Rattle.evl_c.specs.declared.boards.MutexForm.{MutexForm}
use Rattle.evl_c.specs.declared.boards.RingsForm.{RingsForm}

-- the rings of a cross-buffer
abbrev pub ring_of : RingsForm → ℕ × ℕ
ring_of form = (form.in_size, form.out_size)

-- the kind of a mutex
abbrev pub kind_of : MutexForm → MutexKind
kind_of form = if nat_eq form.kind 0 then Normal else if nat_eq form.kind 1 then Recursive else Ceiling form.ceiling

-- whether a mutex has one of the three kinds
abbrev pub has_kind : MutexForm → Bool
has_kind form = nat_le form.kind 2

-- whether a form is a board
abbrev pub is_board : BoardForm → Bool
is_board form = nat_le (length form.sems.now) 64 && (nat_le (length form.flags.now) 64 && (nat_le (length form.xbufs.now) 16
    && (nat_le (length form.mutexes.now) 32 && (nat_le (length form.groups.now) 16 && list_all has_kind form.mutexes.now))))

-- the board that a form describes
abbrev pub board_of : BoardForm → Board
board_of form = record {
  threads = form.threads;
  sems = record { items = form.sems.now };
  flags = record { items = form.flags.now };
  xbufs = record { items = map ring_of form.xbufs.now };
  mutexes = record { items = map kind_of form.mutexes.now };
  groups = record { items = form.groups.now };
  staxes = record { items = [] };
}
