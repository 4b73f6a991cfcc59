-- The world of one shared word, and the atomic steps on it. One event is one step of one seat.
use Rattle.std.specs.Prelude.{◌≡◌, ℕ, List, ◌++◌, slice_set}
use mathlib.Core.Option.{some}
use lib.ListN.{get_elem?}
use Rattle.evl_words.specs.declared.history.View.{View}
use Rattle.evl_words.specs.Machine.{Run}
use Rattle.evl_words.specs.History.{History, Extends, view_of}

-- the word, the common history, and what each seat knows of it
pub record World (E H : Type 0) : Type 0 where
  pub word : ℕ
  pub log : List E
  pub views : List (View E H)

-- The kinds of step. Each is said of the word found, the seat's number, its view and the kind: whether the seat may make it, what becomes of the word, which entries it adds, and what the seat holds then
pub record Steps (E H K : Type 0) : Type 1 where
  pub may : ℕ → View E H → K → Type 0
  pub word : ℕ → ℕ → View E H → K → ℕ
  pub entries : ℕ → ℕ → View E H → K → List E
  pub held : ℕ → ℕ → View E H → K → H

pub record Event (K : Type 0) : Type 0 where
  pub by : ℕ
  pub kind : K

module _ {E H K : Type 0} (steps : Steps E H K) where
  -- what a seat knows after a step on a word of this history
  abbrev pub seat_after : ℕ → List E → ℕ → View E H → K → View E H
  seat_after found log k v kind = view_of (log ++ steps.entries found k v kind) (v.mine ++ steps.entries found k v kind) (steps.held found k v kind)

  abbrev pub world_after : World E H → ℕ → View E H → K → World E H
  world_after w k v kind = record { word = steps.word w.word k v kind; log = w.log ++ steps.entries w.word k v kind; views = slice_set w.views k (seat_after w.word w.log k v kind) }

  -- one atomic step of one seat
  pub record Happens (w : World E H) (e : Event K) (after : World E H) : Type 0 where
    pub view : View E H
    pub at : get_elem? w.views e.by ≡ some view
    pub may : steps.may e.by view e.kind
    pub changed : after ≡ world_after w e.by view e.kind

  -- in some consistent world, a step of this kind, which the seat k might make, found this word and took the seat's view from v to u
  pub record IsEvent (Stands : World E H → Type 0) (k : ℕ) (v : View E H) (kind : K) (found : ℕ) (u : View E H) : Type 0 where
    pub world : World E H
    pub stands : Stands world
    pub at : get_elem? world.views k ≡ some v
    pub may : steps.may k v kind
    pub shows : world.word ≡ found
    pub after : u ≡ seat_after found world.log k v kind

-- what is kept of one word and of the views of its seats: the part of a rule that is over this word
abbrev pub Part : {E H : Type 0} → (World E H → Type 0) → ℕ → List (View E H) → Type 0
Part {E} Stands found views = (log : List E) × Stands record { word = found; log = log; views = views }

module _ {E H S : Type 0} (author : E → ℕ) (step : S → E → S → Type 0) (opening : S) (tie : ℕ → S → List H → Type 0) where
  -- The history is legal, each seat fits it, and the word and what the seats hold are tied to its last state
  pub record IsWorld (w : World E H) : Type 0 where
    pub state : S
    pub history : History author step opening (tie w.word) w.log state w.views

  -- what the seat saw leads to a state that is tied to this word
  abbrev pub LeadsTo : ℕ → List E → Type 0
  LeadsTo word seen = (t : S) × Run step opening seen t × (held : List H) × tie word t held

  module _ {K : Type 0} (steps : Steps E H K) where
    -- a step is one event, whose entries come at the end of what the seat has seen
    pub record Does (k : ℕ) (v : View E H) (kind : K) (found : ℕ) (u : View E H) : Type 0 where
      pub event : IsEvent steps IsWorld k v kind found u
      pub held : u.held ≡ steps.held found k v kind
      pub extends : Extends author step opening k v (steps.entries found k v kind) u
      pub leads : LeadsTo (steps.word found k v kind) u.seen
