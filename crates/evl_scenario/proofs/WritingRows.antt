-- Worked rows: the text of a scenario, computed from the definitions.
use Rattle.std.proofs.Common.{◌≡◌, [], ◌∷◌, None, codes, refl}
use Rattle.std.specs.Fmt.{digits}
use Rattle.hex.proofs.OnLiterals.{hex_on_literals}
use Rattle.evl_base.specs.declared.call.Call.TheVariants as make
use Rattle.evl_base.specs.declared.mutex_kind.MutexKind.TheVariants.{Normal, Ceiling}
use Rattle.evl_base.specs.declared.policy.Policy.TheVariants.{Rr}
use Rattle.evl_base.specs.declared.stage.Stage.TheVariants.{Oob}
use Rattle.evl_base.specs.declared.way.Way.TheVariants.{In}
use Rattle.evl_scenario.specs.Writings.{opening_text, scenario_text, table_text}

-- a board with one of each, and the steps of one call
one_step :
    scenario_text (record {
      board = record {
        threads = 1;
        sems = record { items = 0 ∷ [] };
        flags = record { items = [] };
        xbufs = record { items = [] };
        mutexes = record { items = [] };
        groups = record { items = [] };
        staxes = record { items = [] };
      };
      limit = 100;
      steps = record { who = record { 0 = 0 }; call = make.TryGet (record { 0 = 0 }) } ∷ [];
    })
    ≡ codes "limit = 100\n\n[board]\nthreads = 1\nsems = [0]\nflags = []\nxbufs = []\nmutexes = []\ngroups = []\n\n[[step]]\ndo = \"try_get\"\nwho = 0\nsem = 0\n"
unfolding digits
one_step = refl

lists :
    opening_text (record {
      threads = 3;
      sems = record { items = 0 ∷ 7 ∷ [] };
      flags = record { items = 4294967295 ∷ [] };
      xbufs = record { items = (8, 256) ∷ (1, 1) ∷ [] };
      mutexes = record { items = Normal ∷ Ceiling 50 ∷ [] };
      groups = record { items = 60 ∷ [] };
      staxes = record { items = [] };
    }) 1000
    ≡ codes "limit = 1000\n\n[board]\nthreads = 3\nsems = [0, 7]\nflags = [4294967295]\nxbufs = [[8, 256], [1, 1]]\nmutexes = [\"normal\", \"ceiling 50\"]\ngroups = [60]\n"
unfolding digits
lists = refl

-- an integer of TOML has 63 bits, so a larger number is in quotes; no deadline is `none`
large_number :
    table_text (record { who = record { 0 = 2 }; call = make.Tick 18446744073709551615 })
    ≡ codes "\n[[step]]\ndo = \"tick\"\nwho = 2\ndelta = \"18446744073709551615\"\n"
unfolding digits
large_number = refl

largest_integer :
    table_text (record { who = record { 0 = 2 }; call = make.Tick 9223372036854775807 })
    ≡ codes "\n[[step]]\ndo = \"tick\"\nwho = 2\ndelta = 9223372036854775807\n"
unfolding digits
largest_integer = refl

policy :
    table_text (record { who = record { 0 = 1 }; call = make.Attach (Rr 5 1000) Oob })
    ≡ codes "\n[[step]]\ndo = \"attach\"\nwho = 1\npolicy = \"rr 5 1000\"\nstage = \"oob\"\n"
unfolding digits
policy = refl

bytes :
    table_text (record { who = record { 0 = 1 }; call = make.BeginWrite (record { 0 = 0 }) In (record { items = 10 ∷ 255 ∷ [] }) None })
    ≡ codes "\n[[step]]\ndo = \"begin_write\"\nwho = 1\nxbuf = 0\nway = \"in\"\nbytes = \"0aff\"\nuntil = \"none\"\n"
unfolding digits hex_on_literals
bytes = refl

-- no bytes are the empty text, and not the dash of a trace
no_bytes :
    table_text (record { who = record { 0 = 1 }; call = make.Write (record { 0 = 0 }) In (record { items = [] }) })
    ≡ codes "\n[[step]]\ndo = \"write\"\nwho = 1\nxbuf = 0\nway = \"in\"\nbytes = \"\"\n"
unfolding digits hex_on_literals
no_bytes = refl
