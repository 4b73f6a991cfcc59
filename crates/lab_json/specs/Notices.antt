-- Notices of what is found in texts, as lines of JSON.
use Rattle.std.specs.Prelude.{ℕ, List, ◌++◌, codes, Option, Some, None}
use Rattle.evl_scenario.specs.declared.faults.Fault.{Fault}
use Rattle.evl_scenario.specs.declared.faults.Fault.TheVariants.{Step}
use Rattle.lab_faults.specs.Told.{Told}
use Rattle.lab_json.specs.Texts.{json_text, name_json, number_json}
use Rattle.lab_json.specs.declared.notices.Notice.{Notice}
use Rattle.lab_json.specs.declared.notices.Noticed.{Noticed}
use Rattle.lab_json.specs.declared.notices.Noticed.TheVariants.{Fault as OfFault, Warning, Unexpected, Unread}

-- of which kind it is, the line, the byte and the step that it is of, and what is said of it
pub record Said : Type 0 where
  pub kind : Noticed
  pub line : Option ℕ
  pub byte : Option ℕ
  pub step : Option ℕ
  pub says : List ℕ

abbrev pub notice_said : Notice → Said
notice_said n = record { kind = n.kind; line = n.line; byte = n.byte; step = n.step; says = n.says.now }

abbrev pub kind_text : Noticed → List ℕ
kind_text OfFault = codes "fault"
kind_text Warning = codes "warning"
kind_text Unexpected = codes "unexpected"
kind_text Unread = codes "unread"

abbrev pub kind_json : Noticed → List ℕ
kind_json kind = codes ", \"kind\": \"" ++ (kind_text kind ++ codes "\"")

abbrev pub head_json : List ℕ → Noticed → List ℕ
head_json file kind = codes "{\"file\": " ++ (json_text file ++ kind_json kind)

abbrev pub named_json : List ℕ → Option ℕ → List ℕ
named_json name number = name_json name ++ number_json number

abbrev pub where_json : Said → List ℕ
where_json said = named_json (codes "line") said.line ++ (named_json (codes "byte") said.byte ++ named_json (codes "step") said.step)

abbrev pub says_json : List ℕ → List ℕ
says_json says = name_json (codes "says") ++ (json_text says ++ codes "}\n")

-- rule: A thing found in a file is a line: its kind, line, byte and step, each a number or null, and what is said.
--   Faults are reported so in order; warnings, and what is judged of a step, by their lines without a file's name.
--   also: Warned.{in_the_end, judged_said}
--   clauses: write_notice; write_faults; write_warnings; write_judged
--   rows: what_is_found_has_a_line
-- the line of what is found in a file of this name
abbrev pub notice_json : List ℕ → Said → List ℕ
notice_json file said = head_json file said.kind ++ (where_json said ++ says_json said.says)

-- ---- faults

abbrev pub step_of : Fault → Option ℕ
step_of (Step number) = Some number
step_of _ = None

abbrev pub fault_said : Told → Said
fault_said found =
    record { kind = OfFault; line = Some found.place.line; byte = Some found.place.column; step = step_of found.fault; says = found.words }

unfoldable pub fault_json : List ℕ → Told → List ℕ
fault_json file found = notice_json file (fault_said found)
