-- Worked rows, computed from the definitions.
use Rattle.std.proofs.Common.{◌≡◌, true, false, [], ◌∷◌, Some, None, codes, pos, refl}
use Rattle.toml.specs.Data.{integer, string, boolean, no_members, member}
use Rattle.evl_base.specs.declared.call.Call.TheVariants as make
use Rattle.evl_base.specs.declared.take.Take.TheVariants.{Any}
use Rattle.evl_base.specs.declared.way.Way.TheVariants.{In, Out}
use Rattle.hex.proofs.OnLiterals.{hex_on_literals}
use Rattle.evl_scenario.specs.Steps.{call_of, word_of}
use Rattle.evl_scenario.specs.Takes.{take_of}
use Rattle.evl_scenario.specs.Transfers.{bytes_of, way_of}
use Rattle.evl_scenario.specs.Values.{truth_from, until_from}
use Rattle.evl_base.specs.declared.call.StepWord.TheVariants.{BeginGet, PostFlags, BeginTake, Room, BeginRead, Claim, Release, Raise, Finish}

-- a deadline is a number, or the text that says that there is none; without the key there is none
until-number : until_from (integer (pos 5)) ≡ Some (Some 5)
until-number = refl

until-none : until_from (string (codes "none")) ≡ Some None
until-none = refl

until-truth : until_from (boolean false) ≡ None
until-truth = refl

begin_get-without_deadline : call_of BeginGet (member (codes "sem") (integer (pos 3)) no_members) ≡ Some (make.BeginGet (record { 0 = 3 }) None)
begin_get-without_deadline = refl

begin_get-deadline : call_of BeginGet (member (codes "sem") (integer (pos 3)) (member (codes "until") (integer (pos 0)) no_members)) ≡ Some (make.BeginGet (record { 0 = 3 }) (Some 0))
begin_get-deadline = refl

begin_get-without_semaphore : call_of BeginGet (member (codes "until") (integer (pos 0)) no_members) ≡ None
begin_get-without_semaphore = refl

-- a truth value is TOML's own, and false where the key is missing
keep-text : truth_from (string (codes "true")) ≡ None
keep-text = refl

finish-by_itself : call_of Finish no_members ≡ Some (make.Finish false)
finish-by_itself = refl

finish-keep : call_of Finish (member (codes "keep") (boolean true) no_members) ≡ Some (make.Finish true)
finish-keep = refl

-- what is taken from a flag group: all bits by their word alone; any other word has a mask after a space
take-any : take_of (codes "any") ≡ Some Any
take-any = refl

take-without_mask : take_of (codes "of") ≡ None
take-without_mask = refl

take-any_of_a_mask : take_of (codes "any 5") ≡ None
take-any_of_a_mask = refl

post_flags-both : call_of PostFlags (member (codes "flags") (integer (pos 1)) (member (codes "bits") (integer (pos 6)) no_members)) ≡ Some (make.PostFlags (record { 0 = 1 }) 6)
post_flags-both = refl

begin_take-without_deadline :
    call_of BeginTake (member (codes "flags") (integer (pos 1)) (member (codes "kind") (string (codes "any")) no_members)) ≡ Some (make.BeginTake (record { 0 = 1 }) Any None)
begin_take-without_deadline = refl

-- bytes are pairs of digits of either case, and none have no digit; the dash of a trace is no bytes
bytes-two : bytes_of (codes "0aFF") ≡ Some (record { items = 10 ∷ 255 ∷ [] })
unfolding hex_on_literals
bytes-two = refl

bytes-none : bytes_of (codes "") ≡ Some (record { items = [] })
unfolding hex_on_literals
bytes-none = refl

bytes-odd : bytes_of (codes "0af") ≡ None
unfolding hex_on_literals
bytes-odd = refl

bytes-dash : bytes_of (codes "-") ≡ None
unfolding hex_on_literals
bytes-dash = refl

bytes-no_digit : bytes_of (codes "0g") ≡ None
unfolding hex_on_literals
bytes-no_digit = refl

way-in : way_of (codes "in") ≡ Some In
way-in = refl

way-inband : way_of (codes "inband") ≡ None
way-inband = refl

room-both : call_of Room (member (codes "xbuf") (integer (pos 2)) (member (codes "way") (string (codes "out")) no_members)) ≡ Some (make.Room (record { 0 = 2 }) Out)
room-both = refl

begin_read-without_deadline :
    call_of BeginRead (member (codes "xbuf") (integer (pos 2)) (member (codes "way") (string (codes "in")) (member (codes "len") (integer (pos 257)) no_members)))
    ≡ Some (make.BeginRead (record { 0 = 2 }) In 257 None)
begin_read-without_deadline = refl

-- a claim names a mutex and its owner, and may have a deadline; a release and a raise name just a mutex
claim-word : word_of (codes "claim") ≡ Some Claim
claim-word = refl

claim-without_deadline : call_of Claim (member (codes "mutex") (integer (pos 2)) (member (codes "owner") (integer (pos 1)) no_members)) ≡ Some (make.Claim (record { 0 = 2 }) (record { 0 = 1 }) None)
claim-without_deadline = refl

claim-deadline :
    call_of Claim (member (codes "until") (integer (pos 100)) (member (codes "owner") (integer (pos 63)) (member (codes "mutex") (integer (pos 0)) no_members)))
    ≡ Some (make.Claim (record { 0 = 0 }) (record { 0 = 63 }) (Some 100))
claim-deadline = refl

claim-without_owner : call_of Claim (member (codes "mutex") (integer (pos 2)) no_members) ≡ None
claim-without_owner = refl

release-word : word_of (codes "release") ≡ Some Release
release-word = refl

release-mutex : call_of Release (member (codes "mutex") (integer (pos 31)) no_members) ≡ Some (make.Release (record { 0 = 31 }))
release-mutex = refl

raise-word : word_of (codes "raise") ≡ Some Raise
raise-word = refl

raise-mutex : call_of Raise (member (codes "mutex") (integer (pos 65535)) no_members) ≡ Some (make.Raise (record { 0 = 65535 }))
raise-mutex = refl

raise-wide_number : call_of Raise (member (codes "mutex") (integer (pos 65536)) no_members) ≡ None
raise-wide_number = refl
