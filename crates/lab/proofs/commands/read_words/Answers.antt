use Rattle.std.proofs.Common.{◌≡◌, map, refl, subst, true}
use Rattle.clap.specs.Simple.{is_simple}
use Rattle.clap.specs.Words.{App, HasMatchesOf, kind_of, takes}
use Rattle.clap.specs.declared.error.kind.ErrorKind.TheVariants.{OutOfMemory}
use Rattle.lab.specs.Grammar.{callers_part, check_part, convert_part, draw_part, grammar, help_part, live_part, orders_part, play_part, run_part}
use Rattle.lab.proofs.commands.read_words.Goals as goal

is_plain : is_simple grammar ≡ true
unfolding callers_part check_part convert_part draw_part help_part live_part orders_part play_part run_part
is_plain = refl

pub returns-in-Ok-clause-part : goal.returns-in-Ok-clause-part
returns-in-Ok-clause-part c =
    (subst (λ (app : App). HasMatchesOf app (map (λ s. s.now) c.args.words.now) c.in-Ok.matches) c.in_ok-command_line.ensures c.in-Ok.ensures.matches is_plain).1

pub returns-in-Err-clause-taken : goal.returns-in-Err-clause-taken
returns-in-Err-clause-taken c =
    subst (λ (app : App). takes app (map (λ s. s.now) c.args.words.now) ≡ true → kind_of c.in-Err.error ≡ OutOfMemory) c.in_ok-command_line.ensures c.in-Err.ensures.passes
