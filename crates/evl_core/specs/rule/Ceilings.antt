-- Which kinds of mutexes have a ceiling.
use Rattle.std.specs.Prelude.{Bool, true, false, Option}
use Rattle.std.specs.Option.{option_map_or}
use Rattle.evl_base.specs.declared.mutex_kind.MutexKind.{MutexKind}
use Rattle.evl_base.specs.declared.mutex_kind.MutexKind.TheVariants.{Normal, Recursive, Ceiling}

abbrev pub is_ceiling : MutexKind → Bool
is_ceiling Normal = false
is_ceiling Recursive = false
is_ceiling (Ceiling prio) = true

abbrev pub has_ceiling : Option MutexKind → Bool
has_ceiling kind = option_map_or is_ceiling kind false
