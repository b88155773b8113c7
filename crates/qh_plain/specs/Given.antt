-- A target as fields give it, without where its bytes lie.
use Rattle.std.specs.Prelude.{Some}
use Rattle.std.specs.Option.{option_copied}
use Rattle.qh_spec.specs.Message.{PlainTarget}
use Rattle.qh_plain.specs.declared.meanings.head.Given.{Given}

abbrev pub given_of : Given → PlainTarget
given_of g = record { scheme = option_copied g.scheme; authority = Some g.authority.now; path_and_query = g.path_and_query.now }
