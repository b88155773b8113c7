-- How a run ends: its status and its last line (own).
use Rattle.std.specs.Prelude.{ℕ, List, [], ◌++◌, codes, decimal}
use Rattle.qh_spec.specs.Report.{newline}
use Rattle.qh_exchange.specs.declared.ending.Ending.{Ending}
use Rattle.qh_exchange.specs.declared.ending.Outcome.{Outcome}
use Rattle.qh_exchange.specs.declared.ending.Outcome.TheVariants.{Done, Unknown, Refused, Failed, Unlisted, ReadFault, Unbuilt}
use Rattle.qh_pair.specs.declared.error.ExchangeError.{ExchangeError}
use Rattle.qh_pair.specs.declared.error.ExchangeError.TheVariants.{Invalid, Link, TimedOut, OutOfRounds, Protocol, Memory}

-- ---- the status of an error of an exchange, and its line

abbrev pub error_status : ExchangeError → ℕ
error_status (Invalid index) = 4
error_status TimedOut = 5
error_status OutOfRounds = 6
error_status Link = 7
error_status (Protocol e) = 8
error_status Memory = 9

abbrev pub error_line : ExchangeError → List ℕ
error_line (Invalid index) = codes "invalid " ++ (decimal index ++ newline)
error_line TimedOut = codes "timed out" ++ newline
error_line OutOfRounds = codes "out of rounds" ++ newline
error_line Link = codes "link" ++ newline
error_line (Protocol e) = codes "protocol" ++ newline
error_line Memory = codes "memory" ++ newline

-- ---- the other lines

abbrev pub usage_line : List ℕ
usage_line = codes "usage: h3run exchange, make N SEED, workers N, tokens" ++ newline

abbrev pub unbuilt_line : List ℕ
unbuilt_line = codes "unbuilt" ++ newline

abbrev pub read_fault_line : List ℕ
read_fault_line = codes "read fault" ++ newline

abbrev pub refused_line : ℕ → List ℕ
refused_line n = codes "line " ++ (decimal n ++ newline)

-- where the entries of what was served aren't listed
abbrev pub unlisted_line : List ℕ
unlisted_line = codes "unlisted" ++ newline

-- ---- an outcome

abbrev pub status_of : Outcome → ℕ
status_of Done = 0
status_of Unknown = 2
status_of (Refused n) = 3
status_of (Failed e) = error_status e
status_of (Unlisted e) = error_status e
status_of ReadFault = 10
status_of Unbuilt = 12

abbrev pub line_of : Outcome → List ℕ
line_of Done = []
line_of Unknown = usage_line
line_of (Refused n) = refused_line n
line_of (Failed e) = error_line e
line_of (Unlisted e) = unlisted_line ++ error_line e
line_of ReadFault = read_fault_line
line_of Unbuilt = unbuilt_line

-- all that a run writes
abbrev pub text_of : Ending → List ℕ
text_of e = e.text.items ++ line_of e.last
