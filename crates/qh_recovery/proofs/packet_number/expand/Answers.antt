-- The number that is found is the nearest that the low bytes can mean.
use Rattle.std.proofs.Common.{arith}
use Rattle.qh_recovery.proofs.PacketNumbers.{is_window, expanded, found}
use Rattle.qh_recovery.proofs.packet_number.expand.Goals as goal

pub pow-window-requires : goal.pow-window-requires
pow-window-requires c =
    let small = (is_window c.args.width c.requires.some c.requires.few).small in
    omega arith

pub nearest-requires-clause-window : goal.nearest-requires-clause-window
nearest-requires-clause-window c =
    let small = (is_window c.args.width c.requires.some c.requires.few).small in
    omega arith

pub nearest-requires-clause-even : goal.nearest-requires-clause-even
nearest-requires-clause-even c =
    rw c.pow-window.ensures (is_window c.args.width c.requires.some c.requires.few).even

pub returns-clause-expanded : goal.returns-clause-expanded
returns-clause-expanded c =
    let by = rw c.pow-window.ensures at c.nearest.ensures in
    expanded c.args.expected c.args.low c.args.width c.nearest.result c.requires.some c.requires.few c.requires.bytes c.requires.number by

pub returns-clause-found : goal.returns-clause-found
returns-clause-found c =
    let by = rw c.pow-window.ensures at c.nearest.ensures in
    λ n candidate above below. found c.args.expected c.args.low c.args.width c.nearest.result n c.requires.some c.requires.few
    (expanded c.args.expected c.args.low c.args.width c.nearest.result c.requires.some c.requires.few c.requires.bytes c.requires.number by) candidate above below
