use Rattle.std.proofs.Common.{rules}
use Rattle.qh_script.proofs.Hex.{no_hex, hex_more}
use Rattle.qh_script.proofs.line.hex.read_hex.Goals as goal

pub unreachable-requires : goal.unreachable-requires
unreachable-requires c =
    no_hex c.args.text.now c.loop-rest.rest.now c.loop-rest.bytes.items (search rules) c.loop-rest.invariant c.in_default.ensures c.requires.0 c.requires.1

pub loop-rest-preserved : goal.loop-rest-preserved
loop-rest-preserved c =
    rw (c.in_ok-push.ensures.items) (hex_more c.args.text.now c.loop-rest.rest.now c.loop-rest.bytes.items c.in-Some.byte c.loop-rest.invariant c.in-Some.ensures)
