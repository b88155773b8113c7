use Rattle.std.proofs.Common.{take}
use Rattle.std.specs.Prelude.{flat_map}
use Rattle.qh_h3wire.specs.Settings.{entry_bytes}
use Rattle.qh_h3wire.proofs.Growing.{grown_at_err}
use Rattle.qh_h3wire.proofs.settings.write_entries.Goals as goal

pub returns-in_err-write_entry-clause-err : goal.returns-in_err-write_entry-clause-err
returns-in_err-write_entry-clause-err c =
    grown_at_err c.from_residual.result c.args.out.now.items c.loop-entry.out.items c.write_entry.new.out.items (flat_map entry_bytes (take c.loop-entry.entry-index c.args.entries.now)) c.loop-entry.invariant c.in_err-write_entry.ensures.err
