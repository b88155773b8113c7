use Rattle.qh_frame.proofs.FramesWritten.{appended}
use Rattle.std.specs.Int.{w32, to_be_bytes}
use Rattle.std.proofs.Common.{get_or, refl}
use Rattle.qh_packet.proofs.Versions.{more_versions}
use Rattle.qh_stateless.proofs.negotiation.put_listed.Goals as goal

pub loop-version-preserved : goal.loop-version-preserved
loop-version-preserved c = (
  more_versions c.args.out.now.items c.loop-version.out.items c.extend_from_slice.new.self.items c.args.versions.now c.loop-version.version-index (get_or c.args.versions.now c.loop-version.version-index 0)
      c.loop-version.invariant.0
      (appended c.extend_from_slice.result c.loop-version.out.items c.extend_from_slice.new.self.items (to_be_bytes w32 (get_or c.args.versions.now c.loop-version.version-index 0)) c.if-is_err.ensures.value
      (rw c.to_be_bytes.ensures at c.extend_from_slice.ensures.items))
      c.loop-version-test.true refl,
  c.loop-version.invariant.1,
)
