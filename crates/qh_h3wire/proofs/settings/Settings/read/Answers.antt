use Rattle.qh_h3wire.proofs.SettingsReading.{few_others}
use Rattle.qh_h3wire.proofs.settings.Settings.read.Goals as goal

pub take_front-requires-clause-room : goal.take_front-requires-clause-room
take_front-requires-clause-room c = few_others c.args.payload.now c.loop-rest.rest.now c.loop-rest.reading c.loop-rest.invariant

pub loop-rest-smaller : goal.loop-rest-smaller
loop-rest-smaller c = (c.in_ok-rest.ensures c.args.payload.now c.loop-rest.invariant).0
