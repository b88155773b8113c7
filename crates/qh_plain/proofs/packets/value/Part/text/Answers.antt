use Rattle.qh_plain.proofs.packets.value.Part.text.Goals as goal

pub returns-in-Counted-clause-none : goal.returns-in-Counted-clause-none
returns-in-Counted-clause-none c = rw c.in-Counted.is c.counted.ensures.none
