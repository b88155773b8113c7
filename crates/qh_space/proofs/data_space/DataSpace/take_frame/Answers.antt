use Rattle.std.proofs.Common.{◌∙◌, sym}
use Rattle.qh_space.specs.Receiving.IsFrameTaken.{streams}
use Rattle.qh_space.proofs.StreamsStep.{received_owed}
use Rattle.qh_space.proofs.data_space.DataSpace.take_frame.Goals as goal

pub returns-in-Some-clause-ok : goal.returns-in-Some-clause-ok
returns-in-Some-clause-ok c = streams _ _ (sym c.in-Ok.ensures.ok ∙ c.in-Some.is) c.in_ok-take_coming.ensures.ok c.in_ok-take_coming.ensures.rest

pub returns-in-Some-clause-space : goal.returns-in-Some-clause-space
returns-in-Some-clause-space c = rw c.in_ok-take_coming.ensures.rest (record {
  owed = received_owed _ _ _ _ c.in_ok-take_coming.ensures.ok c.take_coming.ensures.keeps_out c.requires.owed;
  next = c.requires.next;
  bound = c.requires.bound;
  acked = c.requires.acked;
  in_order = c.requires.in_order;
  due = c.requires.due;
})
