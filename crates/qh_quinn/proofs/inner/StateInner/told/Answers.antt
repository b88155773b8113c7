use Rattle.qh_quinn.proofs.Recordings.{data_again, data_told, get_again, get_told}
use Rattle.qh_quinn.proofs.inner.StateInner.told.Goals as goal

pub returns-in-HandshakeData-clause-has : goal.returns-in-HandshakeData-clause-has
returns-in-HandshakeData-clause-has g c = λ r may. data_told r c.told_by.result c.told_by.ensures.some (rw c.in-HandshakeData.is at may)

pub returns-in-HandshakeData-clause-again : goal.returns-in-HandshakeData-clause-again
returns-in-HandshakeData-clause-again g c = rw c.in-HandshakeData.is (λ r tells telling.
    data_again g.S.Session.knows g.S.Session.name g.S.Session.told c.args.self.now.connection c.args.self.now.error r c.told_by.result c.told_by.ensures.is (tells telling))

pub returns-in-Get-clause-has : goal.returns-in-Get-clause-has
returns-in-Get-clause-has g c = λ r may. get_told c.in-Get.getter r c.told_by-in-Get.result c.told_by-in-Get.ensures.some (rw c.in-Get.is at may)

pub returns-in-Get-clause-again : goal.returns-in-Get-clause-again
returns-in-Get-clause-again g c = rw c.in-Get.is (λ r tells telling.
    get_again g.S.Session.knows g.S.Session.name g.S.Session.told c.args.self.now.connection c.args.self.now.error c.in-Get.getter r c.told_by-in-Get.result c.told_by-in-Get.ensures.is (tells telling))
