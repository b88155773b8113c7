use Rattle.qh_hello.proofs.Puts.{map_ok, six_put}
use Rattle.qh_hello.proofs.write.put_limits.Goals as goal

pub returns : goal.returns
returns c =
    map_ok c.put_number-6.result c.put_number-6.ensures
    (six_put _ _ _ _ _ _ _ _ _ _ _ _ _ c.in_ok-put_number.ensures c.in_ok-put_number-2.ensures c.in_ok-put_number-3.ensures c.in_ok-put_number-4.ensures c.in_ok-put_number-5.ensures)
