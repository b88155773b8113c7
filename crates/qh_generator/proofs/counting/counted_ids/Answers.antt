use Rattle.qh_generator.proofs.Ids.{first_count, first_order, id_mark, id_size, ids_again, ids_apart, marks_apart}
use Rattle.qh_generator.proofs.counting.counted_ids.Goals as goal

pub returns-clause-form : goal.returns-clause-form
returns-clause-form c = λ len mark n room. (id_size len mark n room, id_mark len mark n)

pub returns-clause-apart : goal.returns-clause-apart
returns-clause-apart c = ids_apart

pub returns-clause-marks : goal.returns-clause-marks
returns-clause-marks c = marks_apart

pub returns-clause-again : goal.returns-clause-again
returns-clause-again c = ids_again

pub returns-clause-count : goal.returns-clause-count
returns-clause-count c = first_count

pub returns-clause-order : goal.returns-clause-order
returns-clause-order c = first_order
