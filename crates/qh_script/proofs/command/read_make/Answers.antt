use Rattle.std.proofs.Common.{◌∙◌, sym}
use Rattle.qh_spec.specs.Words.{make}
use Rattle.qh_script.proofs.Decimals.{three_words}
use Rattle.qh_script.proofs.command.read_make.Goals as goal

pub returns-in_ok-read_below-in-make : goal.returns-in_ok-read_below-in-make
returns-in_ok-read_below-in-make c =
    let k = c.in_ok-read_count-in-make.ensures in
    let s = c.in_ok-read_below-in-make.ensures in
    make c.in_ok-read_count-in-make.field-0 c.in_ok-read_below-in-make.field-0
    (three_words _ _ _ _ _ _ c.in-make.is k.0.0 (sym c.as_bytes.ensures.value ∙ s.0.0)) k.1 k.2 s.1
