use Rattle.qh_script.proofs.TokenLines.{no_limits_alone, no_limits_bytes, no_limits_k, is_limits}
use Rattle.qh_script.proofs.tokens.line.read_limits.Goals as goal

pub returns-in_err-bytes : goal.returns-in_err-bytes
returns-in_err-bytes c = rw (c.from_residual.ensures) (no_limits_alone c.args.text.now c.in_err-bytes.ensures)

pub returns-in_err-max_bytes : goal.returns-in_err-max_bytes
returns-in_err-max_bytes c =
    rw (c.from_residual-in_err-max_bytes.ensures)
    (no_limits_bytes c.args.text.now c.in_ok-bytes.bytes.now c.in_ok-bytes.k.now c.in_ok-bytes.ensures c.in_err-max_bytes.ensures)

pub returns-in_err-k_num : goal.returns-in_err-k_num
returns-in_err-k_num c =
    rw (c.from_residual-in_err-k_num.ensures)
    (no_limits_k c.args.text.now c.in_ok-bytes.bytes.now c.in_ok-bytes.k.now c.in_ok-bytes.ensures c.in_err-k_num.ensures)

pub returns : goal.returns
returns c =
    let b = c.in_ok-max_bytes.ensures in
    let k = c.in_ok-k_num.ensures in
    is_limits c.args.text.now c.in_ok-bytes.bytes.now c.in_ok-bytes.k.now c.in_ok-max_bytes.max_bytes c.in_ok-k_num.field-0 c.in_ok-bytes.ensures b.0 b.1 k.0 k.1
