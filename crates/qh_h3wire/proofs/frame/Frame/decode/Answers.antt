use Rattle.std.proofs.Common.{arith}
use Rattle.qh_h3wire.proofs.FramesRead.{read_facts, sound_settings}
use Rattle.qh_h3wire.proofs.frame.Frame.decode.Goals as goal

pub returns-clause-found : goal.returns-clause-found
returns-clause-found c = (read_facts c.args.bytes.now c.decode_by_list.result.0 c.decode_by_list.result.1 (λ i. omega (arith, c.type_inv.bytes i)) c.decode_by_list.ensures.exact).found

pub returns-clause-headers : goal.returns-clause-headers
returns-clause-headers c = (read_facts c.args.bytes.now c.decode_by_list.result.0 c.decode_by_list.result.1 (λ i. omega (arith, c.type_inv.bytes i)) c.decode_by_list.ensures.exact).headers

pub returns-clause-data_len : goal.returns-clause-data_len
returns-clause-data_len c = (read_facts c.args.bytes.now c.decode_by_list.result.0 c.decode_by_list.result.1 (λ i. omega (arith, c.type_inv.bytes i)) c.decode_by_list.ensures.exact).data_len

pub returns-clause-forbidden : goal.returns-clause-forbidden
returns-clause-forbidden c = (read_facts c.args.bytes.now c.decode_by_list.result.0 c.decode_by_list.result.1 (λ i. omega (arith, c.type_inv.bytes i)) c.decode_by_list.ensures.exact).forbidden

pub returns-clause-unknown : goal.returns-clause-unknown
returns-clause-unknown c = (read_facts c.args.bytes.now c.decode_by_list.result.0 c.decode_by_list.result.1 (λ i. omega (arith, c.type_inv.bytes i)) c.decode_by_list.ensures.exact).unknown

pub returns-clause-malformed : goal.returns-clause-malformed
returns-clause-malformed c = (read_facts c.args.bytes.now c.decode_by_list.result.0 c.decode_by_list.result.1 (λ i. omega (arith, c.type_inv.bytes i)) c.decode_by_list.ensures.exact).malformed

pub returns-clause-settings : goal.returns-clause-settings
returns-clause-settings c = (read_facts c.args.bytes.now c.decode_by_list.result.0 c.decode_by_list.result.1 (λ i. omega (arith, c.type_inv.bytes i)) c.decode_by_list.ensures.exact).settings

pub returns-clause-incomplete : goal.returns-clause-incomplete
returns-clause-incomplete c = (read_facts c.args.bytes.now c.decode_by_list.result.0 c.decode_by_list.result.1 (λ i. omega (arith, c.type_inv.bytes i)) c.decode_by_list.ensures.exact).incomplete

pub returns-clause-memory : goal.returns-clause-memory
returns-clause-memory c = sound_settings c.args.bytes.now c.decode_by_list.result.0 c.decode_by_list.result.1 (λ i. omega (arith, c.type_inv.bytes i)) c.decode_by_list.ensures.exact
