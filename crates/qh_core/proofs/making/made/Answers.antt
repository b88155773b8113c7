use Rattle.qh_core.proofs.MadeCalls.{accept_made, concurrent_made, finish_made, open_made, priority_made, read_made, receive_window_made, received_reset_made, reset_made, send_window_made, stop_made, write_chunks_made, write_made}
use Rattle.qh_core.proofs.MadeEnds.{close_made, control_made, endpoint_made, event_made, poll_made, timeout_made, transmit_made, turned_made}
use Rattle.qh_core.proofs.making.made.Goals as goal

pub returns-clause-event : goal.returns-clause-event
returns-clause-event g c = event_made

pub returns-clause-transmit : goal.returns-clause-transmit
returns-clause-transmit g c = transmit_made

pub returns-clause-control : goal.returns-clause-control
returns-clause-control g c = control_made

pub returns-clause-timeout : goal.returns-clause-timeout
returns-clause-timeout g c = timeout_made

pub returns-clause-close : goal.returns-clause-close
returns-clause-close g c = close_made

pub returns-clause-poll : goal.returns-clause-poll
returns-clause-poll g c = poll_made

pub returns-clause-endpoint : goal.returns-clause-endpoint
returns-clause-endpoint g c = endpoint_made

pub returns-clause-turned : goal.returns-clause-turned
returns-clause-turned g c = turned_made

pub returns-clause-open : goal.returns-clause-open
returns-clause-open g c = open_made

pub returns-clause-accept : goal.returns-clause-accept
returns-clause-accept g c = accept_made

pub returns-clause-write : goal.returns-clause-write
returns-clause-write g c = write_made

pub returns-clause-write_chunks : goal.returns-clause-write_chunks
returns-clause-write_chunks g c = write_chunks_made

pub returns-clause-finish : goal.returns-clause-finish
returns-clause-finish g c = finish_made

pub returns-clause-reset : goal.returns-clause-reset
returns-clause-reset g c = reset_made

pub returns-clause-set_priority : goal.returns-clause-set_priority
returns-clause-set_priority g c = priority_made

pub returns-clause-read : goal.returns-clause-read
returns-clause-read g c = read_made

pub returns-clause-stop : goal.returns-clause-stop
returns-clause-stop g c = stop_made

pub returns-clause-received_reset : goal.returns-clause-received_reset
returns-clause-received_reset g c = received_reset_made

pub returns-clause-set_max_concurrent_streams : goal.returns-clause-set_max_concurrent_streams
returns-clause-set_max_concurrent_streams g c = concurrent_made

pub returns-clause-set_send_window : goal.returns-clause-set_send_window
returns-clause-set_send_window g c = send_window_made

pub returns-clause-set_receive_window : goal.returns-clause-set_receive_window
returns-clause-set_receive_window g c = receive_window_made
