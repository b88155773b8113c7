use Rattle.qh_owing.proofs.OwingCalls.{accept_owes, chunks_owe, concurrent_owes, endpoint_owes, finish_owes, open_owes, poll_owes, priority_owes, read_owes, receive_window_owes, received_reset_owes, reset_owes, send_window_owes, stop_owes, write_owes}
use Rattle.qh_owing.proofs.OwingConnections.{close_owes, event_owes, timed_out, transmit_owes}
use Rattle.qh_owing.proofs.OwingMade.{turned_owes}
use Rattle.qh_owing.proofs.WhatIsOwed.{confirmed, fresh, still_owed}
use Rattle.qh_streams.specs.Streams.{is_two_way}
use Rattle.qh_owing.proofs.laws.owing.Goals as goal

pub returns-clause-owed : goal.returns-clause-owed
returns-clause-owed g c = still_owed

pub returns-clause-confirmed : goal.returns-clause-confirmed
returns-clause-confirmed g c = confirmed

pub returns-clause-fresh : goal.returns-clause-fresh
returns-clause-fresh g c = fresh

pub returns-clause-event : goal.returns-clause-event
returns-clause-event g c = event_owes

pub returns-clause-transmit : goal.returns-clause-transmit
returns-clause-transmit g c = transmit_owes

pub returns-clause-timeout : goal.returns-clause-timeout
returns-clause-timeout g c = timed_out

pub returns-clause-close : goal.returns-clause-close
returns-clause-close g c = close_owes

pub returns-clause-poll : goal.returns-clause-poll
returns-clause-poll g c = poll_owes

pub returns-clause-endpoint : goal.returns-clause-endpoint
returns-clause-endpoint g c = endpoint_owes

pub returns-clause-turned : goal.returns-clause-turned
returns-clause-turned g c = turned_owes

pub returns-clause-opens : goal.returns-clause-opens
returns-clause-opens g c = open_owes

pub returns-clause-accepts : goal.returns-clause-accepts
returns-clause-accepts g c = accept_owes

pub returns-clause-write : goal.returns-clause-write
returns-clause-write g c = write_owes

pub returns-clause-write_chunks : goal.returns-clause-write_chunks
returns-clause-write_chunks g c = chunks_owe

pub returns-clause-finish : goal.returns-clause-finish
returns-clause-finish g c = finish_owes

pub returns-clause-reset : goal.returns-clause-reset
returns-clause-reset g c = reset_owes

pub returns-clause-set_priority : goal.returns-clause-set_priority
returns-clause-set_priority g c = priority_owes

pub returns-clause-read : goal.returns-clause-read
returns-clause-read g c = read_owes

pub returns-clause-stop : goal.returns-clause-stop
returns-clause-stop g c = stop_owes

pub returns-clause-received_reset : goal.returns-clause-received_reset
returns-clause-received_reset g c = received_reset_owes

pub returns-clause-set_max_concurrent_streams : goal.returns-clause-set_max_concurrent_streams
returns-clause-set_max_concurrent_streams g c = λ accepts dir. concurrent_owes accepts (is_two_way dir)

pub returns-clause-set_send_window : goal.returns-clause-set_send_window
returns-clause-set_send_window g c = send_window_owes

pub returns-clause-set_receive_window : goal.returns-clause-set_receive_window
returns-clause-set_receive_window g c = receive_window_owes
