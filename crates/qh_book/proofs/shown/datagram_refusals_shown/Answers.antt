use Rattle.qh_book.proofs.ShownDatagrams.{read_lost, read_waits, send_disabled, send_too_large, send_unsupported, send_waits}
use Rattle.qh_book.proofs.shown.datagram_refusals_shown.Goals as goal

pub returns-clause-read : goal.returns-clause-read
returns-clause-read g c = λ d l b shown. read_waits g.row.T.Denot d l b shown

pub returns-clause-lost : goal.returns-clause-lost
returns-clause-lost g c = λ d l b e shown. read_lost g.row.T.Denot d l b shown e

pub returns-clause-disabled : goal.returns-clause-disabled
returns-clause-disabled g c = λ d l b payload wait shown. send_disabled g.row.T.Denot d l b shown payload wait

pub returns-clause-unsupported : goal.returns-clause-unsupported
returns-clause-unsupported g c = λ d l b payload wait shown. send_unsupported g.row.T.Denot d l b shown payload wait

pub returns-clause-too_large : goal.returns-clause-too_large
returns-clause-too_large g c = λ d l b payload wait most shown none on known. send_too_large g.row.T.Denot d l b shown payload wait none most on known

pub returns-clause-waits : goal.returns-clause-waits
returns-clause-waits g c = λ d l b payload most shown. send_waits g.row.T.Denot d l b shown payload most
