mod ActedAt
mod Acts
mod Advancing
mod Beginnings
mod Begun
mod Bringing
mod CallActs
mod CallCloses
mod CallDatagrams
mod CallLogs
mod CallParts
pub mod CallReads
mod CallRecvEnds
mod CallSends
pub mod CallStops
mod CallStreams
mod Closes
mod Counting
mod DatagramCalls
mod HalfEnds
mod HandleCounts
mod Handling
pub mod Heard
pub mod Holding
pub mod InOrder
mod KeptCalls
pub mod LostReads
pub mod Moving
pub mod OpenCalls
pub mod OpenReads
pub mod Opens
mod Payloads
pub mod ReadCalls
pub mod ReadSteps
pub mod Recordings
mod RecvEnds
pub mod Recvs
mod SendingOn
mod Sendings
pub mod Sends
mod Settling
pub mod ShutReads
mod StatesKept
pub mod StopCalls
pub mod StopSteps
mod TakenUp
mod TakingUp
mod Tellings
mod TurnStates
mod TurnRecords
mod Turns
mod ValueCalls
mod WaitingLists
mod Waits
pub mod Writes
