pub mod IncomingToken
