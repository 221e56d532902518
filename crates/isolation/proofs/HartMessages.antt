-- Rows of messages that arrive at a hart.
pub mod OneHartMoves
pub mod Arrivals
pub mod Deliveries
pub mod PutAckRows
pub mod AcknowledgeRows
pub mod RefusalPasts
pub mod Refusers
pub mod RefuseRows
pub mod RequestEnds
pub mod AnswerRows
pub mod GrantRows
pub mod AnswersOfOthers
pub mod AckRows
pub mod NackRows
pub mod MessageRows
