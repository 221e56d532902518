pub mod Replays
mod Courses
mod Returns
mod Locals
mod Payments
mod Turns
mod PlayedAgain
mod WholeTurns
mod Within
