pub mod Alone
pub mod Asks
pub mod OneOrder
pub mod Orders
pub mod Outcomes
pub mod StepOrders
pub mod Verdicts
