pub mod Costs
pub mod Budget
pub mod Plan
pub mod Prices
pub mod Operations
pub mod PlanText
pub mod Choices
pub mod Offers
