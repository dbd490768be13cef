mod Travel
mod InOrder
mod InRange
